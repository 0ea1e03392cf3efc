-- Laws of the index rule that callers use in place of its text.
use mathlib.Core.Path.{◌≡◌}
use mathlib.Core.Bool.{Bool, true, false, ◌&&◌, cond}
use mathlib.Core.List.{List, [], ◌∷◌}
use Prim.Native.Nat.{ℕ, zero, suc, ◌+◌, ◌-◌, ◌≤◌, ◌<◌}
use native.Mathlib.Nat.{le_of_suc-le-suc, not-suc-le-zero}
use native.Mathlib.Omega.{arith}
use lib.Dec.{eqb}
use lib.Ieee.{Float, le, neg}
use borrow.Author.Tests.{eqb-true}
use lib.ListN.{length, get_or}
use Rattle.law_rounding.specs.Floats.{f0, f1}
use Rattle.index_choice.specs.Indices.{not_above, index_of, order_from, order_of, thresholds}
use Rattle.index_coefficients.specs.Coefficients.{coefficient_of, coefficients}
use Rattle.index_choice.specs.IndexRules.{count_up, indices_agree}
use Rattle.law_lists.proofs.Every.{and_left, and_right}

pub at_most_all : (x : Float) (ts : List Float) → not_above x ts ≤ length ts
unfolding not_above
at_most_all x [] = omega arith
at_most_all x (t ∷ ts) = counted (le t x) (at_most_all x ts)
  where
    counted : (b : Bool) → not_above x ts ≤ length ts → cond b 1 0 + not_above x ts ≤ suc (length ts)
    counted true h = omega arith
    counted false h = omega arith

-- an index is at most 16
pub index_at_most : (x : Float) → index_of x ≤ 16
unfolding index_of
index_at_most x = chosen (le f0 x && le x f1) (le (neg f1) x && le x f0) (at_most_all x thresholds)
  where
    chosen : (a b : Bool) → not_above x thresholds ≤ 8 → cond a (8 + not_above x thresholds) (cond b (8 - not_above (neg x) thresholds) 8) ≤ 16
    chosen true b h = omega arith
    chosen false true h = omega arith
    chosen false false h = omega arith

pub either_at_most : (b : Bool) (x y n : ℕ) → x ≤ n → y ≤ n → cond b x y ≤ n
either_at_most true x y n h k = h
either_at_most false x y n h k = k

order_from_at_most : (passed found : ℕ) (is : List ℕ) → found ≤ passed → order_from passed found is ≤ passed + length is
unfolding order_from
order_from_at_most passed found [] h = omega arith
order_from_at_most passed found (i ∷ is) h =
    let next = cond (eqb i 8) found (suc passed) in
    omega (arith, order_from_at_most (suc passed) next is (either_at_most (eqb i 8) found (suc passed) (suc passed) (omega arith) (omega arith)))

-- an order is at most the number of indices
pub order_at_most : (is : List ℕ) → order_of is ≤ length is
unfolding order_of
order_at_most is = omega (arith, order_from_at_most 0 0 is (omega arith))

count_up_at : (j : ℕ) (xs : List Float) → count_up j xs ≡ true → (d : Float) (i : ℕ) → i < length xs → index_of (get_or xs i d) ≡ j + i
unfolding count_up
count_up_at j [] e d i h = absurd (not-suc-le-zero h)
count_up_at j (x ∷ xs) e d zero h = omega (arith, eqb-true (index_of x) j (and_left (eqb (index_of x) j) (count_up (suc j) xs) e))
count_up_at j (x ∷ xs) e d (suc i) h = omega (arith, count_up_at (suc j) xs (and_right (eqb (index_of x) j) (count_up (suc j) xs) e) d i (le_of_suc-le-suc h))

-- index and coefficient agree
pub index_of_coefficient : (i : ℕ) → i < 17 → index_of (coefficient_of i) ≡ i
unfolding coefficient_of
index_of_coefficient i h = omega (arith, count_up_at 0 coefficients indices_agree f0 i h)
