-- What a look at a threshold decides, and what looks leave. Where a list of positive numbers rises, those not above x are a first part of it: the one
-- at a place is not above x exactly if more of them than that place are not. So a look at the middle leaves one half.
use mathlib.Core.Path.{◌≡◌, refl, sym, ◌∙◌, subst}
use mathlib.Core.Bool.{Bool, true, false, cond}
use mathlib.Core.List.{List, [], ◌∷◌}
use Prim.Native.Nat.{ℕ, zero, suc, ◌+◌, ◌<◌, ◌≤◌, min}
use native.Mathlib.Nat.{le_of_suc-le-suc, not-suc-le-zero}
use native.Mathlib.Omega.{arith}
use lib.Dec.{T, ltb, leb-suc-suc}
use lib.Ieee.{Float, nan, inf, fin, lt, le}
use lib.Ieee.Positive.{positive, above_of_le, le_trans_positive}
use borrow.Author.Tests.{lt-ltb, le-ltb, ltb-true, ltb-false}
use lib.ListN.{length, get_or}
use Rattle.law_rounding.specs.Floats.{f0}
use Rattle.law_lists.specs.Every.{every}
use Rattle.law_lists.proofs.Every.{and_left, and_right}
use Rattle.index_coefficients.specs.CoefficientRules.{rising_from}
use Rattle.index_choice.specs.Indices.{not_above, thresholds}
use Rattle.index_choice.specs.IndexRules.{thresholds_positive, thresholds_rise}

-- ---- a number and another below it, beside x

true_of : (b : Bool) → b ≡ true → T b
true_of b e = subst T (sym e) tt

not_both : (b : Bool) → b ≡ false → T b → ⊥
not_both b e t = subst T e t

-- a number is not above one that it is below
below_is_not_above : (t u : Float) → lt t u ≡ true → T (le t u)
unfolding le
below_is_not_above t u h = rw h tt

-- where u is not above x, nor is a t below u
through : (t u x : Float) → T (positive t) → T (positive u) → lt t u ≡ true → T (le u x) → T (le t x)
unfolding le
through t u nan p q h k = absurd (above_of_le u nan q k)
through t u (inf true) p q h k = absurd (above_of_le u (inf true) q k)
through nan u (inf false) p q h k = absurd p
through (inf s) u (inf false) p q h k = absurd p
through (fin s m e) u (inf false) p q h k = tt
through t u (fin true n d) p q h k = absurd (above_of_le u (fin true n d) q k)
through t u (fin false n d) p q h k = le_trans_positive t u (fin false n d) p q (above_of_le u (fin false n d) q k) (below_is_not_above t u h) k

-- so where t is above x, or x is NaN, the same holds of a u above t
above_too : (t u x : Float) → T (positive t) → T (positive u) → lt t u ≡ true → le t x ≡ false → le u x ≡ false
above_too t u x p q h k = decided (le u x) refl
  where
    decided : (b : Bool) → le u x ≡ b → b ≡ false
    decided true e = absurd (not_both (le t x) k (through t u x p q h (true_of (le u x) e)))
    decided false e = refl

-- ---- in a rising list

-- after a number that is not counted none is
none_after : (x t : Float) (us : List Float) → T (positive t) → every positive us ≡ true → rising_from t us ≡ true → le t x ≡ false → not_above x us ≡ 0
unfolding not_above rising_from
none_after x t [] p all rises k = refl
none_after x t (u ∷ us) p all rises k =
    let q : T (positive u) = true_of (positive u) (and_left (positive u) (every positive us) all) in
    let l : le u x ≡ false = above_too t u x p q (and_left (lt t u) (rising_from u us) rises) k in
    let n : not_above x us ≡ 0 = none_after x u us q (and_right (positive u) (every positive us) all) (and_right (lt t u) (rising_from u us) rises) l in
    rw l (omega arith)

-- a list by its first number: where that is not counted, no number is
by_the_first : (x t : Float) (ts : List Float) (b : Bool) → le t x ≡ b → (b ≡ false → not_above x ts ≡ 0)
    → ((k : ℕ) → k < length ts → le (get_or ts k nan) x ≡ ltb k (not_above x ts))
    → (k : ℕ) → k < suc (length ts) → le (get_or (t ∷ ts) k nan) x ≡ ltb k (cond b 1 0 + not_above x ts)
by_the_first x t ts true e none rest zero h = e ∙ sym (lt-ltb 0 (1 + not_above x ts) (omega arith))
by_the_first x t ts true e none rest (suc k) h =
    let n : 1 + not_above x ts ≡ suc (not_above x ts) = omega arith in
    rw n (rest k (le_of_suc-le-suc h) ∙ sym (leb-suc-suc (suc k) (not_above x ts)))
by_the_first x t ts false e none rest zero h = e ∙ sym (le-ltb 0 (0 + not_above x ts) (omega (arith, none refl)))
by_the_first x t ts false e none rest (suc k) h =
    rest k (le_of_suc-le-suc h) ∙ le-ltb k (not_above x ts) (omega (arith, none refl)) ∙ sym (le-ltb (suc k) (0 + not_above x ts) (omega (arith, none refl)))

-- the number at a place is not above x exactly if more of them than that place are not
pub first_part : (x before : Float) (ts : List Float) → every positive ts ≡ true → rising_from before ts ≡ true
    → (k : ℕ) → k < length ts → le (get_or ts k nan) x ≡ ltb k (not_above x ts)
unfolding not_above rising_from
first_part x before [] all rises k h = absurd (not-suc-le-zero h)
first_part x before (t ∷ ts) all rises k h =
    let positives = and_right (positive t) (every positive ts) all in
    let rest = and_right (lt before t) (rising_from t ts) rises in
    by_the_first x t ts (le t x) refl (none_after x t ts (true_of (positive t) (and_left (positive t) (every positive ts) all)) positives rest) (first_part x t ts positives rest) k h

-- ---- the thresholds

-- what a look at a threshold decides
pub looked : (x : Float) (place : ℕ) → place < 8 → le (get_or thresholds place nan) x ≡ ltb place (not_above x thresholds)
looked x place h = first_part x f0 thresholds thresholds_positive thresholds_rise place h

-- ---- what is left after looks

-- Of the eight thresholds n are not above x. Of the first seven it is `found` or more, and fewer than `found + left`: the count of these can still be
-- one of `left` numbers.
pub record Left (n found left : ℕ) : Type 0 where
  pub least : found ≤ min n 7
  pub below : min n 7 < found + left
  pub inside : found + left ≤ 8

pub at_first : (n : ℕ) → Left n 0 8
at_first n = record { least = omega arith; below = omega arith; inside = omega arith }

-- a look leaves one half: the upper where the threshold at its place is not above x, and else the lower
pub halved : (n found next half place : ℕ) → Left n found (half + half) → place + 1 ≡ found + half → next ≡ found + cond (ltb place n) half 0 → Left n next half
halved n found next half place l p e = decided (ltb place n) refl e
  where
    decided : (b : Bool) → ltb place n ≡ b → next ≡ found + cond b half 0 → Left n next half
    decided true t e =
        let more : place < n = ltb-true place n t in
        record { least = omega arith; below = omega arith; inside = omega arith }
    decided false t e =
        let fewer : n ≤ place = ltb-false place n t in
        record { least = omega arith; below = omega arith; inside = omega arith }

-- where one number is left, the look at the eighth threshold tells the count
pub counted : (n found count : ℕ) → n ≤ 8 → Left n found 1 → count ≡ found + cond (ltb 7 n) 1 0 → count ≡ n
counted n found count h l e = decided (ltb 7 n) refl e
  where
    decided : (b : Bool) → ltb 7 n ≡ b → count ≡ found + cond b 1 0 → count ≡ n
    decided true t e = let more : 7 < n = ltb-true 7 n t in omega arith
    decided false t e = let fewer : n ≤ 7 = ltb-false 7 n t in omega arith
