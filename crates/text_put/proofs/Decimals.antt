-- The digits that `io::decimal` writes are the decimal of the definition, which has twenty at most.
use mathlib.Core.Path.{◌≡◌, ap, ◌∙◌, subst}
use mathlib.Core.Bool.{Bool, true, false, cond}
use mathlib.Core.List.{List, [], ◌∷◌, ◌++◌}
use Prim.Native.Nat.{ℕ, zero, suc, ◌+◌, ◌-◌, ◌/◌, ◌%◌, ◌^◌, ◌≤◌, ◌<◌}
use native.Mathlib.Nat.{pow-suc, pow-le-pow_right, one-le-pow}
use native.Mathlib.Decide.{dec_lt}
use native.Mathlib.Omega.{arith}
use lib.Dec.{ltb}
use borrow.Author.Tests.{lt-ltb, le-ltb}
use lib.ListN.{length, length-append}
use Rattle.io.specs.Digits.{last_digits as digits, IsDigitCount, hex_digit_ascii}
use Rattle.text_put.specs.Text.{decimal_in, decimal}

glyph_of : (d : ℕ) → d < 10 → hex_digit_ascii d ≡ 48 + d
glyph_of d h = rw (lt-ltb d 10 h)

one_digit : (fuel n : ℕ) → n < 10 → hex_digit_ascii (n % 10) ∷ [] ≡ decimal_in (suc fuel) n
unfolding decimal_in
one_digit fuel n h =
    let same : n % 10 ≡ n = omega arith in
    ap (λ (d : ℕ). d ∷ []) (glyph_of (n % 10) (omega arith) ∙ ap (λ (d : ℕ). 48 + d) same) ∙ rw (lt-ltb n 10 h)

more_digits : (fuel n : ℕ) (front : List ℕ) → 10 ≤ n → front ≡ decimal_in fuel (n / 10) → front ++ (hex_digit_ascii (n % 10) ∷ []) ≡ decimal_in (suc fuel) n
unfolding decimal_in
more_digits fuel n front h e =
    ap (λ (d : ℕ). front ++ (d ∷ [])) (glyph_of (n % 10) (omega arith)) ∙ ap (λ (f : List ℕ). f ++ ((48 + n % 10) ∷ [])) e ∙ rw (le-ltb n 10 h)

by_digits : (k fuel n : ℕ) → IsDigitCount 10 1 n (suc k) → k < fuel → digits 10 (suc k) n ≡ decimal_in fuel n
by_digits k zero n f h = absurd (omega arith)
by_digits zero (suc fuel) n f h = one_digit fuel n (omega (arith, f.1))
by_digits (suc k) (suc fuel) n f h =
    let e : suc (suc k) - 1 ≡ suc k = omega arith in
    let many : 10 ^ suc k ≤ n = subst (λ (j : ℕ). 10 ^ j ≤ n) e (f.2 (omega arith)) in
    let some : 1 ≤ 10 ^ k = one-le-pow k 10 (omega arith) in
    more_digits fuel n (digits 10 (suc k) (n / 10)) (omega (arith, pow-suc 10 k))
    (by_digits k fuel (n / 10) (omega arith, omega (arith, f.1, pow-suc 10 (suc k)), λ h. tenth k (n / 10) (omega (arith, pow-suc 10 k))) (omega arith))
  where
    tenth : (k m : ℕ) → 10 ^ k ≤ m → 10 ^ (suc k - 1) ≤ m
    tenth k m h = let e : suc k - 1 ≡ k = omega arith in rw e h

-- a number below 2 ^ 64 has at most twenty digits
at_most_20 : (k n : ℕ) → n < 2 ^ 64 → IsDigitCount 10 1 n (suc k) → k < 20
at_most_20 k n h f = elim (dec_lt k 20) [
  | yes few ↦ few
  | no many ↦
      let e : suc k - 1 ≡ k = omega arith in
      let long : 10 ^ k ≤ n = subst (λ (j : ℕ). 10 ^ j ≤ n) e (f.2 (omega arith)) in
      let far : 20 ≤ k = omega arith in
      let ten : 0 < 10 = omega arith in
      let more : 10 ^ 20 ≤ 10 ^ k = pow-le-pow_right ten far in
      absurd (omega arith)
]

pub decimal_digits : (k n : ℕ) → n < 2 ^ 64 → IsDigitCount 10 1 n k → digits 10 k n ≡ decimal n
unfolding decimal
decimal_digits zero n h f = absurd (omega (arith, f.0))
decimal_digits (suc k) n h f = by_digits k 20 n f (at_most_20 k n h f)

digits_at_most : (digits n : ℕ) → length (decimal_in digits n) ≤ digits
unfolding decimal_in
digits_at_most zero n = omega arith
digits_at_most (suc digits) n = either (ltb n 10) (digits_at_most digits (n / 10))
  where
    either : (b : Bool) → length (decimal_in digits (n / 10)) ≤ digits → length (cond b ((48 + n) ∷ []) (decimal_in digits (n / 10) ++ ((48 + n % 10) ∷ []))) ≤ suc digits
    either true h = omega arith
    either false h = omega (arith, length-append (decimal_in digits (n / 10)) ((48 + n % 10) ∷ []), h)

pub decimal_at_most : (n : ℕ) → length (decimal n) ≤ 20
unfolding decimal
decimal_at_most n = digits_at_most 20 n
