-- The index by the size of x and by its sign: what is counted of the size is taken off 8 where x is below 0, and added to it where x is not. The rule
-- (`index_of`) asks for the sign first and has a case for each. Both agree on every f32: NaN, the infinities and both zeros too.
use mathlib.Core.Path.{◌≡◌, refl, sym, ◌∙◌}
use mathlib.Core.Bool.{Bool, true, false, ◌&&◌, ◌||◌, cond, true≢false}
use Prim.Native.Nat.{ℕ, ◌+◌, ◌-◌, ◌*◌, ◌<◌, ◌≤◌}
use native.Mathlib.Decide.{dec_lt}
use native.Mathlib.Omega.{arith}
use lib.Dec.{ltb, eqb}
use lib.Ieee.{Float, nan, inf, fin, up, down, lt, le, eq, neg, of_bits}
use lib.Ieee.Fits.{down_pos}
use borrow.Author.Tests.{ltb-true, ltb-false, eqb-true, lt-ltb, le-ltb, eq-eqb, ne_eqb}
use Rattle.law_rounding.specs.Floats.{f0, f1}
use Rattle.index_choice.specs.Indices.{index_of, not_above, thresholds}
use Rattle.index_choice.proofs.Indices.{at_most_all, either_at_most}

-- ---- how two whole numbers compare, in the form that `le` of two floats comes to

at_most : (a b : ℕ) → a ≤ b → ltb a b || (eqb a b && true) ≡ true
at_most a b h = elim (dec_lt a b) [
  | yes l ↦ rw (lt-ltb a b l)
  | no l ↦ let e : a ≡ b = omega arith in rw (le-ltb a b (omega arith), eq-eqb a b e)
]

over : (a b : ℕ) → b < a → ltb a b || (eqb a b && true) ≡ false
over a b h = let n : a ≡ b → ⊥ = λ e. omega arith in rw (le-ltb a b (omega arith), ne_eqb a b n)

not_at_most : (a b : ℕ) → ltb a b || (eqb a b && true) ≡ false → b < a
not_at_most a b e = elim (dec_lt b a) [
  | yes l ↦ l
  | no l ↦ absurd (true≢false (sym (at_most a b (omega arith)) ∙ e))
]

either_way : (a b : ℕ) → eqb a b ≡ eqb b a
either_way a b = decided (eqb a b) refl
  where
    decided : (t : Bool) → eqb a b ≡ t → t ≡ eqb b a
    decided true e = sym (eq-eqb b a (sym (eqb-true a b e)))
    decided false e = sym (ne_eqb b a (λ s. true≢false (sym (eq-eqb a b (sym s)) ∙ e)))

none_below : (a b : ℕ) → b ≡ 0 → ltb a b ≡ true → ⊥
none_below a b z h = omega (arith, ltb-true a b h)

-- ---- x compared with 0 and 1

below_zero : (x : Float) → lt x f0 ≡ true → le f0 x ≡ false
unfolding lt le eq of_bits
below_zero nan h = refl
below_zero (inf true) h = refl
below_zero (inf false) h = sym h
below_zero (fin true m e) h =
    let more : 0 < m * up e * 1 + 0 * down e = ltb-true 0 (m * up e * 1 + 0 * down e) h in
    let other : 0 * down e ≡ m * up e * 1 → ⊥ = λ s. omega arith in
    rw (ne_eqb (0 * down e) (m * up e * 1) other)
below_zero (fin false m e) h = absurd (none_below (m * up e * 1) (0 * down e) (omega arith) h)

turned : (x : Float) → lt x f0 ≡ true → le (neg f1) x ≡ le (neg x) f1
unfolding lt le eq neg of_bits
turned nan h = refl
turned (inf true) h = refl
turned (inf false) h = refl
turned (fin true m e) h = rw (either_way (1 * down e) (m * up e * 1))
turned (fin false m e) h = absurd (none_below (m * up e * 1) (0 * down e) (omega arith) h)

within_one : (x : Float) → lt x f0 ≡ false → le x f1 ≡ true → le f0 x ≡ true
unfolding lt le eq of_bits
within_one nan h k = k
within_one (inf true) h k = sym h
within_one (inf false) h k = refl
within_one (fin true m e) h k =
    let none : m * up e * 1 + 0 * down e ≤ 0 = ltb-false 0 (m * up e * 1 + 0 * down e) h in
    let first : 0 * down e ≡ m * up e * 1 = omega arith in
    let second : 0 * down e ≡ 0 = omega arith in
    rw (eq-eqb (0 * down e) (m * up e * 1) first, eq-eqb (0 * down e) 0 second)
within_one (fin false m e) h k = at_most (0 * down e) (m * up e * 1) (omega arith)

beyond_one : (x : Float) → lt x f0 ≡ false → le x f1 ≡ false → le x f0 ≡ false
unfolding lt le eq of_bits
beyond_one nan h k = refl
beyond_one (inf true) h k = h
beyond_one (inf false) h k = refl
beyond_one (fin true m e) h k =
    let sum = m * up e * 1 + 1 * down e in
    let some : ltb 0 sum ≡ true = lt-ltb 0 sum (omega (arith, down_pos e)) in
    absurd (true≢false (rw some at k))
beyond_one (fin false m e) h k =
    let more : 1 * down e < m * up e * 1 = not_at_most (m * up e * 1) (1 * down e) k in
    over (m * up e * 1) (0 * down e) (omega arith)

at_most_zero : (x : Float) → lt x f0 ≡ true → le x f0 ≡ true
unfolding le
at_most_zero x h = rw h

-- ---- the index

-- x, turned around where it is below 0
abbrev pub size_of : Float → Float
size_of x = cond (lt x f0) (neg x) x

-- how many thresholds are not above a size that is at most 1, and 0 of any other
abbrev pub count_of : Float → ℕ
count_of size = cond (le size f1) (not_above size thresholds) 0

pub few : (size : Float) → count_of size ≤ 8
few size = either_at_most (le size f1) (not_above size thresholds) 0 8 (at_most_all size thresholds) (omega arith)

-- the rule's tests as Bools: in 0..1 by a and b, in -1..0 by c and d
by_difference : (a b c d e : Bool) (n m : ℕ) → a ≡ false → d ≡ true → c ≡ e → 8 - cond e m 0 ≡ cond (a && b) (8 + n) (cond (c && d) (8 - m) 8)
by_difference a b c d true n m p q r = rw (p, q, r)
by_difference a b c d false n m p q r = rw (p, r) (omega arith)

by_sum : (a b c d : Bool) (n m : ℕ) → (b ≡ true → a ≡ true) → (b ≡ false → d ≡ false) → 8 + cond b n 0 ≡ cond (a && b) (8 + n) (cond (c && d) (8 - m) 8)
by_sum a true c d n m p q = rw (p refl)
by_sum true false true d n m p q = rw (q refl) (omega arith)
by_sum true false false d n m p q = omega arith
by_sum false false true d n m p q = rw (q refl) (omega arith)
by_sum false false false d n m p q = omega arith

-- below 0
pub taken_off : (x : Float) → lt x f0 ≡ true → 8 - count_of (size_of x) ≡ index_of x
unfolding index_of
taken_off x h =
    rw h
    (by_difference (le f0 x) (le x f1) (le (neg f1) x) (le x f0) (le (neg x) f1) (not_above x thresholds) (not_above (neg x) thresholds) (below_zero x h) (at_most_zero x h) (turned x h))

-- not below 0, or NaN
pub added : (x : Float) → lt x f0 ≡ false → 8 + count_of (size_of x) ≡ index_of x
unfolding index_of
added x h =
    rw h (by_sum (le f0 x) (le x f1) (le (neg f1) x) (le x f0) (not_above x thresholds) (not_above (neg x) thresholds) (within_one x h) (beyond_one x h))
