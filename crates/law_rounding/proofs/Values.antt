-- What the words of `specs/Units` come to: an f32 that is finite is a whole number of units, one that is at most 2^m starts to be tracked, and
-- one that is tracked is within its bound.
use mathlib.Core.Path.{◌≡◌, refl, sym, ap, ◌∙◌}
use mathlib.Core.Bool.{Bool, true, false, ◌&&◌}
use Prim.Native.Nat.{ℕ, zero, suc, ◌-◌, ◌*◌, ◌%◌, ◌^◌, ◌≤◌}
use native.Mathlib.Nat.{le_of_suc-le-suc, lt_of_not-le, not-le_of_lt, lt_of_lt_of_le, mul-div_cancel}
use native.Mathlib.Omega.{arith}
use lib.Dec.{T, leb, ltb, eqb, leb→le, lit<}
use lib.Pow.{pow-add, pow_mono}
use lib.IntN.{ℤ, pos, negsuc, nat_abs, ◌*ℤ◌}
use lib.Ieee.{Float, nan, inf, fin, up, down, binary32, fits}
use lib.Ieee.Digits.{back}
use lib.Ieee.Fits.{and_l, and_r, down_pos}
use lib.Ieee.Exact.{HasValue}
use lib.Ieee.Scale.{finite}
use Rattle.law_rounding.specs.Units.{signed, in_units, power_in_units, AtMost, WithinOf}
use Rattle.law_rounding.proofs.Pairs.{pair, ◌⊡◌, Near, near_finer, near_wider, is_signed, is_finer, distance}
use Rattle.law_rounding.proofs.Rounding.{U}
use Rattle.law_rounding.proofs.Steps.{Tracks}

-- ---- a value in units

pub in_units_lem : (x : Float) (negative : Bool) (a k n : ℕ) → k ≤ n → HasValue x negative a (2 ^ k) → in_units n x ≡ signed negative (a * 2 ^ (n - k))
in_units_lem nan negative a k n h v = absurd v
in_units_lem (inf s) negative a k n h v = absurd v
in_units_lem (fin s m e) negative a k n h v =
    let power : 2 ^ n ≡ 2 ^ (n - k) * 2 ^ k = ap (λ (z : ℕ). 2 ^ z) (sym (back n k h)) ∙ pow-add 2 (n - k) k in
    let told : m * up e * 2 ^ n ≡ a * 2 ^ (n - k) * down e = ap (λ (z : ℕ). m * up e * z) power ∙ regrouped (m * up e) (2 ^ (n - k)) (2 ^ k) (down e) v.1 in
    rw (v.0, told, mul-div_cancel (a * 2 ^ (n - k)) (down_pos e)) refl
  where
    regrouped : (w p q d : ℕ) → w * q ≡ a * d → w * (p * q) ≡ a * p * d
    regrouped w p q d f =
        let f' : w * q * p ≡ a * d * p = ap (λ (z : ℕ). z * p) f in
        omega (arith, f')

finite_of : (x : Float) (negative : Bool) (a c : ℕ) → HasValue x negative a c → T (finite x)
finite_of nan negative a c v = v
finite_of (inf s) negative a c v = v
finite_of (fin s m e) negative a c v = tt

-- ---- every finite f32 is a whole number of units of 2^-149

record WholeUnits (x : Float) : Type 0 where
  negative : Bool
  size : ℕ
  value : HasValue x negative size U

no_finer : (k : ℕ) → 2 ^ suc k ≤ 2 ^ 149 → suc k ≤ 149
no_finer k h = le_of_suc-le-suc (lt_of_not-le (λ (past : 150 ≤ suc k). not-le_of_lt (lt_of_lt_of_le (lit< tt) (pow_mono past)) h))

whole : (s : Bool) (m : ℕ) (e : ℤ) → down e ≤ 2 ^ 149 → WholeUnits (fin s m e)
whole s m (pos k) h = record { negative = s; size = m * 2 ^ k * U; value = (refl, once (m * 2 ^ k * U)) }
  where
    once : (z : ℕ) → z ≡ z * 1
    once z = omega arith
whole s m (negsuc k) h =
    let rest = 2 ^ (149 - suc k) in
    let power : U ≡ rest * 2 ^ suc k = ap (λ (z : ℕ). 2 ^ z) (sym (back 149 (suc k) (no_finer k h))) ∙ pow-add 2 (149 - suc k) (suc k) in
    record { negative = s; size = m * rest; value = (refl, ap (λ (z : ℕ). m * 1 * z) power ∙ regrouped rest (2 ^ suc k)) }
  where
    regrouped : (a b : ℕ) → m * 1 * (a * b) ≡ m * a * b
    regrouped a b = omega arith

whole_units : (x : Float) → T (fits binary32 x) → T (finite x) → WholeUnits x
unfolding fits
whole_units nan f t = absurd t
whole_units (inf s) f t = absurd t
whole_units (fin s zero e) f t = record { negative = s; size = 0; value = (refl, none (up e) U (down e)) }
  where
    none : (a b c : ℕ) → 0 * a * b ≡ 0 * c
    none a b c = omega arith
whole_units (fin s (suc m) e) f t =
    let odd : Bool = eqb (suc m % 2) 1 && ltb (suc m) (2 ^ 24) in
    let low : Bool = leb (down e) (2 ^ 149) in
    let high : Bool = ltb (suc m * up e) (2 ^ 128 * down e) in
    whole s (suc m) e (leb→le (down e) (2 ^ 149) (and_r odd low (and_l (odd && low) high f)))

-- ---- into tracking, and out of it

abs_signed : (negative : Bool) (n : ℕ) → nat_abs (signed negative n) ≡ n
abs_signed false n = refl
abs_signed true zero = refl
abs_signed true (suc n) = refl

-- an f32 of at most 2^m is its own exact number
pub enters : (x : Float) (m : ℤ) (j : ℕ) → T (fits binary32 x) → AtMost m x → power_in_units 149 m ≡ 2 ^ j → Tracks j 1 0 x (in_units 149 x)
enters x m j f h e =
    let t = whole_units x f h.is_finite in
    let u : in_units 149 x ≡ signed t.negative t.size = in_units_lem x t.negative t.size 149 149 (omega arith) t.value ∙ ap (signed t.negative) (once t.size) in
    record {
      negative = t.negative;
      size = t.size;
      value = t.value;
      bound = rw (sym (abs_signed t.negative t.size), sym u, sym e) h.size;
      number = pair t.negative t.size;
      is = rw u (is_signed t.negative t.size);
      near = (omega arith, omega arith);
    }
  where
    once : (n : ℕ) → n * 1 ≡ n
    once n = omega arith

-- A tracked f32 is within its bound: d * c finer units make one of 2^-149.
pub leaves : (x : Float) (exact : ℤ) (j d e c n : ℕ) (m : ℤ) → 149 ≤ n → d * c ≡ 2 ^ (n - 149) → e * c ≤ power_in_units n m * 2 → Tracks j d e x exact
    → WithinOf n m x (exact *ℤ pos c)
leaves x exact j d e c n m h p l t =
    let size = t.size * (d * c) in
    let u : in_units n x ≡ signed t.negative size = in_units_lem x t.negative t.size 149 n h t.value ∙ ap (λ (z : ℕ). signed t.negative (t.size * z)) (sym p) in
    record {
      is_finite = finite_of x t.negative t.size U t.value;
      near =
          distance (in_units n x) (exact *ℤ pos c) (pair t.negative size) (t.number ⊡ c) (power_in_units n m) (rw u (is_signed t.negative size)) (is_finer exact t.number c t.is)
          (near_wider (pair t.negative size) (t.number ⊡ c) (e * c) (power_in_units n m * 2) l
          (finer t.negative (near_finer (pair t.negative t.size ⊡ d) t.number e c t.near)));
    }
  where
    finer : (negative : Bool) → Near (pair negative t.size ⊡ d ⊡ c) (t.number ⊡ c) (e * c) → Near (pair negative (t.size * (d * c))) (t.number ⊡ c) (e * c)
    finer false k = (omega (arith, k.0), omega (arith, k.1))
    finer true k = (omega (arith, k.0), omega (arith, k.1))
