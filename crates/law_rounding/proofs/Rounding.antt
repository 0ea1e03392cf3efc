-- The rounding law: how far `round` moves a fraction, and how large its result can be. A fraction of at most 2^j units of 2^-149 moves by
-- at most half of 2^(j-24) units, or of one unit where that is less, and its result is at most 2^j units.
use mathlib.Core.Path.{◌≡◌, sym, ap, ◌∙◌, subst}
use mathlib.Core.Logic.{inl, inr}
use mathlib.Core.Bool.{Bool, false, not}
use Prim.Native.Nat.{ℕ, ◌+◌, ◌-◌, ◌*◌, ◌/◌, ◌%◌, ◌^◌, ◌≤◌, ◌<◌, compare, Ordering}
use native.Mathlib.Nat.{le_trans, lt_of_le_of_lt, eq-or-lt_of_le, mul-le-mul_right, mul-le-mul_left, le_of_mul-le-mul_right, eq_of_mul-eq-mul_right, mul-pos, mul-lt-mul_of_pos_right, mod-lt, div-add-mod', div-lt_iff_lt-mul}
use native.Mathlib.Omega.{arith}
use lib.Dec.{T, is_le, compare_is_eq, leb→le, nleb→lt, eqb→eq, lit<}
use lib.Pow.{pow-add, pow_pos, pow_mono}
use lib.Ieee.{Float, nan, inf, fin, up, down, binary32, size, nearest, round}
use lib.Ieee.Digits.{size-le, back}
use lib.Ieee.Fits.{nearest-le, round_is}
use lib.Ieee.Exact.{HasValue, units_val, round_exact}
use lib.Ieee.Nearest.{closest}
use lib.Ieee.Scale.{round_same}
use Rattle.law_rounding.proofs.Pairs.{pair, Near, near_wider}

-- the units of 2^-149 in 1
abbrev pub U : ℕ
U = 2 ^ 149

-- ---- to the nearest whole number: by half of 1 at most

module _ (w r u : ℕ) where
  by_remainder : (o : Ordering) → (T (is_le o) → r * 2 ≤ u) → (T (not (is_le o)) → u < r * 2) → (T (compare_is_eq o) → r * 2 ≡ u) → r < u
      → Near (pair false (nearest w o * u)) (pair false (w * u + r)) u
  by_remainder Ordering.lt low high half less = (omega arith, omega (arith, low tt))
  by_remainder Ordering.eq low high half less =
      let bit : w % 2 < 2 = mod-lt w (lit< tt) in
      let odd : w % 2 * u ≤ 1 * u = mul-le-mul_right u (omega (arith, bit)) in
      (omega (arith, half tt, odd), omega (arith, half tt))
  by_remainder Ordering.gt low high half less = (omega (arith, high tt), omega arith)

closest_near : (n u : ℕ) → 0 < u → Near (pair false (closest n u * u)) (pair false n) u
closest_near n u above =
    let r = n % u in
    subst (λ (z : ℕ). Near (pair false (closest n u * u)) (pair false z) u) (div-add-mod' n u)
    (by_remainder (n / u) r u (compare (r * 2) u) (leb→le (r * 2) u) (nleb→lt (r * 2) u) (eqb→eq (r * 2) u) (mod-lt n above))

-- ---- a value expressed in other units

pub same_value : (x : Float) (negative : Bool) (a c b d : ℕ) → 0 < c → a * d ≡ b * c → HasValue x negative a c → HasValue x negative b d
same_value nan negative a c b d above e h = h
same_value (inf s) negative a c b d above e h = h
same_value (fin s m x) negative a c b d above e h =
    (h.0, eq_of_mul-eq-mul_right c above (m * up x * d) (b * down x) (told (m * up x) (down x) h.1))
  where
    told : (v w : ℕ) → v * c ≡ a * w → v * d * c ≡ b * w * c
    told v w f =
        let f' : v * c * d ≡ a * w * d = ap (λ (z : ℕ). z * d) f in
        let e' : a * d * w ≡ b * c * w = ap (λ (z : ℕ). z * w) e in
        omega (arith, f', e')

-- ---- n / d units, rounded

pub record Rounded (x : Float) (negative : Bool) (j n d : ℕ) : Type 0 where
  pub size : ℕ
  pub value : HasValue x negative size U
  pub bound : size ≤ 2 ^ j
  pub near : Near (pair false (size * d)) (pair false n) (d * 2 ^ (j - 24))

module _ (negative : Bool) (n d j : ℕ) (above : 0 < d) (reach : j ≤ 276) where
  abbrev den : ℕ
  den = U * d

  den_above : 0 < den
  den_above = mul-pos (pow_pos 149) above

  in_range : (v : ℕ) → v ≤ 2 ^ j → v < 2 ^ 277
  in_range v h = lt_of_le_of_lt h (lt_of_le_of_lt (pow_mono reach) (lit< tt))

  -- a power of two stays as it is
  at_the_power : n ≡ 2 ^ j * d → Rounded (round binary32 negative n den) negative j n d
  at_the_power e =
      let told : n * U ≡ 2 ^ j * den = ap (λ (z : ℕ). z * U) e ∙ regrouped (2 ^ j) d U in
      record {
        size = 2 ^ j;
        value =
            same_value (round binary32 negative n den) negative n den (2 ^ j) U den_above told
            (round_exact binary32 negative n den 1 j den_above (lit< tt) (subst (λ (z : ℕ). z < 2 ^ 277) (once (2 ^ j)) (in_range (2 ^ j) (omega arith))) (told ∙ ap (λ (z : ℕ). z * den) (once (2 ^ j))));
        bound = omega arith;
        near = (omega (arith, e), omega (arith, e));
      }
    where
      regrouped : (a b c : ℕ) → a * b * c ≡ a * (c * b)
      regrouped a b c = omega arith

      once : (a : ℕ) → a ≡ 1 * a
      once a = omega arith

  -- below it, the digits that are dropped count for at most 2^(j-24) units
  below_the_power : n < 2 ^ j * d → Rounded (round binary32 negative n den) negative j n d
  below_the_power less =
      let whole = n * U / den in
      let digits : size whole ≤ j = size-le whole j ((div-lt_iff_lt-mul den_above).1 (scaled less)) in
      let k = size whole - 24 in
      let few : k ≤ j - 24 = omega (arith, digits) in
      let k-in-j : k ≤ j = omega (arith, digits) in
      let u = den * 2 ^ k in
      let u-above : 0 < u = mul-pos den_above (pow_pos k) in
      let power : 2 ^ (j - k) * 2 ^ k ≡ 2 ^ j = sym (pow-add 2 (j - k) k) ∙ ap (λ (z : ℕ). 2 ^ z) (back j k k-in-j) in
      let c = closest (n * U) u in
      let c-most : c ≤ 2 ^ (j - k) =
      le_trans (nearest-le (n * U / u) (compare (n * U % u * 2) u))
      ((div-lt_iff_lt-mul u-above).1 (subst (λ (z : ℕ). n * U < z) (sym (regrouped (2 ^ (j - k)) den (2 ^ k) ∙ ap (λ (z : ℕ). z * den) power)) (scaled less)))
      in
      let most : c * 2 ^ k ≤ 2 ^ j = subst (λ (z : ℕ). c * 2 ^ k ≤ z) power (mul-le-mul_right (2 ^ k) c-most) in
      record {
        size = c * 2 ^ k;
        value = subst (λ (x : Float). HasValue x negative (c * 2 ^ k) U) (sym (round_is binary32 negative n den)) (units_val binary32 negative c k (in_range (c * 2 ^ k) most));
        bound = most;
        near = cancelled c (2 ^ k) (2 ^ (j - 24)) (pow_mono few) (closest_near (n * U) u u-above);
      }
    where
      scaled : n < 2 ^ j * d → n * U < 2 ^ j * den
      scaled h = subst (λ (z : ℕ). n * U < z) (regrouped' (2 ^ j) d U) (mul-lt-mul_of_pos_right h (pow_pos 149))
        where
          regrouped' : (a b c : ℕ) → a * b * c ≡ a * (c * b)
          regrouped' a b c = omega arith

      regrouped : (a b c : ℕ) → a * (b * c) ≡ a * c * b
      regrouped a b c = omega arith

      -- the units cancel, and fewer digits than dropped are less
      cancelled : (c t v : ℕ) → t ≤ v → Near (pair false (c * (den * t))) (pair false (n * U)) (den * t) → Near (pair false (c * t * d)) (pair false n) (d * v)
      cancelled c t v few h =
          near_wider (pair false (c * t * d)) (pair false n) (d * t) (d * v) (mul-le-mul_left d few) (
            le_of_mul-le-mul_right (common U h.0) (pow_pos 149),
            le_of_mul-le-mul_right (common' U h.1) (pow_pos 149),
          )
        where
          common : (u : ℕ) → (c * (u * d * t) + 0) * 2 ≤ (0 + n * u) * 2 + u * d * t → (c * t * d + 0) * 2 * u ≤ ((0 + n) * 2 + d * t) * u
          common u h = omega arith

          common' : (u : ℕ) → (0 + n * u) * 2 ≤ (c * (u * d * t) + 0) * 2 + u * d * t → (0 + n) * 2 * u ≤ ((c * t * d + 0) * 2 + d * t) * u
          common' u h = omega arith

  of_units : n ≤ 2 ^ j * d → Rounded (round binary32 negative n den) negative j n d
  of_units most = elim (eq-or-lt_of_le most) [
    | inl e ↦ at_the_power e
    | inr less ↦ below_the_power less
  ]

-- A fraction that is n / d units of 2^-149: its rounding.
pub rounding : (negative : Bool) (num den n d j : ℕ) → 0 < den → 0 < d → num * (U * d) ≡ n * den → j ≤ 276 → n ≤ 2 ^ j * d
    → Rounded (round binary32 negative num den) negative j n d
rounding negative num den n d j den_above above same reach most =
    subst (λ (x : Float). Rounded x negative j n d) (sym (round_same binary32 negative num den n (U * d) den_above (mul-pos (pow_pos 149) above) same))
    (of_units negative n d j above reach most)
