-- One product and one sum of f32 numbers, with their signs: each is within half a unit in the last place of the exact one, and of at most its
-- bound in size. The numbers are expressed in units: x is ±a units of 2^-149, and a factor q is ±b parts of 1/d.
use mathlib.Core.Path.{◌≡◌, refl, sym, ap, ◌∙◌}
use mathlib.Core.Bool.{Bool, true, false, not, ◌&&◌, cond}
use Prim.Native.Nat.{ℕ, ◌+◌, ◌-◌, ◌*◌, ◌^◌, ◌≤◌, ◌<◌}
use native.Mathlib.Nat.{le_of_lt, mul-pos, mul-le-mul_right, le_of_mul-le-mul_right, mul_comm, mul-sub}
use native.Mathlib.Omega.{arith}
use lib.Dec.{T, ltb, ltb→lt, nltb→le, lit<}
use lib.Ieee.{Float, nan, inf, fin, unlike, up, down, binary32, round, sum, add, mul}
use lib.Ieee.Fits.{down_pos}
use lib.Ieee.Exact.{HasValue}
use Rattle.law_rounding.proofs.Pairs.{Pair, pair, ◌⊞◌, ◌⊠◌, ◌⊡◌, Near}
use Rattle.law_rounding.proofs.Rounding.{U, Rounded, rounding}

-- r is ±size units, at most 2^j of them, and in units d times finer within half of d * 2^(j-24) of the exact number
pub record Result (r : Float) (j d : ℕ) (exact : Pair) : Type 0 where
  pub negative : Bool
  pub size : ℕ
  pub value : HasValue r negative size U
  pub bound : size ≤ 2 ^ j
  pub near : Near (pair negative size ⊡ d) exact (d * 2 ^ (j - 24))

-- a size with its sign is the exact number
abbrev Same : Bool → ℕ → Pair → Type 0
Same negative n exact = (pair negative n).over + exact.under ≡ exact.over + (pair negative n).under

result : (r : Float) (negative : Bool) (j n d : ℕ) (exact : Pair) → Same negative n exact → Rounded r negative j n d → Result r j d exact
result r negative j n d exact same h =
    record { negative = negative; size = h.size; value = h.value; bound = h.bound; near = with_sign negative h.size (d * 2 ^ (j - 24)) same h.near }
  where
    with_sign : (negative : Bool) (size e : ℕ) → Same negative n exact → Near (pair false (size * d)) (pair false n) e → Near (pair negative size ⊡ d) exact e
    with_sign false size e same h = (omega (arith, h.0), omega (arith, h.1))
    with_sign true size e same h = (omega (arith, h.1), omega (arith, h.0))

-- ---- the product

same_product : (u s : Bool) (b a : ℕ) → Same (unlike u s) (b * a) (pair u b ⊠ pair s a)
same_product false false b a = omega arith
same_product false true b a = omega arith
same_product true false b a = omega arith
same_product true true b a = omega arith

pub product : (q x : Float) (u s : Bool) (b a d j : ℕ) → 0 < d → j ≤ 276 → HasValue q u b d → HasValue x s a U → b * a ≤ 2 ^ j * d
    → Result (mul binary32 q x) j d (pair u b ⊠ pair s a)
unfolding mul
product nan x u s b a d j above reach hq hx most = absurd hq
product (inf w) x u s b a d j above reach hq hx most = absurd hq
product (fin w m e) nan u s b a d j above reach hq hx most = absurd hx
product (fin w m e) (inf z) u s b a d j above reach hq hx most = absurd hx
product (fin w m e) (fin z n f) u s b a d j above reach hq hx most =
    rw (hq.0, hx.0)
    (result _ (unlike u s) j (b * a) d (pair u b ⊠ pair s a) (same_product u s b a)
    (rounding (unlike u s) (m * up e * (n * up f)) (down e * down f) (b * a) d j (mul-pos (down_pos e) (down_pos f)) above
    (told (m * up e) (n * up f) (down e) (down f) U hq.1 hx.1) reach most))
  where
    told : (v w de df u : ℕ) → v * d ≡ b * de → w * u ≡ a * df → v * w * (u * d) ≡ b * a * (de * df)
    told v w de df u p q =
        let p' : v * d * (w * u) ≡ b * de * (w * u) = ap (λ (z : ℕ). z * (w * u)) p in
        let q' : b * de * (w * u) ≡ b * de * (a * df) = ap (λ (z : ℕ). b * de * z) q in
        omega (arith, p', q')

-- ---- the sum

-- a difference, and the order of two parts
apart : (X Y C a b u : ℕ) → X * u ≡ a * C → Y * u ≡ b * C → (X - Y) * u ≡ (a - b) * C
apart X Y C a b u p q =
    mul_comm (X - Y) u ∙ mul-sub u X Y ∙ rw (mul_comm u X ∙ p, mul_comm u Y ∙ q) (sym (rw (mul_comm (a - b) C, mul-sub C a b, mul_comm C a, mul_comm C b) refl))

ordered : (X Y C a b u : ℕ) → 0 < C → X * u ≡ a * C → Y * u ≡ b * C → X ≤ Y → a ≤ b
ordered X Y C a b u above p q h = le_of_mul-le-mul_right (omega (arith, mul-le-mul_right u h)) above

-- X / C and Y / C are a and b units
module _ (X Y C a b j : ℕ) (above : 0 < C) (reach : j ≤ 276) (hX : X * U ≡ a * C) (hY : Y * U ≡ b * C) (most : a + b ≤ 2 ^ j) where
  of_round : (negative : Bool) (x n : ℕ) (exact : Pair) → x * U ≡ n * C → n ≤ 2 ^ j → Same negative n exact → Result (round binary32 negative x C) j 1 exact
  of_round negative x n exact e h same =
      result (round binary32 negative x C) negative j n 1 exact same (rounding negative x C n 1 j above (lit< tt) (ap (λ (z : ℕ). x * z) (one U) ∙ e) reach (omega arith))
    where
      one : (z : ℕ) → z * 1 ≡ z
      one z = omega arith

  -- X - Y, or Y - X where X is less: of two numbers with unlike signs, the larger one's sign
  smaller : (negative : Bool) (exact : Pair) → (b ≤ a → Same negative (a - b) exact) → Y ≤ X → Result (round binary32 negative (X - Y) C) j 1 exact
  smaller negative exact same h =
      of_round negative (X - Y) (a - b) exact (apart X Y C a b U hX hY) (omega arith) (same (ordered Y X C b a U above hY hX h))

  larger : (negative : Bool) (exact : Pair) → (a ≤ b → Same negative (b - a) exact) → X < Y → Result (round binary32 negative (Y - X) C) j 1 exact
  larger negative exact same h =
      of_round negative (Y - X) (b - a) exact (apart Y X C b a U hY hX) (omega arith) (same (ordered X Y C a b U above hX hY (le_of_lt h)))

  -- a difference that is exactly zero has the sign +, whichever it stands for
  unlike_signs : (s : Bool) (less more : Bool) → (T less → X < Y) → (T (not less) → Y ≤ X) → (T (not more) → X ≤ Y)
      → Result (cond less (round binary32 (not s) (Y - X) C) (round binary32 (s && more) (X - Y) C)) j 1 (pair s a ⊞ pair (not s) b)
  unlike_signs false true more h k l = larger true (pair false a ⊞ pair true b) (λ o. omega arith) (h tt)
  unlike_signs true true more h k l = larger false (pair true a ⊞ pair false b) (λ o. omega arith) (h tt)
  unlike_signs false false more h k l = smaller false (pair false a ⊞ pair true b) (λ o. omega arith) (k tt)
  unlike_signs true false true h k l = smaller true (pair true a ⊞ pair false b) (λ o. omega arith) (k tt)
  unlike_signs true false false h k l =
      let no_more : a ≤ b = ordered X Y C a b U above hX hY (l tt) in
      smaller false (pair true a ⊞ pair false b) (λ o. omega arith) (k tt)

  together : (u : ℕ) → X * u ≡ a * C → Y * u ≡ b * C → (X + Y) * u ≡ (a + b) * C
  together u p q = omega arith

  total : (s t : Bool) → Result (sum binary32 s X t Y C) j 1 (pair s a ⊞ pair t b)
  unfolding sum
  total false false = of_round false (X + Y) (a + b) (pair false a ⊞ pair false b) (together U hX hY) most (omega arith)
  total true true = of_round true (X + Y) (a + b) (pair true a ⊞ pair true b) (together U hX hY) most (omega arith)
  total false true = unlike_signs false (ltb X Y) (ltb Y X) (ltb→lt X Y) (nltb→le X Y) (nltb→le Y X)
  total true false = unlike_signs true (ltb X Y) (ltb Y X) (ltb→lt X Y) (nltb→le X Y) (nltb→le Y X)

pub sum_of : (x y : Float) (s t : Bool) (a b j : ℕ) → j ≤ 276 → HasValue x s a U → HasValue y t b U → a + b ≤ 2 ^ j
    → Result (add binary32 x y) j 1 (pair s a ⊞ pair t b)
unfolding add
sum_of nan y s t a b j reach hx hy most = absurd hx
sum_of (inf w) y s t a b j reach hx hy most = absurd hx
sum_of (fin w m e) nan s t a b j reach hx hy most = absurd hy
sum_of (fin w m e) (inf z) s t a b j reach hx hy most = absurd hy
sum_of (fin w m e) (fin z n f) s t a b j reach hx hy most =
    rw (hx.0, hy.0)
    (total (m * up e * down f) (n * up f * down e) (down e * down f) a b j (mul-pos (down_pos e) (down_pos f)) reach
    (first (m * up e) (down e) (down f) U hx.1) (second (n * up f) (down e) (down f) U hy.1) most s t)
  where
    first : (v de df u : ℕ) → v * u ≡ a * de → v * df * u ≡ a * (de * df)
    first v de df u p =
        let p' : v * u * df ≡ a * de * df = ap (λ (z : ℕ). z * df) p in
        omega (arith, p')

    second : (v de df u : ℕ) → v * u ≡ b * df → v * de * u ≡ b * (de * df)
    second v de df u p =
        let p' : v * u * de ≡ b * df * de = ap (λ (z : ℕ). z * de) p in
        omega (arith, p')
