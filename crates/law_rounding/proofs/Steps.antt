-- One step of a lattice, x + q·y: two roundings on top of what x and y were off by. The exact number beside it is worked over ℤ, in units as
-- many times finer as 1 has parts in q's unit.
use mathlib.Core.Path.{◌≡◌}
use mathlib.Core.Bool.{Bool, true, false}
use Prim.Native.Nat.{ℕ, suc, ◌+◌, ◌-◌, ◌*◌, ◌^◌, ◌≤◌, ◌<◌}
use native.Mathlib.Nat.{mul-le-mul}
use native.Mathlib.Omega.{arith}
use lib.IntN.{ℤ, pos, ◌+ℤ◌, ◌*ℤ◌, +ℤ_comm}
use lib.Ieee.{Float, binary32, add, mul}
use lib.Ieee.Exact.{HasValue}
use Rattle.law_rounding.specs.Units.{signed}
use Rattle.law_rounding.proofs.Pairs.{Pair, pair, ◌⊞◌, ◌⊠◌, ◌⊡◌, Near, near_trans, near_sum, near_finer, near_product, near_wider, Is, is_signed, is_sum, is_product, is_finer}
use Rattle.law_rounding.proofs.Rounding.{U}
use Rattle.law_rounding.proofs.Operations.{Result, product, sum_of}

-- x is ±size units of 2^-149, at most 2^j of them, and in units d times finer within half of e of the exact number
pub record Tracks (j d e : ℕ) (x : Float) (exact : ℤ) : Type 0 where
  pub negative : Bool
  pub size : ℕ
  pub value : HasValue x negative size U
  pub bound : size ≤ 2 ^ j
  pub number : Pair
  pub is : Is exact number
  pub near : Near (pair negative size ⊡ d) number e

pub tracks_wider : (j d e f : ℕ) (x : Float) (exact : ℤ) → e ≤ f → Tracks j d e x exact → Tracks j d f x exact
tracks_wider j d e f x exact h t =
    record { negative = t.negative; size = t.size; value = t.value; bound = t.bound; number = t.number; is = t.is; near = near_wider (pair t.negative t.size ⊡ d) t.number e f h t.near }

same : (x y : Pair) → x.over ≡ y.over → x.under ≡ y.under → Near x y 0
same x y p q = (omega arith, omega arith)

-- With x and y off by e, the product m off by h halves of its last place, and the sum r by h'.
combined : (r x y m q X Y : Pair) (Q d e h h' : ℕ) → q.over + q.under ≤ Q → Near (x ⊡ d) X e → Near (y ⊡ d) Y e → Near (m ⊡ Q) (q ⊠ y) (Q * h) → Near (r ⊡ 1) (x ⊞ m) (1 * h')
    → Near (r ⊡ (d * Q)) (X ⊡ Q ⊞ q ⊠ Y) (Q * (e * 2 + d * (h + h')))
combined r x y m q X Y Q d e h h' most nx ny nm nr =
    let fine = d * Q in
    let parts = x ⊡ d ⊡ Q ⊞ m ⊡ Q ⊡ d in
    let exactly = (q ⊠ y) ⊡ d in
    let rounded : Near (r ⊡ fine) ((x ⊞ m) ⊡ fine) (h' * fine) = near_finer r (x ⊞ m) h' fine (omega (arith, nr.0), omega (arith, nr.1)) in
    let split : Near ((x ⊞ m) ⊡ fine) parts 0 = same ((x ⊞ m) ⊡ fine) parts (omega arith) (omega arith) in
    let first : Near (x ⊡ d ⊡ Q) (X ⊡ Q) (e * Q) = near_finer (x ⊡ d) X e Q nx in
    let second : Near (m ⊡ Q ⊡ d) exactly (Q * h * d) = near_finer (m ⊡ Q) (q ⊠ y) (Q * h) d nm in
    let moved : Near exactly (q ⊠ (y ⊡ d)) 0 = same exactly (q ⊠ (y ⊡ d)) (omega arith) (omega arith) in
    let carried : Near (q ⊠ (y ⊡ d)) (q ⊠ Y) (e * Q) = near_product q (y ⊡ d) Y e Q most ny in
    let right : Near (m ⊡ Q ⊡ d) (q ⊠ Y) (Q * h * d + (0 + e * Q)) =
    near_trans (m ⊡ Q ⊡ d) exactly (q ⊠ Y) (Q * h * d) (0 + e * Q) second (near_trans exactly (q ⊠ (y ⊡ d)) (q ⊠ Y) 0 (e * Q) moved carried)
    in
    let both : Near parts (X ⊡ Q ⊞ q ⊠ Y) (e * Q + (Q * h * d + (0 + e * Q))) = near_sum (x ⊡ d ⊡ Q) (X ⊡ Q) (m ⊡ Q ⊡ d) (q ⊠ Y) (e * Q) (Q * h * d + (0 + e * Q)) first right in
    let all = near_trans (r ⊡ fine) ((x ⊞ m) ⊡ fine) (X ⊡ Q ⊞ q ⊠ Y) (h' * fine) (0 + (e * Q + (Q * h * d + (0 + e * Q)))) rounded
    (near_trans ((x ⊞ m) ⊡ fine) parts (X ⊡ Q ⊞ q ⊠ Y) 0 (e * Q + (Q * h * d + (0 + e * Q))) split both)
    in
    near_wider (r ⊡ fine) (X ⊡ Q ⊞ q ⊠ Y) (h' * fine + (0 + (e * Q + (Q * h * d + (0 + e * Q))))) (Q * (e * 2 + d * (h + h'))) (omega arith) all

-- what a step leaves to be off by, in halves of its finer units
abbrev pub grown : ℕ → ℕ → ℕ → ℕ → ℕ
grown Q d e j = Q * (e * 2 + d * (2 ^ (j - 24) + 2 ^ (suc j - 24)))

module _ (x y q : Float) (X Y : ℤ) (u : Bool) (b Q j d e : ℕ) (above : 0 < Q) (reach : suc j ≤ 276) (hq : HasValue q u b Q) (most : b ≤ Q)
    (tx : Tracks j d e x X) (ty : Tracks j d e y Y) where
  part : Result (mul binary32 q y) j Q (pair u b ⊠ pair ty.negative ty.size)
  part = product q y u ty.negative b ty.size Q j above (omega arith) hq ty.value (within (mul-le-mul most ty.bound))
    where
      within : b * ty.size ≤ Q * 2 ^ j → b * ty.size ≤ 2 ^ j * Q
      within h = omega arith

  at_most : (pair u b).over + (pair u b).under ≤ Q
  at_most = by u
    where
      by : (u : Bool) → (pair u b).over + (pair u b).under ≤ Q
      by false = omega arith
      by true = omega arith

  abbrev old : Pair
  old = pair tx.negative tx.size

  abbrev added : Pair
  added = pair part.negative part.size

  made : (r : Float) (exact : ℤ) → Is exact (tx.number ⊡ Q ⊞ pair u b ⊠ ty.number) → Result r (suc j) 1 (old ⊞ added) → Tracks (suc j) (d * Q) (grown Q d e j) r exact
  made r exact is h =
      record {
        negative = h.negative;
        size = h.size;
        value = h.value;
        bound = h.bound;
        number = tx.number ⊡ Q ⊞ pair u b ⊠ ty.number;
        is = is;
        near =
            combined (pair h.negative h.size) old (pair ty.negative ty.size) added (pair u b) tx.number ty.number Q d e (2 ^ (j - 24)) (2 ^ (suc j - 24))
            at_most tx.near ty.near part.near h.near;
      }

  exactly : Is (X *ℤ pos Q +ℤ signed u b *ℤ Y) (tx.number ⊡ Q ⊞ pair u b ⊠ ty.number)
  exactly = is_sum (X *ℤ pos Q) (signed u b *ℤ Y) (tx.number ⊡ Q) (pair u b ⊠ ty.number) (is_finer X tx.number Q tx.is) (is_product (signed u b) Y (pair u b) ty.number (is_signed u b) ty.is)

  fits : tx.size + part.size ≤ 2 ^ suc j
  fits = omega (arith, tx.bound, part.bound)

  -- x + q·y
  pub onto : Tracks (suc j) (d * Q) (grown Q d e j) (add binary32 x (mul binary32 q y)) (X *ℤ pos Q +ℤ signed u b *ℤ Y)
  onto =
      made (add binary32 x (mul binary32 q y)) (X *ℤ pos Q +ℤ signed u b *ℤ Y) exactly
      (sum_of x (mul binary32 q y) tx.negative part.negative tx.size part.size (suc j) reach tx.value part.value fits)

  -- q·y + x
  pub plus : Tracks (suc j) (d * Q) (grown Q d e j) (add binary32 (mul binary32 q y) x) (signed u b *ℤ Y +ℤ X *ℤ pos Q)
  plus =
      made (add binary32 (mul binary32 q y) x) (signed u b *ℤ Y +ℤ X *ℤ pos Q) (rw (+ℤ_comm (signed u b *ℤ Y) (X *ℤ pos Q)) exactly)
      (turned (sum_of (mul binary32 q y) x part.negative tx.negative part.size tx.size (suc j) reach part.value tx.value (omega (arith, fits))))
    where
      turned : Result (add binary32 (mul binary32 q y) x) (suc j) 1 (added ⊞ old) → Result (add binary32 (mul binary32 q y) x) (suc j) 1 (old ⊞ added)
      turned h =
          record { negative = h.negative; size = h.size; value = h.value; bound = h.bound; near = (omega (arith, h.near.0), omega (arith, h.near.1)) }
