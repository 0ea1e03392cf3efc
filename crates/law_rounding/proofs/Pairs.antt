-- Signed numbers as differences of two naturals: how far two of them are apart, and what sums, products and finer units make of that distance.
-- In this form each law is one of sums of naturals, which `omega` decides. The last part ties a pair to the whole number that it is.
use mathlib.Core.Path.{◌≡◌, sym}
use mathlib.Core.Bool.{Bool, true, false, not, cond}
use Prim.Native.Nat.{ℕ, zero, suc, ◌+◌, ◌-◌, ◌*◌, ◌≤◌, ◌<◌}
use native.Mathlib.Nat.{mul-le-mul_right}
use native.Mathlib.Omega.{arith}
use lib.Dec.{T, ltb, ltb→lt, nltb→le}
use lib.IntN.{ℤ, pos, negsuc, neg_ℤ, nat_abs, sub_ℕ, ◌+ℤ◌, ◌-ℤ◌, ◌*ℤ◌}
use Rattle.law_rounding.specs.Units.{signed}

-- over - under
pub record Pair : Type 0 where
  pub over : ℕ
  pub under : ℕ

-- a size with its sign
abbrev pub pair : Bool → ℕ → Pair
pair false size = record { over = size; under = 0 }
pair true size = record { over = 0; under = size }

infixl 6 ◌⊞◌
abbrev pub ◌⊞◌ : Pair → Pair → Pair
x ⊞ y = record { over = x.over + y.over; under = x.under + y.under }

infixl 7 ◌⊠◌
abbrev pub ◌⊠◌ : Pair → Pair → Pair
x ⊠ y = record { over = x.over * y.over + x.under * y.under; under = x.over * y.under + x.under * y.over }

-- expressed in units n times finer
infixl 7 ◌⊡◌
abbrev pub ◌⊡◌ : Pair → ℕ → Pair
x ⊡ n = record { over = x.over * n; under = x.under * n }

-- ---- distance

-- twice the distance of x and y is at most e
abbrev pub Near : Pair → Pair → ℕ → Type 0
Near x y e = ((x.over + y.under) * 2 ≤ (x.under + y.over) * 2 + e) × ((x.under + y.over) * 2 ≤ (x.over + y.under) * 2 + e)

pub near_trans : (x y z : Pair) (e f : ℕ) → Near x y e → Near y z f → Near x z (e + f)
near_trans x y z e f h k = (omega (arith, h.0, h.1, k.0, k.1), omega (arith, h.0, h.1, k.0, k.1))

pub near_sum : (x y v w : Pair) (e f : ℕ) → Near x y e → Near v w f → Near (x ⊞ v) (y ⊞ w) (e + f)
near_sum x y v w e f h k = (omega (arith, h.0, h.1, k.0, k.1), omega (arith, h.0, h.1, k.0, k.1))

pub near_finer : (x y : Pair) (e n : ℕ) → Near x y e → Near (x ⊡ n) (y ⊡ n) (e * n)
near_finer x y e n h = (omega (arith, mul-le-mul_right n h.0), omega (arith, mul-le-mul_right n h.1))

-- a factor of at most n in size
pub near_product : (q x y : Pair) (e n : ℕ) → q.over + q.under ≤ n → Near x y e → Near (q ⊠ x) (q ⊠ y) (e * n)
near_product q x y e n b h =
    let o = mul-le-mul_right q.over h.0 in
    let u = mul-le-mul_right q.under h.1 in
    let o' = mul-le-mul_right q.over h.1 in
    let u' = mul-le-mul_right q.under h.0 in
    let most = mul-le-mul_right e b in
    (omega (arith, o, u, most), omega (arith, o', u', most))

pub near_wider : (x y : Pair) (e f : ℕ) → e ≤ f → Near x y e → Near x y f
near_wider x y e f l h = (omega (arith, h.0), omega (arith, h.1))

-- ---- the whole number that a pair is

abbrev pub Is : ℤ → Pair → Type 0
Is (pos a) x = a + x.under ≡ x.over
Is (negsuc a) x = x.over + suc a ≡ x.under

is_difference : (a b : ℕ) → Is (sub_ℕ a b) (record { over = a; under = b })
is_difference a b = by (ltb a b) (ltb→lt a b) (nltb→le a b)
  where
    by : (less : Bool) → (T less → a < b) → (T (not less) → b ≤ a) → Is (cond less (negsuc (b - suc a)) (pos (a - b))) (record { over = a; under = b })
    by true h k = omega (arith, h tt)
    by false h k = omega (arith, k tt)

-- two pairs with the same difference
is_again : (z : ℤ) (x y : Pair) → x.over + y.under ≡ y.over + x.under → Is z x → Is z y
is_again (pos a) x y e h = omega arith
is_again (negsuc a) x y e h = omega arith

pub is_negative : (z : ℤ) (x : Pair) → Is z x → Is (neg_ℤ z) (record { over = x.under; under = x.over })
is_negative (pos zero) x h = omega arith
is_negative (pos (suc a)) x h = omega arith
is_negative (negsuc a) x h = omega arith

pub is_signed : (negative : Bool) (size : ℕ) → Is (signed negative size) (pair negative size)
is_signed false size = omega arith
is_signed true size = is_negative (pos size) (pair false size) (omega arith)

pub is_sum : (y z : ℤ) (v w : Pair) → Is y v → Is z w → Is (y +ℤ z) (v ⊞ w)
is_sum (pos a) (pos b) v w h k = omega arith
is_sum (pos a) (negsuc b) v w h k = is_again (sub_ℕ a (suc b)) _ (v ⊞ w) (omega arith) (is_difference a (suc b))
is_sum (negsuc a) (pos b) v w h k = is_again (sub_ℕ b (suc a)) _ (v ⊞ w) (omega arith) (is_difference b (suc a))
is_sum (negsuc a) (negsuc b) v w h k = omega arith

products : (a b n m p q : ℕ) → a + n ≡ p → b + m ≡ q → a * b + (p * m + n * q) ≡ p * q + n * m
products a b n m p q e f = rw (sym e, sym f) (omega arith)

turned : (x y z : ℕ) → x + y ≡ z → y + x ≡ z
turned x y z e = omega arith

pub is_product : (y z : ℤ) (v w : Pair) → Is y v → Is z w → Is (y *ℤ z) (v ⊠ w)
is_product (pos a) (pos b) v w h k = products a b v.under w.under v.over w.over h k
is_product (pos a) (negsuc b) v w h k =
    is_negative (pos (a * suc b)) (record { over = (v ⊠ w).under; under = (v ⊠ w).over })
    (products a (suc b) v.under w.over v.over w.under h (turned _ _ _ k))
is_product (negsuc a) (pos b) v w h k =
    is_negative (pos (suc a * b)) (record { over = (v ⊠ w).under; under = (v ⊠ w).over })
    (omega (arith, products (suc a) b v.over w.under v.under w.over (turned _ _ _ h) k))
is_product (negsuc a) (negsuc b) v w h k =
    omega (arith, products (suc a) (suc b) v.over w.over v.under w.under (turned _ _ _ h) (turned _ _ _ k))

-- expressed in finer units
pub is_finer : (z : ℤ) (x : Pair) (n : ℕ) → Is z x → Is (z *ℤ pos n) (x ⊡ n)
is_finer z x n h = is_again (z *ℤ pos n) (x ⊠ pair false n) (x ⊡ n) (omega arith) (is_product z (pos n) x (pair false n) h (is_signed false n))

-- two numbers whose pairs are near
pub distance : (y z : ℤ) (v w : Pair) (e : ℕ) → Is y v → Is z w → Near v w (e * 2) → nat_abs (y -ℤ z) ≤ e
distance y z v w e h k n = small (y -ℤ z) (v ⊞ record { over = w.under; under = w.over }) (is_sum y (neg_ℤ z) v _ h (is_negative z w k)) (omega (arith, n.0)) (omega (arith, n.1))
  where
    small : (z : ℤ) (x : Pair) → Is z x → x.over ≤ x.under + e → x.under ≤ x.over + e → nat_abs z ≤ e
    small (pos a) x i p q = omega arith
    small (negsuc a) x i p q = omega arith
