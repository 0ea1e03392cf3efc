-- An f32 as a whole number of small units.
use Rattle.std.specs.Prelude.{ℕ, ◌*◌, ◌/◌, ◌^◌, ◌≤◌, Bool, cond, T, ℤ, pos, neg_ℤ, nat_abs, ◌+ℤ◌, ◌-ℤ◌, Float}
use Rattle.std.specs.Float.{nan, inf, fin}
use Rattle.std.specs.Float.Ieee.{up, down}
use Rattle.std.specs.Float.Ieee.Scale.{finite}

-- a size with its sign
abbrev pub signed : Bool → ℕ → ℤ
signed negative size = cond negative (neg_ℤ (pos size)) (pos size)

-- A number in units of 2^-n. It is exact where the number is a whole number of them: every finite f32 is one of 2^-149.
abbrev pub in_units : ℕ → Float → ℤ
in_units n nan = pos 0
in_units n (inf s) = pos 0
in_units n (fin s m e) = signed s (m * up e * 2 ^ n / down e)

-- 2^m in units of 2^-n, for a whole m from -n on
abbrev pub power_in_units : ℕ → ℤ → ℕ
power_in_units n m = 2 ^ nat_abs (m +ℤ pos n)

-- finite, and at most 2^m in size
pub record AtMost (m : ℤ) (x : Float) : Type 0 where
  pub is_finite : T (finite x)
  pub size : nat_abs (in_units 149 x) ≤ power_in_units 149 m

-- finite, and within 2^m of a whole number of units of 2^-n
pub record WithinOf (n : ℕ) (m : ℤ) (x : Float) (exact : ℤ) : Type 0 where
  pub is_finite : T (finite x)
  pub near : nat_abs (in_units n x -ℤ exact) ≤ power_in_units n m
