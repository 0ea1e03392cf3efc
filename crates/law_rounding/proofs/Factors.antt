-- Factors that a lattice multiplies by: whole numbers of 2^-26, of at most 1 in size.
use mathlib.Core.Path.{◌≡◌, refl}
use mathlib.Core.Bool.{Bool, false, ◌&&◌}
use Prim.Native.Nat.{ℕ, ◌+◌, ◌*◌, ◌/◌, ◌%◌, ◌^◌, ◌≤◌}
use native.Mathlib.Nat.{div-add-mod'}
use native.Mathlib.Omega.{arith}
use lib.Dec.{T, eqb, leb, eqb→eq, leb→le}
use lib.Ieee.{Float, nan, inf, fin, up, down}
use lib.Ieee.Exact.{HasValue}
use lib.Ieee.Fits.{and_l, and_r}
use Rattle.law_rounding.specs.Units.{signed, in_units}

pub record Factor (q : Float) : Type 0 where
  pub negative : Bool
  pub parts : ℕ
  pub value : HasValue q negative parts (2 ^ 26)
  pub most : parts ≤ 2 ^ 26
  pub in_parts : in_units 26 q ≡ signed negative parts

-- a test for one
unfoldable pub is_factor : Float → Bool
is_factor nan = false
is_factor (inf s) = false
is_factor (fin s m e) = eqb (m * up e * 2 ^ 26 % down e) 0 && leb (m * up e * 2 ^ 26 / down e) (2 ^ 26)

pub factor : (q : Float) → T (is_factor q) → Factor q
unfolding is_factor
factor nan t = absurd t
factor (inf s) t = absurd t
factor (fin s m e) t =
    let n = m * up e * 2 ^ 26 in
    let whole : Bool = eqb (n % down e) 0 in
    let small : Bool = leb (n / down e) (2 ^ 26) in
    record {
      negative = s;
      parts = n / down e;
      value = (refl, no_rest n (n / down e * down e) (n % down e) (div-add-mod' n (down e)) (eqb→eq (n % down e) 0 (and_l whole small t)));
      most = leb→le (n / down e) (2 ^ 26) (and_r whole small t);
      in_parts = refl;
    }
  where
    no_rest : (n w r : ℕ) → w + r ≡ n → r ≡ 0 → n ≡ w
    no_rest n w r e z = omega arith
