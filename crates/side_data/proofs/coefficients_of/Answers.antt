-- The first eight places have the first filter's coefficients, and the others the second one's.
use mathlib.Core.Path.{◌≡◌, refl}
use Prim.Native.Nat.{◌≤◌}
use mathlib.Core.List.{List, ◌++◌, append-nil}
use native.Mathlib.Omega.{arith}
use borrow.Author.Rules.{rules}
use lib.Ieee.{Float}
use lib.ListN.{length, take, drop, drop_of_length-le}
use lib.Seq.{take_at, drop_at}
use Rattle.side_data.proofs.coefficients_of.Goals as goal

halves : (first second low high rest : List Float) → low ≡ first → high ≡ second → length first ≡ 8 → length rest ≡ 8
    → take 8 (low ++ rest) ++ (high ++ drop 8 (drop 8 (low ++ rest))) ≡ first ++ second
halves first second low high rest e f l m =
    let short : length rest ≤ 8 = omega (arith, m) in
    rw (e, f, take_at first rest 8 l, drop_at first rest 8 l, drop_of_length-le rest short, append-nil second)

pub returns : goal.returns
returns c = halves _ _ _ _ _ c.copy_from_slice.ensures.after c.copy_from_slice-2.ensures.after (search rules) refl
