-- The records that some blocks have: no more than a byte can say for each.
use mathlib.Core.Path.{◌≡◌, refl, ◌∙◌, ap}
use mathlib.Core.List.{List, [], ◌∷◌, map}
use Prim.Native.Nat.{ℕ, ◌+◌, ◌*◌, ◌≤◌}
use native.Mathlib.Omega.{arith}
use lib.ListN.{length}
use Rattle.std.specs.Prelude.{sum_by}
use Rattle.std.proofs.lemmas.List.Sums.{sum_by-cons}
use Rattle.law_lists.specs.Counted.{total}
use Rattle.block_parts.specs.Parts.{count_in}
use Rattle.file_rescued.proofs.Portioned.{AllPortions}

pub sum_is_total : (ps : List (List ℕ)) → sum_by count_in ps ≡ total (map count_in ps)
unfolding total
sum_is_total [] = refl
sum_is_total (p ∷ ps) = sum_by-cons count_in p ps ∙ ap (λ (n : ℕ). count_in p + n) (sum_is_total ps)

pub few_in : (ps : List (List ℕ)) → AllPortions ps → total (map count_in ps) ≤ 255 * length ps
unfolding total
few_in [] all = omega arith
few_in (p ∷ ps) all = omega (arith, all.0.bytes 2, few_in ps all.1)
