-- The row is the definition's of this height, and the places from here up hold their reflection coefficients.
use Rattle.std.proofs.Common.{◌≡◌, ℕ, ◌+◌, ◌-◌, ◌<◌, ◌≤◌, length}
use Prim.Native.Nat.{suc}
use Rattle.law_lists.specs.Places.{at}
use Rattle.shape_reflections.specs.Reflections.{row_at}
use Rattle.shape_reflections.proofs.reflected_row.Given as goal

abbrev pub invariant-loop-k : goal.invariant-loop-k
invariant-loop-k l =
    (length l.rc ≡ 8) × (l.down ≡ row_at l.fn.row (9 - l.k)) × ((j : ℕ) → l.k ≤ j + 1 → j < 8 → at l.rc j ≡ at (row_at l.fn.row (7 - j)) (suc j))
