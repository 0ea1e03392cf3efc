-- The sums below k have their product, and the others are as they were.
use Rattle.std.proofs.Common.{◌≡◌, ℕ, ◌<◌, length}
use Rattle.law_lists.specs.Places.{at}
use Rattle.shape_sums.specs.PartialSums.{added_cell}
use Rattle.shape_sums.proofs.add_line.Given as goal

abbrev pub invariant-loop-k : goal.invariant-loop-k
invariant-loop-k l = (length l.sums ≡ 9) × ((j : ℕ) → j < 9 → at l.sums j ≡ added_cell l.fn.sums l.lines l.n l.k j)
