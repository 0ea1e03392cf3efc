-- The sum is the definition's of the products passed.
use Rattle.std.proofs.Common.{◌≡◌}
use Rattle.shape_recursion.specs.Recursion.{crossed}
use Rattle.shape_recursion.proofs.crossed_sum.Given as goal

abbrev pub invariant-loop-n : goal.invariant-loop-n
invariant-loop-n l = l.sum ≡ crossed l.r l.row l.k l.n
