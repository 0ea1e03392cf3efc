-- The lines passed have added their products; the last lines have fewer lags.
use Rattle.std.proofs.Common.{◌≡◌}
use Rattle.shape_sums.specs.PartialSums.{sums_to}
use Rattle.shape_sums.proofs.lag_sums.Given as goal

abbrev pub invariant-loop-n : goal.invariant-loop-n
invariant-loop-n l = l.sums ≡ sums_to l.lines l.n
