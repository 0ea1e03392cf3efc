-- The counts of `prog_replay::replayed` do not wrap: no more records differ than there are.
use Rattle.std.proofs.Common.{◌≡◌, ◌≤◌}
use Rattle.prog_replay.proofs.replayed.Given as goal

abbrev pub invariant-loop-number : goal.invariant-loop-number
invariant-loop-number g l = (l.tally.records ≡ l.number-counter) × (l.tally.differences ≤ l.number-counter)
