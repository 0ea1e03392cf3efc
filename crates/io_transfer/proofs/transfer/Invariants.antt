-- It ends: where it goes on a read is left to make.
use Rattle.std.proofs.Common.{◌≡◌, ◌-◌, ◌≤◌, ◌<◌, true}
use Rattle.io_streams.specs.Reads.{most_reads}
use Rattle.io_transfer.proofs.transfer.Given as goal

abbrev pub invariant-loop-standing : goal.invariant-loop-standing
invariant-loop-standing g l =
    (l.standing.number ≤ 65536) × (l.standing.held < 512)
    × (l.standing.goes_on ≡ true → l.standing.reads < most_reads)

abbrev pub decreases-loop-standing : goal.decreases-loop-standing
decreases-loop-standing g l = most_reads - l.standing.reads
