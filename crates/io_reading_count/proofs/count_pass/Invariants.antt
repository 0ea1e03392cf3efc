-- It ends: where it goes on a read is left to make. No number wraps: a read adds 120 at most.
use Rattle.std.proofs.Common.{◌≡◌, ◌-◌, ◌*◌, ◌≤◌, ◌<◌, true}
use Rattle.io_streams.specs.Reads.{most_reads}
use Rattle.io_reading_count.proofs.count_pass.Given as goal

abbrev pub invariant-loop-standing : goal.invariant-loop-standing
invariant-loop-standing l =
    (l.standing.held < 512) × (l.standing.place ≤ 120 * l.standing.reads) × (l.standing.kept ≤ 120 * l.standing.reads)
    × (l.standing.goes_on ≡ true → l.standing.reads < most_reads)

abbrev pub decreases-loop-standing : goal.decreases-loop-standing
decreases-loop-standing l = most_reads - l.standing.reads
