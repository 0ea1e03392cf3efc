-- It ends: where it goes on a read is left to make. No number wraps: a read adds 120 at most.
use Rattle.std.proofs.Common.{◌≡◌, ◌-◌, ◌*◌, ◌≤◌, ◌<◌, true}
use Rattle.io_streams.specs.Reads.{most_reads}
use Rattle.io_reading_mend.specs.SecondReading.{Reached}
use Rattle.io_reading_mend.proofs.mend_pass.Given as goal

abbrev pub invariant-turns : goal.invariant-turns
invariant-turns l =
    (l.mending.standing.held < 512) × (l.mending.standing.kept ≤ 65536) × (l.mending.standing.place ≤ 120 * l.mending.standing.reads)
    × (l.mending.standing.goes_on ≡ true → l.mending.standing.reads < most_reads) × (l.mending.records ≤ 255 * l.mending.standing.kept) × Reached l.mending

abbrev pub decreases-turns : goal.decreases-turns
decreases-turns l = most_reads - l.mending.standing.reads
