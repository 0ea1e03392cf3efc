-- `prog_bits::main` ends: where it goes on a read is left to make. No frame number wraps: a read adds 800 at most.
use Rattle.std.proofs.Common.{◌≡◌, ◌-◌, ◌*◌, ◌≤◌, ◌<◌, length, true}
use Rattle.io_streams.specs.Reads.{most_reads}
use Rattle.prog_bits.proofs.main.Given as goal

abbrev pub invariant-loop-standing : goal.invariant-loop-standing
invariant-loop-standing l =
    (length l.input ≡ 16000) × (l.standing.number ≤ 800 * l.standing.reads) × (l.standing.held < 20)
    × (l.standing.goes_on ≡ true → l.standing.reads < most_reads)

abbrev pub decreases-loop-standing : goal.decreases-loop-standing
decreases-loop-standing l = most_reads - l.standing.reads
