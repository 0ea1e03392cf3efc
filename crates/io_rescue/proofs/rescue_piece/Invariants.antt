-- The place is near the first, and what is put so far, where there is room, is what `SoFar` says.
use Rattle.std.proofs.Common.{◌≡◌}
use Rattle.std.specs.Slice.Iter.{chunks_rest, chunks_size}
use Rattle.io_rescue.specs.RescueSteps.{HasRoom}
use Rattle.io_rescue.proofs.SoFar.{Near, SoFar}
use Rattle.io_rescue.proofs.rescue_piece.Given as goal

abbrev pub invariant-loop-portion : goal.invariant-loop-portion
invariant-loop-portion g l =
    (goal.iterator-loop-portion g).can_next l.portion-iterator
    × (goal.iterator-loop-portion g).is_finite l.portion-iterator
    × (chunks_size l.portion-iterator ≡ 512)
    × Near l.place l.number l.bytes l.here (chunks_rest l.portion-iterator)
    × (HasRoom l.place l.number l.bytes g.row.ROOM g.row.LINES → SoFar l.place l.number l.bytes l.out l.report l.here l.next (chunks_rest l.portion-iterator))
