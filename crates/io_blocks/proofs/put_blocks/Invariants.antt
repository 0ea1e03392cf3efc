-- Of a piece, what is put so far and what the blocks that are left become is what all become.
use Rattle.std.proofs.Common.{◌≡◌, ◌≤◌, length}
use Rattle.std.specs.Slice.Iter.{chunks_rest, chunks_size}
use Rattle.io_blocks.proofs.SoFar.{SoFar}
use Rattle.io_blocks.proofs.put_blocks.Given as goal

abbrev pub invariant-loop-portion : goal.invariant-loop-portion
invariant-loop-portion g l =
    (goal.iterator-loop-portion g).can_next l.portion-iterator
    × (goal.iterator-loop-portion g).is_finite l.portion-iterator
    × (chunks_size l.portion-iterator ≡ g.W.Way.SIZE)
    × ((l.number ≤ 65536) × (length l.bytes ≤ 61440) × (66048 ≤ g.row.ROOM) → SoFar g.W.Way.SIZE g.W.Way.verdict l.number l.bytes (chunks_rest l.portion-iterator) l.out l.next)
