-- What becomes of the next block, and of those after it, is what becomes of all behind what is put so far.
use Rattle.std.proofs.Common.{◌∙◌, ◌≡◌, arith}
use Rattle.std.specs.Slice.Iter.{chunks_size}
use Rattle.io_portion.proofs.Steps.{took, refuses}
use Rattle.io_blocks.proofs.SoFar.{all_done, stops, goes_on}
use Rattle.io_blocks.proofs.put_blocks.Goals as goal

pub returns-in-Err : goal.returns-in-Err
returns-in-Err g c =
    let l = c.loop-portion in
    let cut = c.in-Some.ensures.steps.1 in
    let left = refuses _ _ l.out c.put_block.new.out c.in-Err.why c.in-Err.ensures in
    λ piece. stops _ _ _ _ _ g.met.W.Way.is_way _ l.out l.next (l.invariant.3 piece) _ l.invariant.2 _ _ cut.0 cut.1 cut.2 _ _ left.0 left.1

pub loop-portion-preserved : goal.loop-portion-preserved
loop-portion-preserved g c =
    let l = c.loop-portion in
    let size : chunks_size c.next.new.self ≡ g.W.Way.SIZE = c.in-Some.ensures.steps.0 ∙ l.invariant.2 in
    let cut = c.in-Some.ensures.steps.1 in
    let put = took _ _ l.out c.put_block.new.out c.in_default.ensures in (
      omega (arith, size, g.met.W.Way.is_way.enough),
      tt,
      size,
      λ piece. goes_on _ _ _ _ _ g.met.W.Way.is_way _ l.out l.next (l.invariant.3 piece) _ l.invariant.2 _ _ cut.0 cut.1 cut.2 _ piece.2 put.given _ put.accepts put.put,
    )

pub returns : goal.returns
returns g c =
    let l = c.loop-portion in
    λ piece. all_done _ _ _ _ _ g.met.W.Way.is_way _ l.out l.next (l.invariant.3 piece) c.in-None.ensures.steps.1.0
