-- A turn is a step of `SoFar`; where nothing is left, so far is all.
use Rattle.std.proofs.Common.{◌≡◌, ℕ, ◌∙◌, ap, length, min, arith}
use Rattle.std.specs.Slice.Iter.{chunks_rest}
use Rattle.io_rescue.proofs.SoFar.{goes_near, goes_on, all_done}
use Rattle.io_rescue.proofs.rescue_piece.Goals as goal

pub loop-portion-preserved : goal.loop-portion-preserved
loop-portion-preserved g c =
    let l = c.loop-portion in
    let size = c.in-Some.ensures.steps.0 ∙ l.invariant.2 in
    let cut = c.in-Some.ensures.steps.1 in
    let long : length c.in-Some.portion.now ≡ min 512 (length (chunks_rest l.portion-iterator)) =
    cut.1 ∙ ap (λ (n : ℕ). min n (length (chunks_rest l.portion-iterator))) l.invariant.2
    in (
      omega (arith, size),
      tt,
      size,
      goes_near _ _ _ l.out l.report l.here l.next _ _ _ cut.0 long cut.2 l.invariant.3,
      λ room. goes_on _ _ _ l.out l.report l.here l.next _ _ _ cut.0 long cut.2 _ _ room _ _ _ c.take_portion-next.ensures l.invariant.3 (l.invariant.4 room),
    )

pub returns : goal.returns
returns g c =
    let l = c.loop-portion in
    λ room. all_done _ _ _ l.out l.report l.here l.next _ c.in-None.ensures.steps.1.0 (l.invariant.4 room)
