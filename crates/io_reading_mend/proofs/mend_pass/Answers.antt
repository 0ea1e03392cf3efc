-- A turn more is come by, after those before it.
use Rattle.std.proofs.Common.{◌∷◌, arith}
use Rattle.io_reading_mend.proofs.mend_pass.Goals as goal

pub turns-preserved : goal.turns-preserved
turns-preserved c =
    let l = c.turns in
    let t = c.mend_turn-mending.ensures in
    (t.held, t.kept, omega (arith, t.place, t.reads, l.invariant.2), t.left, t.records, record { earlier = l.mending ∷ l.invariant.5.earlier; came = (t.turn, l.invariant.5.came) })
