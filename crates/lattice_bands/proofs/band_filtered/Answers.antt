-- Order 0 filters nothing. Each other arm runs the stages of the order that it names, and the last, which is 8 or more, all eight.
use Rattle.lattice_lines.proofs.Idle.{order_0}
use Rattle.lattice_bands.proofs.band_filtered.Goals as goal

pub returns-in-0 : goal.returns-in-0
returns-in-0 g c =
    let a = c.args in
    rw c.in-0.is (order_0 g.L.Lattice.passed g.met.L.Lattice.idle a.q a.states a.lines.now)
