-- One more line: the law of the loop, whichever the lattice is.
use Rattle.std.proofs.Common.{arith}
use Rattle.lattice_lines.proofs.BandLines.{one_line}
use Rattle.lattice_bands.proofs.lines_filtered.Goals as goal

pub loop-line-preserved : goal.loop-line-preserved
loop-line-preserved g c =
    let l = c.loop-line in
    one_line g.L.Lattice.passed _ _ _ _ _ l.lines l.line-index c.line-p.result l.invariant (omega arith) c.line-p.ensures
