-- The lines below the one at hand are done, and those from it on are still to come.
use Rattle.lattice_lines.proofs.BandLines.{Going}
use Rattle.lattice_bands.proofs.lines_filtered.Given as goal

abbrev pub invariant-loop-line : goal.invariant-loop-line
invariant-loop-line g l = Going g.L.Lattice.passed l.fn.q l.order l.initial.state l.initial.lines l.state l.lines l.line-index
