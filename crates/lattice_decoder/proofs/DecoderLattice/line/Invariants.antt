-- The invariant: the stages still to come, on the line and the states as they are, give what all of them give.
use Rattle.std.proofs.Common.{◌≡◌}
use Rattle.lattice_decoder.specs.DecoderLattice.{stages_below, passing}
use Rattle.lattice_decoder.proofs.DecoderLattice.line.Given as goal

abbrev pub invariant-loop-k : goal.invariant-loop-k
invariant-loop-k l = stages_below l.fn.q l.last (passing l.initial.t l.initial.state) ≡ stages_below l.fn.q l.k (passing l.t l.state)
