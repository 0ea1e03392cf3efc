-- The invariant: the stages passed are the definition's.
use Rattle.std.proofs.Common.{◌≡◌}
use Rattle.lattice_encoder.specs.EncoderLattice.{stages_to}
use Rattle.lattice_encoder.proofs.stages_up.Given as goal

abbrev pub invariant-loop-k : goal.invariant-loop-k
invariant-loop-k l = l.p ≡ stages_to l.fn.q l.k l.initial.p
