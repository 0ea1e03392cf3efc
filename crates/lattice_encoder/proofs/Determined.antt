-- Any two results that a contract allows for one input coincide: the law of `law_results`, cited for the encoder's `line`. The logic has
-- one NaN, so of a number that is a NaN the bits are left open.
use Rattle.law_results.proofs.Determined.{Determined, itself}
use Rattle.lattice_encoder.proofs.EncoderLattice.line.Kinds as line-kinds
use Rattle.lattice_encoder.proofs.EncoderLattice.line.Reads as line-reads

encoder_line : Determined 0 line-kinds.ps line-kinds.r line-reads.Post
encoder_line κs a x y s t p q = itself p q
