-- Any two results that a contract allows for one input coincide: the law of `law_results`, cited for the decoder's `line`. The logic has
-- one NaN, so of a number that is a NaN the bits are left open.
use Rattle.law_results.proofs.Determined.{Determined, itself}
use Rattle.lattice_decoder.proofs.DecoderLattice.line.Kinds as line-kinds
use Rattle.lattice_decoder.proofs.DecoderLattice.line.Reads as line-reads

decoder_line : Determined 0 line-kinds.ps line-kinds.r line-reads.Post
decoder_line κs a x y s t p q = itself p q
