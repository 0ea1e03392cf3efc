-- What a reader has to believe of the decoder's lattice.
pub mod DecoderLattice
