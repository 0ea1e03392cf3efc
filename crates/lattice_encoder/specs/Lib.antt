-- What a reader has to believe of the encoder's lattice.
pub mod EncoderLattice
