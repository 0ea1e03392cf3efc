-- What a reader has to believe of any lattice.
pub mod Lattice
