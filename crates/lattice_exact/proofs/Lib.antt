-- The laws that hold the encoder's lattice to the exact one.
pub mod NearLattice
