-- The laws that belong to no one lattice.
pub mod BandLines
pub mod Idle
