-- What a reader has to believe of the exact lattice, and of how near a line is to it.
pub mod Exact
pub mod Near
