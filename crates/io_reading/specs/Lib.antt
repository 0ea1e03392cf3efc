-- What a reader has to believe of both readings of a damaged file.
pub mod Stands
pub mod Passes
