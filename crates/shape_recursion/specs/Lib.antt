-- What a reader has to believe of the recursion.
pub mod Recursion
