-- What a reader has to believe of whether a block is kept.
pub mod Kept
