-- What a reader has to believe of a block's numbers and sums.
pub mod Words
pub mod Sums
