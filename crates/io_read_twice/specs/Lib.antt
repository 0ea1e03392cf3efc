-- What a reader has to believe of a damaged file that is read twice.
pub mod Summed
