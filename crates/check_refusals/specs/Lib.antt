-- What a reader has to believe of the refusals.
pub mod Refusals
