-- What a reader has to believe of verdicts.
pub mod Verdicts
