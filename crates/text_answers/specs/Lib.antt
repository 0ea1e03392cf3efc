-- What a reader has to believe of a record's line.
pub mod Wording
