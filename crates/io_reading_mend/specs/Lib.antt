-- What a reader has to believe of the second reading of a damaged file.
pub mod SecondReading
