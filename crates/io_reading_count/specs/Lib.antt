-- What a reader has to believe of the first reading of a damaged file.
pub mod FirstReading
