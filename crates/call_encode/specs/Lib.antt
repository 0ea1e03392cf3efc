-- What a reader has to believe of the encode call.
pub mod Encoder
