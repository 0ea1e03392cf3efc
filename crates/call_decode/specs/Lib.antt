-- What a reader has to believe of the decode call.
pub mod Decoder
