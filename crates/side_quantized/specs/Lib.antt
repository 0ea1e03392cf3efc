-- What a reader has to believe of a quantized filter.
pub mod Quantized
pub mod Within
