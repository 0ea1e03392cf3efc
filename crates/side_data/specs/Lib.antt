-- What a reader has to believe of side data.
pub mod Side
pub mod Limits
