-- What a reader has to believe of the gain.
pub mod Gain
pub mod Gains
