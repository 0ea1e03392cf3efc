-- What a reader has to believe of f32 operations, and of the sizes and distances of f32 numbers.
pub mod Floats
pub mod Units
