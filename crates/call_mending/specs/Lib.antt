-- What a reader has to believe of a mended frame.
pub mod Mended
