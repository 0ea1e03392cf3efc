-- What a reader has to believe of how the blocks of a piece end.
pub mod EndText
