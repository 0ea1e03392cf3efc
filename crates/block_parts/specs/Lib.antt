-- What a reader has to believe of a block's parts.
pub mod Parts
