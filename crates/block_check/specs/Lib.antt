-- What a reader has to believe of the checks of a block.
pub mod Blocks
pub mod Told
