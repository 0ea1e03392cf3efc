-- What a reader has to believe of the line of a refused block.
pub mod RefusalText
