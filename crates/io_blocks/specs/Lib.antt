-- What a reader has to believe of what blocks become.
pub mod PutBlocks
