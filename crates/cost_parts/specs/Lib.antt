-- What a reader has to believe of the 2048ths of each filter.
pub mod Parts
