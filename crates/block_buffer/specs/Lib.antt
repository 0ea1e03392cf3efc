-- What a reader has to believe of a call on a block and its buffer.
pub mod Buffers
