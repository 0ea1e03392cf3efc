-- What a reader has to believe of how many blocks are kept.
pub mod KeptIn
pub mod RecordCount
