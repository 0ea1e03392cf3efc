-- What a reader has to believe of a record.
pub mod RecordBytes
