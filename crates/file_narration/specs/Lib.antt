-- What a reader has to believe of a narration file.
pub mod Files
