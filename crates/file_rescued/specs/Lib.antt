-- What a reader has to believe of the rescue of a narration file.
pub mod Rescues
