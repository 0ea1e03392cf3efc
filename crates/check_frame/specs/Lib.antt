-- What a reader has to believe of a frame.
pub mod Frames
