-- What a reader has to believe of the analysis of a frame.
pub mod FrameSide
