-- What a reader has to believe of the checks of a frame with its side data.
pub mod CodedFrames
