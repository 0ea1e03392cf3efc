-- What a reader has to believe of what is left over of a piece of input.
pub mod Rest
