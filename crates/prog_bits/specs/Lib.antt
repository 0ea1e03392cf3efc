-- What a reader has to believe of the bits program's lines, and of what comes of a read.
pub mod Output
