-- What a reader has to believe of the paths of files.
pub mod Paths
