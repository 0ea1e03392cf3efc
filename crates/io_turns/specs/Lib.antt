-- What a reader has to believe of where a program stands between two reads.
pub mod Stands
