-- What a reader has to believe of what a read gives, and of how many there are.
pub mod Reads
