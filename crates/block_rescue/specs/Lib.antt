-- What a reader has to believe of the rescue of a block.
pub mod Rescue
