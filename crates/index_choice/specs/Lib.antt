-- What a reader has to believe of the choice of an index.
pub mod Indices
pub mod IndexRules
pub mod ThresholdSines
