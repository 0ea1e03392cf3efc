-- What a reader has to believe of how far a run is, and of how a file is named while that is shown.
pub mod Percents
pub mod Named
