-- What a reader has to believe of a run that is split at a line.
pub mod SplitRun
