-- What a reader has to believe of the durations.
pub mod Durations
