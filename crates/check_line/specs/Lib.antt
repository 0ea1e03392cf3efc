-- What a reader has to believe of the checks of a call at a line.
pub mod LineChecks
