-- The law of results.
pub mod Determined
