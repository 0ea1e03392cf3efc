-- The law of the exported functions.
pub mod Determined
