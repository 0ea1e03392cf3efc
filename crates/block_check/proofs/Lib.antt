-- The laws that belong to no one function.
pub mod Verdicts
pub mod Determined
