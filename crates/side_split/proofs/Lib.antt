-- The laws that belong to no one function.
pub mod SplitRun
pub mod Determined
