-- The laws that belong to no one function.
pub mod InOneRun
pub mod TableCosts
pub mod Determined
