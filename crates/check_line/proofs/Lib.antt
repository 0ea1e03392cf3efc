-- The laws that belong to no one function.
pub mod LineChecks
pub mod Determined
