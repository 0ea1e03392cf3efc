-- The laws that belong to no one function.
pub mod Checks
pub mod Sides
pub mod Determined
