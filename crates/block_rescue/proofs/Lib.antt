-- The laws that belong to no one function.
pub mod Rescue
pub mod Determined
