-- The laws that belong to no one function.
pub mod Rounded
pub mod Determined
