-- The laws that belong to no one function.
pub mod Eight
pub mod Determined
