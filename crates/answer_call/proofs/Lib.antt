-- The laws that belong to no one function.
pub mod Small
pub mod Determined
