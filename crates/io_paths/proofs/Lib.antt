-- The laws that belong to no one function.
pub mod Copied
pub mod Slashes
