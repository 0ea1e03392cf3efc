-- The laws that belong to no one function.
pub mod Buffers
pub mod Determined
