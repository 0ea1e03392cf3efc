-- The laws that belong to no one function.
pub mod Frames
pub mod Determined
