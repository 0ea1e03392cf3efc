-- The laws that belong to no one function.
pub mod SplitFrames
pub mod Determined
