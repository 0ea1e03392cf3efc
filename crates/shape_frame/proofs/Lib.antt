-- The laws that belong to no one function.
pub mod FrameLimits
pub mod Off
pub mod Determined
