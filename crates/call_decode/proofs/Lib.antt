-- The laws that belong to no one function.
pub mod DecodedFrames
pub mod Once
pub mod Outside
pub mod Determined
