-- The laws that belong to no one function.
pub mod Bands
pub mod Apart
pub mod Determined
