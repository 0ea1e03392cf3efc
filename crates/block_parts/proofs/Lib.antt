-- The laws that belong to no one function.
pub mod Sound
pub mod Laid
pub mod Counted
pub mod Determined
