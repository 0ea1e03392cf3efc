-- The laws that belong to no one function.
pub mod Lowest
pub mod Stands
pub mod Determined
