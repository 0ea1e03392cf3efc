-- The laws that belong to no one function.
pub mod CountedFilters
pub mod Once
pub mod Determined
