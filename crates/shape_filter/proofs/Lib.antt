-- The laws that belong to no one function.
pub mod FilterReflections
pub mod Determined
