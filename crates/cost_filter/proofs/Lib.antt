-- The laws that belong to no one function.
pub mod FilterCosts
pub mod IndexCosts
pub mod Determined
