-- The laws that belong to no one function.
pub mod Costs
pub mod AtPlace
pub mod CostAnswers
pub mod Determined
