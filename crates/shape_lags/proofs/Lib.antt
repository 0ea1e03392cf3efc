-- The laws that belong to no one function.
pub mod Lags
pub mod LongRows
pub mod Determined
