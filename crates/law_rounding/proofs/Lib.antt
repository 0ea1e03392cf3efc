-- The laws of rounding.
pub mod Pairs
pub mod Rounding
pub mod Operations
pub mod Steps
pub mod Values
pub mod Factors
