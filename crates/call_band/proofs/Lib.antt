-- The laws that belong to no one function.
pub mod AskedFits
pub mod Determined
