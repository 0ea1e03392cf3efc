-- The laws that belong to no one function.
pub mod LinesPut
pub mod Answering
