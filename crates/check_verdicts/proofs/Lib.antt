-- The laws of verdicts.
pub mod Verdicts
