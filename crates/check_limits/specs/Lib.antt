-- What a reader has to believe of the search for a number over a limit.
pub mod LowestOver
