-- What a reader has to believe of the cost call.
pub mod Cost
