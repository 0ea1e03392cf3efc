-- What a reader has to believe of the cost of one filter.
pub mod FilterCost
