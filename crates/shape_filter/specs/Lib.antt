-- What a reader has to believe of the analysis of one filter, over its steps.
pub mod Analysis
