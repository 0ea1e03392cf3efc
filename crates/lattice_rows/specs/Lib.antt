-- What a reader has to believe of the filters of a row, and of a row that is cut at a line.
pub mod Filters
pub mod Split
