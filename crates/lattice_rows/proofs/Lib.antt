-- The laws of the filters of a row.
pub mod Filters
pub mod OutsideBands
pub mod Split
pub mod EitherSide
pub mod Determined
