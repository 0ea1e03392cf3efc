-- What a reader has to believe of the line that sums up a rescue.
pub mod SummaryText
