-- What a reader has to believe of the words of a rescue's report.
pub mod ReportText
