-- What a reader has to believe of the filters that side data are.
pub mod SideFilters
