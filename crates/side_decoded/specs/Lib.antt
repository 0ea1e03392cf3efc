-- What a reader has to believe of the decoder's filters in a row.
pub mod DecoderFilters
