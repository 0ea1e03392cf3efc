-- What a reader has to believe of the band that a caller asks for.
pub mod AskedBand
