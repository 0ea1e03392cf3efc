-- What a reader has to believe of the band rows.
pub mod Bands
pub mod BandRules
