-- What a reader has to believe of the lags of a band.
pub mod Autocorrelation
pub mod LagCells
pub mod LongBands
