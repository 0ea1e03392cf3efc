-- What a reader has to believe of the sums of a subband.
pub mod LagSums
pub mod PartialSums
