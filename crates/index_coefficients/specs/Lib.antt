-- What a reader has to believe of the coefficients.
pub mod Coefficients
pub mod CoefficientRules
pub mod Sines
pub mod Step
