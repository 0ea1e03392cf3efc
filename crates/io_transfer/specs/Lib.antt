-- What a reader has to believe of what the programs make of their input.
pub mod Transfer
