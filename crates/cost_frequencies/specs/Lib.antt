-- What a reader has to believe of T's frequencies.
pub mod Frequencies
pub mod Rules
