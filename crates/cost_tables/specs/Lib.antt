-- What a reader has to believe of T's costs.
pub mod Tables
pub mod Rules
