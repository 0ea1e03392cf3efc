-- What a reader has to believe of demand 3.
pub mod NearExact
