-- What a reader has to believe of side data that go from the encode call to the decode call.
pub mod TakenBack
