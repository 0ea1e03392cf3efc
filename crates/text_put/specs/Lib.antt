-- What a reader has to believe of a text and of putting it.
pub mod Text
