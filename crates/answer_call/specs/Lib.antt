-- What a reader has to believe of an answer: a verdict as four numbers.
pub mod Answers
