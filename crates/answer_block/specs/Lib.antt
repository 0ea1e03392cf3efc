-- What a reader has to believe of an answer on a block: how its verdict is given in two numbers.
pub mod BlockAnswers
