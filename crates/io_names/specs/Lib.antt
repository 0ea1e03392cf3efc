-- What a reader has to believe of a look at a name, and of what is said of one.
pub mod Looks
pub mod Said
pub mod Opened
