-- What a reader has to believe of save and restart.
pub mod Restart
