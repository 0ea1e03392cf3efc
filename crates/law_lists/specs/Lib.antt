-- What a reader has to believe of lists.
pub mod Every
pub mod Counted
pub mod Lines
pub mod Places
pub mod Portions
