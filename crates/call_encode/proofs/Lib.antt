-- The laws that belong to no one function.
pub mod EncodeVerdict
pub mod Outside
pub mod Reported
pub mod Rounded
pub mod NearFound
pub mod Determined
