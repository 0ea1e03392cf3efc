-- The laws of lists.
pub mod Every
pub mod Counted
pub mod Parts
pub mod Portions
pub mod Chunks
pub mod InPlace
pub mod Tab
pub mod Made
pub mod Orders
