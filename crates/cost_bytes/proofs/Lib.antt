-- The laws that belong to no one function.
pub mod BytesCost
pub mod SideBytes
pub mod Rounded
pub mod Determined
