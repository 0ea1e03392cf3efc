-- What a reader has to believe of the 20 bytes.
pub mod SideBytes
