-- The laws of a mended frame.
pub mod Mended
