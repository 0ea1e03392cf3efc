-- The laws of the rescue of a narration file.
pub mod Portioned
pub mod KeptBlocks
pub mod MendedRead
pub mod Reports
pub mod Steps
pub mod Untouched
pub mod Accounted
pub mod BytesStay
pub mod AnyNumber
pub mod NoNine
pub mod SoundOnly
