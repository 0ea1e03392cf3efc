-- The laws of blocks and of narration files.
pub mod Cuts
pub mod BlockBack
pub mod ReadBack
pub mod OnlyBlock
pub mod Noticed
pub mod InPieces
