-- Worked examples: the marked cases, costs before rounding, gains, a frame of demand 3, index 0 decoded, a narration of one record, and a refusal of another
-- kind. Nothing rests on them.
pub mod Marked
pub mod Unrounded
pub mod Gains
pub mod Worked
pub mod IndexZero
pub mod Narration
pub mod OtherRefusals
