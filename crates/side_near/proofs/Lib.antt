-- The laws that hold the lines that a frame's filters leave to the exact ones.
pub mod NearFrames
