-- What a reader has to believe of damping and the step-down.
pub mod Reflections
