-- The laws that belong to no one function.
pub mod Indices
pub mod OrderOf
pub mod Rising
pub mod Sizes
pub mod Determined
