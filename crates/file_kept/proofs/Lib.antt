-- The laws that belong to no one function.
pub mod PieceBounds
pub mod KeptFrom
pub mod RecordsFrom
