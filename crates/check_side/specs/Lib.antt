-- What a reader has to believe of the checks of codes and side data.
pub mod Sides
