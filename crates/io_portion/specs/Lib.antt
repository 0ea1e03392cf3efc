-- What a reader has to believe of what one portion becomes.
pub mod OnePortion
pub mod WayLaws
