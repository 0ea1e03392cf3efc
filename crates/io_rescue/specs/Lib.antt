-- What a reader has to believe of what comes of a piece of a damaged narration.
pub mod RescueSteps
