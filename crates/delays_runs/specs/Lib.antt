pub mod DelaysRuns
pub mod DelaysNeeded
pub mod AgainRuns
pub mod Choices
pub mod Applied
