pub mod DelaysRuns
pub mod DelaysNeeded
pub mod DelaysPremises
pub mod AgainRuns
pub mod Choices
mod Hole
mod Computing
pub mod Applied
