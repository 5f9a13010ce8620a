pub mod Prp
pub mod Steps
pub mod Refusals
pub mod RoundTrips
pub mod Example
