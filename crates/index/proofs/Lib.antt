-- The laws that other crates may cite.
pub mod Search
pub mod Agree
pub mod Rebuild
pub mod Guard
pub mod Kept
pub mod Arrivals
pub mod Cases
