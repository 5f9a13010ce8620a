pub mod Batch
pub mod Told
pub mod Steps
pub mod Refusals
pub mod Laws
pub mod Example
pub mod Indexed
