pub mod Sender
pub mod Refusals
pub mod Laws
pub mod Runs
pub mod Example
pub mod Wrong
