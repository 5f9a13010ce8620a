-- The theorems.
pub mod Theorems
-- What they rest on.
mod Coded
pub mod Heard
mod Runs
