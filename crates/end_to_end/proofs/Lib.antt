-- The theorems.
pub mod Theorems
pub mod BatchRuns
-- What they rest on.
mod Bytes
mod Batches
mod Coded
mod Lengths
mod Cases
mod Got
mod Ours
mod Heard
mod Runs
mod RunsApplied
mod PrpLines
