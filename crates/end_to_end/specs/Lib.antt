pub mod Bytes
pub mod Runs
pub mod Batches
pub mod BatchRuns
pub mod PrpLines
pub mod Code
pub mod Theorems
