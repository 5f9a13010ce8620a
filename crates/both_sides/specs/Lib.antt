pub mod Code
pub mod Demand1Sent
pub mod Copies
pub mod Demand3Sent
pub mod Examples
pub mod Theorems
