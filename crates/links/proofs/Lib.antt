pub mod Numbers
pub mod Decided
pub mod Links
pub mod Runs
pub mod LinksSeen
pub mod SeenRuns
pub mod Theorems
