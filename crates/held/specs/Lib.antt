pub mod Cases
pub mod LinkCases
pub mod PriorityCases
pub mod Edges
pub mod Written
pub mod WrittenIndex
pub mod ByOne
pub mod Code
