pub mod History
pub mod AnyWords
pub mod Record
pub mod Decisions
pub mod Steps
pub mod WrapRun
pub mod Laws
