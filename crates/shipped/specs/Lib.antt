pub mod Ships
pub mod Exports
pub mod Turns
pub mod Tags
pub mod Theorems
