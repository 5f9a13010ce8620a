pub mod Sizes
pub mod Words
