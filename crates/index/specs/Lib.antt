pub mod Index
pub mod Indexed
pub mod Laws
pub mod Cases
