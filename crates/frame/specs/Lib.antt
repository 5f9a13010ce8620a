pub mod Bytes
pub mod Frame
pub mod TagCalls
pub mod Link
pub mod Refusals
pub mod RoundTrips
pub mod Laws
