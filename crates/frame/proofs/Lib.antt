-- The laws that other crates may cite: of bytes, of headers, of the two tag calls, and what document 01 says of a frame.
pub mod Bytes
pub mod Heads
pub mod Writes
pub mod Words
pub mod PutThenTake
pub mod TakeThenPut
pub mod Refusals
pub mod Reading
pub mod Links
pub mod Laws
