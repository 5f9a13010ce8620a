-- The laws that other crates may cite: of decimals, of writing into a buffer, of records and pieces; and the example.
pub mod Decimals
pub mod Bodies
pub mod Writing
pub mod Framing
pub mod Pieces
pub mod Outputs
pub mod Example
