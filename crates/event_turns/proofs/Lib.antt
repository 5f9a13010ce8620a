-- The theorems of a run in turns.
pub mod Running
-- What the proofs of the functions rest on.
mod Answers
mod Turning
