-- The laws that other crates may cite: of tests, of a history, of lawful records, of the difference, of the decision.
pub mod Logic
pub mod Past
pub mod Law
pub mod Told
pub mod Modulo
pub mod Keeps
pub mod Changes
pub mod Steps
pub mod Wrap
pub mod Leaves
-- What the proofs of the functions rest on.
mod Bits
mod Digits
mod Words
mod Eight
mod Filled
mod Shifts
mod AnyWords
mod Moves
mod Early
mod Flags
mod Ring
mod Reading
mod Sorts
mod Ticks
