-- The theorems, and the laws of runs that other crates may cite.
pub mod Theorems
pub mod Alike
pub mod Coded
pub mod Follows
pub mod One
pub mod Told
pub mod Three
pub mod After
pub mod Lost
pub mod Absent
pub mod Parts
pub mod Once
pub mod Sums
pub mod Stepping
pub mod Indexing
pub mod Stays
pub mod Sent
pub mod Begins
pub mod Missed
pub mod Runs
pub mod Computing
pub mod StepRuns
pub mod IndexRuns
pub mod Wrong
-- What they rest on.
pub mod Moves
pub mod Slot
mod Forward
mod Gap
mod Wrap
pub mod Handed
pub mod Linked
mod Counting
mod Follow
mod Turns
pub mod Firsts
