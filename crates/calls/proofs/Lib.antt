-- The laws that other crates may cite. Of a table: the search, the place found, a tick of every record.
pub mod Search
pub mod Places
pub mod Lowest
pub mod Visits
-- The steps together are the calls: what ends a walk.
pub mod Acts
pub mod Admits
pub mod Arrivals
pub mod Slots
-- Of the calls: their refusals, what they keep, no damage, taking a tag out alike, the two halves, the worked example.
pub mod Exactly
pub mod Kept
pub mod Sound
pub mod Alike
pub mod Halves
pub mod Worked
-- What the proofs of the functions rest on.
mod Keys
mod Steps
