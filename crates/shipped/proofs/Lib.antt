-- The list.
pub mod Theorems
-- What it rests on.
mod Turned
mod Determined
mod Exported
