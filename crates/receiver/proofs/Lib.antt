-- Facts on lists; what ends the proofs of the calls that take an index: the steps of following, of the agreement test and of a rebuild; close, open.
pub mod Lists
pub mod Finding
pub mod Sweeping
pub mod Deciding
pub mod Following
pub mod Agreeing
pub mod Wiping
pub mod Rebuilding
pub mod Closing
pub mod Opening
