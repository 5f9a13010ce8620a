-- Nothing is lost in what the calls tell, and what ends a proof.
pub mod Tags
pub mod Sending
pub mod Answers
pub mod NothingLost
