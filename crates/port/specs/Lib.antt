pub mod Tags
pub mod Answers
pub mod Sending
