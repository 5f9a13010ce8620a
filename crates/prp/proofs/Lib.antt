-- What the definitions come to by the code's tests, and the laws of the two calls.
pub mod Trailers
pub mod Turns
pub mod Refusals
pub mod FromThenTo
pub mod ToThenFrom
pub mod Computed
