pub mod Theorems
-- What they rest on.
pub mod Across
pub mod Delays
pub mod Opened
pub mod Restart
pub mod StartedAgain
pub mod TwoLives
pub mod Outage
pub mod Promise
pub mod Least
pub mod Lists
mod FewerTicks
mod Sending
mod Holds
mod Window
mod Traffic
mod EveryBeginning
mod LeastWindow
-- Runs with numbers.
pub mod ByNumber
pub mod Losing
pub mod Computing
pub mod Vectors
