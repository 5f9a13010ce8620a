-- Nothing is lost in what the tick tells.
pub mod NothingLost
