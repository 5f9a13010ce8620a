-- Nothing is lost in what a turn tells.
pub mod Lines
