pub mod Signals
pub mod Edge
pub mod Rows
