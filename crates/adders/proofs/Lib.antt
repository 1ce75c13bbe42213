pub mod Ripple
pub mod Adders
pub mod Calls
