pub mod Feeding
pub mod Sessions
