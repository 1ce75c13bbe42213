pub mod Lists
pub mod Format
pub mod Driver
pub mod Refusals
