pub mod Refusals
pub mod Letters
