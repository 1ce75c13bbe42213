pub mod Laying
pub mod Turns
pub mod Reached
pub mod Rows
pub mod Edits
