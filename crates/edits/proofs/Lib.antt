pub mod Storing
pub mod Marks
pub mod Planned
pub mod Demands
pub mod Turns
pub mod Listed
pub mod Words
