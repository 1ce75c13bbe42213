pub mod File
pub mod Check
pub mod Judge
pub mod Compile
pub mod Clock
pub mod Cases
