pub mod Lengths
pub mod Splits
pub mod Good
pub mod Modes
pub mod Passed
