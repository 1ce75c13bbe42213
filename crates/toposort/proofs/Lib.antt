pub mod Reading
pub mod Tally
pub mod Components
pub mod Moves
pub mod Opening
pub mod Flops
pub mod Answers
