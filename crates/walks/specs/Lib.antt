pub mod Marked
pub mod Walks
pub mod Props
