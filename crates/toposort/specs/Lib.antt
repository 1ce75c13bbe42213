pub mod Tally
pub mod Reading
pub mod Search
pub mod Components
pub mod Searcher
pub mod Answer
