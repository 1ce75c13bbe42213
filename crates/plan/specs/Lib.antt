pub mod Plan
pub mod Props
