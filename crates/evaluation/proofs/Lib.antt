pub mod Numbers
pub mod Gates
