pub mod Numbers
pub mod Plans
pub mod Parts
