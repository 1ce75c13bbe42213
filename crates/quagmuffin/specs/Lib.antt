pub mod Packed
pub mod Bodies
pub mod Serial
