pub mod Bits
pub mod Byte
pub mod Together
pub mod Places
pub mod Laws
pub mod Moving
