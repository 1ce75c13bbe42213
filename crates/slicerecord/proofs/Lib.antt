pub mod Stores
pub mod Encoding
pub mod Digits
pub mod Pieces
pub mod Fields
pub mod RoundTrip
pub mod Typing
