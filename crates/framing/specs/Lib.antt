pub mod Framing
