pub mod Hearing
pub mod Taking
pub mod Calls
pub mod Certainty
pub mod Serial
pub mod Determined
pub mod AnyState
