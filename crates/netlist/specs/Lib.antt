pub mod Rule
pub mod Graph
pub mod Settle
pub mod Changes
pub mod Invariant
pub mod Table
pub mod Wires
pub mod Agree
