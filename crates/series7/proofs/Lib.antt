pub mod GateLaws
pub mod Numbers
pub mod CarryLaws
pub mod TablePins
