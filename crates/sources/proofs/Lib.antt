pub mod InputCodes
pub mod OpenLaws
pub mod PinLaws
