pub mod RecordLaws
pub mod EndLaws
pub mod PrefixLaws
