pub mod Tests
pub mod Tabulate
pub mod DriverLaws
pub mod Filling
pub mod Reasons
