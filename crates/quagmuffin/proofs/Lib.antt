pub mod Small
pub mod Bodies
pub mod Exported
pub mod RoundTrip
pub mod Words
pub mod Serial
