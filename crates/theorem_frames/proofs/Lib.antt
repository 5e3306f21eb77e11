pub mod Bytes
pub mod Changed
pub mod Cut
pub mod RoundTrip
pub mod Whole
