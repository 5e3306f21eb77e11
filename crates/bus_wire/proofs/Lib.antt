pub mod ArrivesLaws
pub mod Waits
