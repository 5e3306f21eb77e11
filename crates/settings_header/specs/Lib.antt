-- Definitions first, then what the calls lean on, then the theorem: settings in bytes are the settings by value, and what a setter takes.
pub mod SettingsHeader
pub mod Calls
pub mod Laws
pub mod Taken
