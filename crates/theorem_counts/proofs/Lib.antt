pub mod Plain
pub mod Meetings
pub mod Removals
pub mod Theorem
