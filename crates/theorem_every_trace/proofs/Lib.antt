pub mod Theorem
pub mod Once
