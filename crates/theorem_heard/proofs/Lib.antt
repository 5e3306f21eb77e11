pub mod Theorem
pub mod Still
