pub mod Idle
pub mod Unclaimed
pub mod Theorem
pub mod InTrace
