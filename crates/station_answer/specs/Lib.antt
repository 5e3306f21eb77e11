-- The definitions; there are no laws.
pub mod Counted
pub mod Answer
