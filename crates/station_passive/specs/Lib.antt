-- The definitions; there are no laws.
pub mod Passive
