-- The definitions.
pub mod Listen
