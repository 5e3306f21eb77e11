-- Definitions first, then what a proof uses.
pub mod Lines
pub mod Laws
