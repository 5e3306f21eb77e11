-- Definitions first, then what the proofs use.
pub mod Live
pub mod Laws
