-- Definitions first, then what the proofs use.
pub mod Hold
pub mod Laws
