-- Definitions first, then what the proofs use, then the round trip.
pub mod Bytes
pub mod Laws
