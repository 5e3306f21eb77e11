-- Definitions first; then the laws that the proofs and other crates cite.
pub mod Text
pub mod Laws
