-- Definitions first; then an entry as the code takes it; then the laws that the proofs and other crates cite.
pub mod Export
pub mod Turns
pub mod Laws
