-- Definitions first; then a line as the code takes it; then where the code stands between lines. The laws that the proofs and other
-- crates cite are in proofs/Laws.
pub mod Import
pub mod Turns
pub mod Laws
