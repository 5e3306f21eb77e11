-- Definitions first; then the reader of a line as the code goes; then what the laws speak of. The laws that the proofs and other crates
-- cite are in proofs/Laws.
pub mod Lines
pub mod Ways
pub mod Laws
