-- The definitions. The laws that other crates cite are in proofs/Laws.
pub mod Rules
