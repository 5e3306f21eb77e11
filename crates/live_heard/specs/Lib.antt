-- The definitions. What the proof uses is in proofs/Laws.
pub mod LiveHeard
