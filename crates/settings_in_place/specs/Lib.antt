-- What the setters on the caller's record promise. The laws are in proofs/Laws.
pub mod InPlace
