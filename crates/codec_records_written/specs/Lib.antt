-- What a call writes, what a whole record is and how it is written; and that it reads back, as a statement. The proof is in
-- proofs/Written; worked records are in proofs/Examples.
pub mod Stored
pub mod Whole
