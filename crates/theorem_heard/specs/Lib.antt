-- The statement, and what stays of an entry. The proof, and that nothing clears what was heard, are in proofs/.
pub mod Statement
pub mod Stays
