-- Definitions first: an entry, the table, what is asked; then the summary worked out afresh. Then what the functions' proofs lean on,
-- and the law that a table says what is worked out afresh.
pub mod Heard
pub mod Afresh
pub mod Steps
pub mod Places
pub mod Laws
