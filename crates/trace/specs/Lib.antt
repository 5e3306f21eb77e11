-- Definitions first: an entry, a trace. Then where the run's loop stands. What its proof uses is in proofs/Laws.
pub mod Entries
pub mod Taken
pub mod Trace
pub mod Laws
