-- Definitions first, then what the proofs of the run's loop and of the call use.
pub mod TraceCounts
pub mod Laws
