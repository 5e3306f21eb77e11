-- Definitions first, then where the run's loop stands. What the proofs of the loop and of the call use is in proofs/Laws.
pub mod TraceHeard
pub mod Laws
