-- The statements; then what is proved of PassiveIdle, the other states, both together and the same over entries, with the proofs in
-- proofs/; and the premises shown met.
pub mod Statement
pub mod Idle
pub mod Unclaimed
pub mod Theorem
pub mod InTrace
pub mod Shown
