-- The statement is in AnyStart, its proof in Listening (one poll of a station that waits for the lost token) and Theorem; all other states
-- are places of theorem_silence. Numbers has how many counted polls each state needs, Sharp that 3k + 2 cannot be smaller, Pending why no
-- byte may be pending. The letter from any start is in Asked, its proof in Theorem. That calls make stations that meet the premises, in
-- each state, is stated in PremisesMet and proved in Shown. Where a file stands here and in proofs/, what it defines is here and what it
-- proves is there; Theorem and Shown are in proofs/ alone.
pub mod AnyStart
pub mod Asked
pub mod Listening
pub mod Numbers
pub mod Sharp
pub mod Pending
pub mod PremisesMet
