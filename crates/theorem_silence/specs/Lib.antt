-- The statement is in Silence, its proof in Times to Theorem of proofs/. Sharp and Question say that the bound is sharp and why no gap
-- question may be due; Calls that every station that calls make meets the first two premises. That calls make stations that meet all
-- premises, with any number of others, is stated in PremisesMet: the calls are in Scripts, the proof in Rings, Made and Shown. The letter's
-- own case is in Letter, its proof in Asking, and such a night by the clock in Shown. Alone says what a pass with nobody next to us comes
-- to. Site has a run with settings that have no room for a gap poll. Where a file stands here and in proofs/, what it defines is here and
-- what it proves is there; Alone and Question are in proofs/ alone.
pub mod Silence
pub mod Times
pub mod Phases
pub mod OnePoll
pub mod Theorem
pub mod SilentRecords
pub mod Sharp
pub mod Calls
pub mod Letter
pub mod Asking
pub mod Scripts
pub mod PremisesMet
pub mod Rings
pub mod Made
pub mod Shown
pub mod Site
