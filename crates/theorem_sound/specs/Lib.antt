-- What calls can make of a station. To read: Moves (what a call does, move by move, and the Rust's assertions), Lines (what a sound core
-- is), Follows (from which state a poll leads to which), Sound (a sound station, and calls), Names (that an answer names the next
-- station), Fits (the answer to a call), Waits (no send before the pause, nor before 33 whole bits of silence, no retry before the slot),
-- Never (arms that no call reaches), Sizes (no number comes near the end of its type), Room (in accepted settings the end of hold is never
-- before the token time that it is counted from). The theorems over them are in proofs/, under the same names, but for those of Moves,
-- Lines and Follows: proofs/Sound has them with the theorem that every station is sound, and proofs/Kept a law for each line. Those of
-- Waits are in proofs/WaitsProof, those of Sizes here; proofs/Unchanged says what a refusal leaves. What the proofs are put together of:
-- Kept (every move keeps every line), Keeps and Walk (for the steps), Hold, Listen and Pass (the steps, a file for each group of crates),
-- Guarded (the waits).
pub mod Moves
pub mod Lines
pub mod Keeps
pub mod Follows
pub mod Sizes
pub mod Fits
pub mod Guarded
pub mod Hold
pub mod Kept
pub mod Listen
pub mod Names
pub mod Never
pub mod Pass
pub mod Room
pub mod Sound
pub mod Waits
pub mod Walk
