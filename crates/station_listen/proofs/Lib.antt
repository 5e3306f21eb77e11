-- What the proof of the loop over a poll's telegrams uses.
pub mod Heard
