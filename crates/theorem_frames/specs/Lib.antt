-- What an accepted frame is, and its start byte; then which frames are written, and what a reader makes of one byte changed. The
-- theorems are in proofs/: written and read (RoundTrip); followed by bytes and cut (Cut); one byte changed (Changed).
pub mod Whole
pub mod Bytes
pub mod RoundTrip
pub mod Changed
