-- Lines: what is asked of a station read from bytes is what a sound station is. Round: bytes and words. Accepted: what is accepted is a
-- sound station, and is written again as it was read. Back: every sound station is read back from its bytes.
-- Stepped and Opened: a trace is its header's station stepped along its entries. Again: accepted bytes go on, and what a refusal leaves.
pub mod Lines
pub mod Round
pub mod Accepted
pub mod Back
pub mod Stepped
pub mod Opened
pub mod Again
