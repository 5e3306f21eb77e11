-- The statement first; then a station's entries and its part of the report, what its header starts, and the proof; then what a record
-- lists; then the places of a setup's stations,
-- and that none is given its own telegram.
pub mod Statement
pub mod Parts
pub mod Start
pub mod Theorem
pub mod Delivered
pub mod Places
pub mod Own
