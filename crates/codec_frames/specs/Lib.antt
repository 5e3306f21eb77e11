-- Definitions first; then the reader by a frame's start, as the code goes; then the laws that the proofs and other crates cite.
pub mod Frames
pub mod Ways
pub mod Laws
pub mod Behind
