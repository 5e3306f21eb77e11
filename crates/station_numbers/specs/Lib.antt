-- Definitions first, then the laws that other crates cite.
pub mod Numbers
pub mod Laws
