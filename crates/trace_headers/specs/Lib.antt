-- The definitions, what the calls lean on, and what finished settings are to a header.
pub mod Headers
pub mod Laws
pub mod Finished
