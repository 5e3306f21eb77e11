-- The definitions, then what the loops lean on.
pub mod Setup
pub mod Laws
