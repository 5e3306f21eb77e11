-- The definitions, and laws of whom the token is passed to.
pub mod Pass
pub mod Laws
