-- The definitions, what the calls lean on, and the theorem that each accepted header moves to the other edition and back.
pub mod Editions
pub mod Laws
pub mod Moves
