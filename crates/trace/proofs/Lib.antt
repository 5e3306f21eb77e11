pub mod Taken
pub mod Laws
