-- The bus tick by tick; what a setup that is not refused has.
pub mod Run
pub mod Sized
