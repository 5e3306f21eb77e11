-- The links and their laws.
pub mod Links
pub mod Tables
pub mod Distances
pub mod Sets
pub mod Near
pub mod LinkLaws
pub mod Passes
