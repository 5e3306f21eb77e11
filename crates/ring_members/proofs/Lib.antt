pub mod Back
pub mod Laws
pub mod Linked
pub mod WeightLaws
