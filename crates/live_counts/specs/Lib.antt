pub mod LiveCounts
pub mod Laws
