pub mod Built
pub mod FinishLaws
pub mod Made
pub mod Passes
