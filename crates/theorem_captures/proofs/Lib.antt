pub mod Accepted
pub mod Again
pub mod Back
pub mod Exported
pub mod Lower
pub mod Written
