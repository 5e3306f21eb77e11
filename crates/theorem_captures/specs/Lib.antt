-- What the theorems on captures speak of. The theorems are in proofs/.
pub mod Accepted
pub mod Again
pub mod Lower
pub mod Back
