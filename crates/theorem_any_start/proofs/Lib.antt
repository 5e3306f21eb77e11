pub mod Listening
pub mod Theorem
pub mod Numbers
pub mod Sharp
pub mod Pending
pub mod PremisesMet
pub mod Shown
