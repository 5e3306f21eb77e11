pub mod Made
pub mod Numbers
