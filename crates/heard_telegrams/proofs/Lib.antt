-- What the loop over a record's telegrams leans on.
pub mod Listed
