-- Definitions first, then what the theorems speak of. The theorems that settings as calls make them pass the check of a whole record
-- where the rotation has room for a gap poll, and what finishing answers, are in proofs/.
pub mod Build
pub mod Passes
pub mod Built
pub mod Made
pub mod Finish
