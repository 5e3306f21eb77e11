-- What a station counts. To read: Events (what is counted, as what happens in a run), Statement (the theorem), Largest (where counting
-- stops). What the proofs speak of: Plain (steps of which nothing is counted), Meetings and Removals (the two events that are more than a
-- change of state), Theorem (counts that are raised). The proofs are in the files of the same names in proofs/.
pub mod Events
pub mod Statement
pub mod Plain
pub mod Meetings
pub mod Removals
pub mod Theorem
pub mod Largest
