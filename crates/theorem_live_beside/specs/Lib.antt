-- Statement: what is said. Beside: a step with a table is the step without, along any entries. Quiet: what leaves the table. Kept: a
-- station that is kept stays so. Theorem: the counts and the table at the end of a trace are what the trace's calls say.
pub mod Statement
pub mod Beside
pub mod Quiet
pub mod Kept
pub mod Theorem
