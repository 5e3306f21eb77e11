-- Demand 1 in one statement is in Statement, its proof in Theorem, and in Once that it leaves no choice. EveryTrace has its parts as
-- theorems of their own and what else holds of every trace; Moved, that a trace whose header moved to the other edition gives the same
-- answers. Runs and Endings have the laws of runs and of how they end.
pub mod Runs
pub mod Endings
pub mod Statement
pub mod Theorem
pub mod Once
pub mod EveryTrace
pub mod Moved
