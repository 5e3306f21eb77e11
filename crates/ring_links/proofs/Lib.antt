-- What the code leans on: the two tables as one list, the tables of one station alone, the walk down to a member, and the sweep between
-- two stations. The laws of what the links mean are in specs/.
pub mod Entries
pub mod Alone
pub mod Walks
pub mod Sweeps
