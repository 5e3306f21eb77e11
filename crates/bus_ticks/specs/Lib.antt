-- That the code's ticks are those of the bus; then its start and its run.
pub mod Ticks
pub mod Starts
