-- That the trace that the code writes is the run's.
pub mod Traces
