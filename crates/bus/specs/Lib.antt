-- That the report that the code writes is the run's.
pub mod Reports
