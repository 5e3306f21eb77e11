-- From a header to the theorems. FromHeader: the stations inside a trace are those that the theorems speak
-- of. AnswersRead: every answer in the buffer reads back. SilentTrace: demand 3 over a trace's bytes, its proof in SilentTraceProof, a
-- trace that meets its premises in Shown. HostCall: demands 1 and 3 of the call that hosts make.
pub mod FromHeader
pub mod AnswersRead
pub mod SilentTrace
pub mod SilentTraceProof
pub mod HostCall
pub mod Shown
