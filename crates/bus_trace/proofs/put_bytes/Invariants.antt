use Rattle.std.proofs.Common.{◌≡◌, length}
use Rattle.bus_trace.specs.Traces.{Copying}
use Rattle.bus_trace.proofs.put_bytes.Given as goal

abbrev pub invariant-loop-j : goal.invariant-loop-j
invariant-loop-j l = (length l.trace ≡ length l.initial.trace) × Copying l.initial.trace l.at l.bytes l.j l.trace
