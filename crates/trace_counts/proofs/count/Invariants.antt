use Rattle.trace_counts.specs.Laws.{CountingEntries}
use Rattle.trace_counts.proofs.count.Given as goal

abbrev pub invariant-loop-entry : goal.invariant-loop-entry
invariant-loop-entry l = CountingEntries l.initial.station l.trace l.station l.entry-iterator l.entries
