use Rattle.trace_heard.proofs.Laws.{ListeningEntries}
use Rattle.trace_heard.proofs.listen.Given as goal

abbrev pub invariant-loop-entry : goal.invariant-loop-entry
invariant-loop-entry l =
    ListeningEntries l.initial.station l.applications l.trace l.initial.table l.table l.station l.entry-iterator l.entries
