use Rattle.trace.specs.Laws.{Answering}
use Rattle.trace.proofs.run.Given as goal

abbrev pub invariant-loop-entry : goal.invariant-loop-entry
invariant-loop-entry l = Answering l.initial.station l.trace l.initial.answers l.answers l.station l.entry-iterator l.out l.entries
