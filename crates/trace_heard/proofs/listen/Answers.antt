-- At each turn what is left of the run is left to hear (`ListeningEntries`).
use Rattle.std.specs.Prelude.{Result, Some}
use Rattle.std.proofs.Common.{subst}
use Rattle.refusals.specs.declared.refusal.Refusal.{Refusal}
use Rattle.trace.specs.declared.entries.Entry.{Entry}
use Rattle.trace.specs.Taken.{TakesEntry}
use Rattle.trace_heard.proofs.Laws.{entries_cut, entries_next, entries_done}
use Rattle.trace_heard.proofs.listen.Goals as goal

pub returns-in-Err-clause-value : goal.returns-in-Err-clause-value
returns-in-Err-clause-value c =
    rw (c.from.ensures, c.number.ensures)
    (entries_cut c.loop-entry.invariant c.in-Err.refusal c.next.new.self (subst (λ (x : Result Entry Refusal). TakesEntry c.loop-entry.entry-iterator (Some x) c.next.new.self) c.in-Err.is c.in-Some.ensures.steps)).0

pub returns-in-Err-clause-table_after : goal.returns-in-Err-clause-table_after
returns-in-Err-clause-table_after c =
    (entries_cut c.loop-entry.invariant c.in-Err.refusal c.next.new.self (subst (λ (x : Result Entry Refusal). TakesEntry c.loop-entry.entry-iterator (Some x) c.next.new.self) c.in-Err.is c.in-Some.ensures.steps)).1

pub loop-entry-preserved : goal.loop-entry-preserved
loop-entry-preserved c =
    entries_next c.loop-entry.invariant c.in-Ok.entry c.next.new.self _ _ _ (subst (λ (x : Result Entry Refusal). TakesEntry c.loop-entry.entry-iterator (Some x) c.next.new.self) c.in-Ok.is c.in-Some.ensures.steps)
    c.answer_entry-answer.ensures c.record.ensures c.hear_record.ensures c.hear_record.auto.table

pub returns-clause-value : goal.returns-clause-value
returns-clause-value c = (entries_done c.loop-entry.invariant c.next.new.self c.in-None.ensures.steps).0

pub returns-clause-table_after : goal.returns-clause-table_after
returns-clause-table_after c = (entries_done c.loop-entry.invariant c.next.new.self c.in-None.ensures.steps).1
