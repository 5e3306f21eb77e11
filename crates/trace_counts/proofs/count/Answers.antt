-- At each turn the loop stands at an entry of the run (`CountingEntries`).
use Rattle.std.specs.Prelude.{Result, Some}
use Rattle.std.proofs.Common.{subst}
use Rattle.refusals.specs.declared.refusal.Refusal.{Refusal}
use Rattle.trace.specs.declared.entries.Entry.{Entry}
use Rattle.trace.specs.Taken.{TakesEntry}
use Rattle.trace_counts.specs.Laws.{entries_cut, entries_next, entries_done}
use Rattle.trace_counts.proofs.count.Goals as goal

pub returns-in-Err-clause-value : goal.returns-in-Err-clause-value
returns-in-Err-clause-value c =
    rw (c.from.ensures, c.number.ensures)
    (entries_cut c.loop-entry.invariant c.in-Err.refusal c.next.new.self (subst (λ (x : Result Entry Refusal). TakesEntry c.loop-entry.entry-iterator (Some x) c.next.new.self) c.in-Err.is c.in-Some.ensures.steps)).0

pub returns-in-Err-clause-counts : goal.returns-in-Err-clause-counts
returns-in-Err-clause-counts c =
    (entries_cut c.loop-entry.invariant c.in-Err.refusal c.next.new.self (subst (λ (x : Result Entry Refusal). TakesEntry c.loop-entry.entry-iterator (Some x) c.next.new.self) c.in-Err.is c.in-Some.ensures.steps)).1

pub loop-entry-preserved : goal.loop-entry-preserved
loop-entry-preserved c =
    entries_next c.loop-entry.invariant c.in-Ok.entry c.next.new.self _ (subst (λ (x : Result Entry Refusal). TakesEntry c.loop-entry.entry-iterator (Some x) c.next.new.self) c.in-Ok.is c.in-Some.ensures.steps) c.answer_entry.ensures

pub returns-clause-value : goal.returns-clause-value
returns-clause-value c = (entries_done c.loop-entry.invariant c.next.new.self c.in-None.ensures.steps).0

pub returns-clause-counts : goal.returns-clause-counts
returns-clause-counts c = (entries_done c.loop-entry.invariant c.next.new.self c.in-None.ensures.steps).1
