-- At each turn the run of the whole is that of the entries that are left, after the answers given (`Answering`).
use Rattle.std.specs.Prelude.{◌-◌, ◌≡◌, Result, Some, length, take, drop}
use Rattle.std.proofs.Common.{subst, take_all, length-drop, le_refl}
use Rattle.refusals.specs.declared.refusal.Refusal.{Refusal}
use Rattle.trace.specs.declared.entries.Entry.{Entry}
use Rattle.trace.specs.Taken.{TakesEntry}
use Rattle.trace.proofs.Laws.{answering_first, answering_cut, answering_full, answering_next, answering_done}
use Rattle.trace.proofs.run.Goals as goal

pub loop-entry-init : goal.loop-entry-init
loop-entry-init c =
    let whole : take (length c.args.trace.now - c.header_length.result) (drop c.header_length.result c.args.trace.now) ≡ drop c.header_length.result c.args.trace.now =
    take_all (length c.args.trace.now - c.header_length.result) (drop c.header_length.result c.args.trace.now) (rw length-drop (le_refl (length c.args.trace.now - c.header_length.result))) in
    rw (c.into_iter-entry-iterator.ensures.into_iter_gives, c.new-entry-items.ensures, whole, c.header_length.ensures.0) (answering_first _ _ _ c.requires.0 c.requires.1)

pub returns-in-Err-clause-value : goal.returns-in-Err-clause-value
returns-in-Err-clause-value c =
    rw (c.from.ensures, c.number.ensures)
    (answering_cut c.loop-entry.invariant c.in-Err.refusal c.next.new.self (subst (λ (x : Result Entry Refusal). TakesEntry c.loop-entry.entry-iterator (Some x) c.next.new.self) c.in-Err.is c.in-Some.ensures.steps)).0

pub returns-in-Err-clause-answers_after : goal.returns-in-Err-clause-answers_after
returns-in-Err-clause-answers_after c =
    (answering_cut c.loop-entry.invariant c.in-Err.refusal c.next.new.self (subst (λ (x : Result Entry Refusal). TakesEntry c.loop-entry.entry-iterator (Some x) c.next.new.self) c.in-Err.is c.in-Some.ensures.steps)).1

pub returns-then-answers-out-lt8-clause-value : goal.returns-then-answers-out-lt8-clause-value
returns-then-answers-out-lt8-clause-value c =
    rw (c.from-then-answers-out-lt8.ensures, c.number-then-answers-out-lt8.ensures)
    (answering_full c.loop-entry.invariant c.in-Ok.entry c.next.new.self (subst (λ (x : Result Entry Refusal). TakesEntry c.loop-entry.entry-iterator (Some x) c.next.new.self) c.in-Ok.is c.in-Some.ensures.steps) c.if-answers-out-lt8.true).0

pub returns-then-answers-out-lt8-clause-answers_after : goal.returns-then-answers-out-lt8-clause-answers_after
returns-then-answers-out-lt8-clause-answers_after c =
    (answering_full c.loop-entry.invariant c.in-Ok.entry c.next.new.self (subst (λ (x : Result Entry Refusal). TakesEntry c.loop-entry.entry-iterator (Some x) c.next.new.self) c.in-Ok.is c.in-Some.ensures.steps) c.if-answers-out-lt8.true).1

pub loop-entry-preserved : goal.loop-entry-preserved
loop-entry-preserved c =
    answering_next c.loop-entry.invariant c.in-Ok.entry c.next.new.self _ _ _ (subst (λ (x : Result Entry Refusal). TakesEntry c.loop-entry.entry-iterator (Some x) c.next.new.self) c.in-Ok.is c.in-Some.ensures.steps)
    c.if-answers-out-lt8.false c.answer_entry-answer.ensures c.pack.ensures c.store.ensures

pub returns-clause-value : goal.returns-clause-value
returns-clause-value c =
    (answering_done c.loop-entry.invariant c.next.new.self c.in-None.ensures.steps).0

pub returns-clause-answers_after : goal.returns-clause-answers_after
returns-clause-answers_after c = (answering_done c.loop-entry.invariant c.next.new.self c.in-None.ensures.steps).1
