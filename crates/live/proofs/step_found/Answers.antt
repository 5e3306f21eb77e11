-- The entry's bytes are none, end inside it, have no room for its answer, or are answered.
use Rattle.std.proofs.Common.{arith, ap, length}
use Rattle.live.specs.Laws.{ends_empty, ends_cut, ends_full, ends_answered, record_short}
use Rattle.live.proofs.step_found.Goals as goal

pub returns-in-None-clause-value : goal.returns-in-None-clause-value
returns-in-None-clause-value c =
    (ends_empty c.args.found.now c.args.entry.now c.args.station.now c.args.answer.now c.next.new.self (rw c.new.ensures at c.in-None.ensures.steps)).0

pub returns-in-None-clause-station_after : goal.returns-in-None-clause-station_after
returns-in-None-clause-station_after c =
    (ends_empty c.args.found.now c.args.entry.now c.args.station.now c.args.answer.now c.next.new.self (rw c.new.ensures at c.in-None.ensures.steps)).1.0

pub returns-in-None-clause-answer_after : goal.returns-in-None-clause-answer_after
returns-in-None-clause-answer_after c =
    (ends_empty c.args.found.now c.args.entry.now c.args.station.now c.args.answer.now c.next.new.self (rw c.new.ensures at c.in-None.ensures.steps)).1.1

pub returns-in-Some-Err-clause-value : goal.returns-in-Some-Err-clause-value
returns-in-Some-Err-clause-value c =
    (ends_cut c.args.found.now c.args.entry.now c.args.station.now c.args.answer.now c.next.new.self _ (rw (c.new.ensures, c.in-Some-Err.field-0-is) at c.in-Some-Err.ensures.steps)).0

pub returns-in-Some-Err-clause-station_after : goal.returns-in-Some-Err-clause-station_after
returns-in-Some-Err-clause-station_after c =
    (ends_cut c.args.found.now c.args.entry.now c.args.station.now c.args.answer.now c.next.new.self _ (rw (c.new.ensures, c.in-Some-Err.field-0-is) at c.in-Some-Err.ensures.steps)).1.0

pub returns-in-Some-Err-clause-answer_after : goal.returns-in-Some-Err-clause-answer_after
returns-in-Some-Err-clause-answer_after c =
    (ends_cut c.args.found.now c.args.entry.now c.args.station.now c.args.answer.now c.next.new.self _ (rw (c.new.ensures, c.in-Some-Err.field-0-is) at c.in-Some-Err.ensures.steps)).1.1

pub returns-then-answer-lt8-clause-value : goal.returns-then-answer-lt8-clause-value
returns-then-answer-lt8-clause-value c =
    (ends_full c.args.found.now c.args.entry.now c.args.station.now c.args.answer.now c.next.new.self c.in-Some-Ok.taken (rw (c.new.ensures, c.in-Some-Ok.field-0-is) at c.in-Some-Ok.ensures.steps) c.if-answer-lt8.true).0

pub returns-then-answer-lt8-clause-station_after : goal.returns-then-answer-lt8-clause-station_after
returns-then-answer-lt8-clause-station_after c =
    (ends_full c.args.found.now c.args.entry.now c.args.station.now c.args.answer.now c.next.new.self c.in-Some-Ok.taken (rw (c.new.ensures, c.in-Some-Ok.field-0-is) at c.in-Some-Ok.ensures.steps) c.if-answer-lt8.true).1.0

pub returns-then-answer-lt8-clause-answer_after : goal.returns-then-answer-lt8-clause-answer_after
returns-then-answer-lt8-clause-answer_after c =
    (ends_full c.args.found.now c.args.entry.now c.args.station.now c.args.answer.now c.next.new.self c.in-Some-Ok.taken (rw (c.new.ensures, c.in-Some-Ok.field-0-is) at c.in-Some-Ok.ensures.steps) c.if-answer-lt8.true).1.1

pub overflow_cast-result : goal.overflow_cast-result
overflow_cast-result c = record { fits = omega (arith, ap length c.record.ensures, record_short c.args.found.now c.args.entry.now 0 c.next.new.self c.in-Some-Ok.taken (rw (c.new.ensures, c.in-Some-Ok.field-0-is) at c.in-Some-Ok.ensures.steps) (omega (arith, c.type_inv.entry 0))) }

pub overflow_add-result : goal.overflow_add-result
overflow_add-result c = record { fits = omega (arith, ap length c.record.ensures, record_short c.args.found.now c.args.entry.now 0 c.next.new.self c.in-Some-Ok.taken (rw (c.new.ensures, c.in-Some-Ok.field-0-is) at c.in-Some-Ok.ensures.steps) (omega (arith, c.type_inv.entry 0))) }

pub returns-clause-value : goal.returns-clause-value
returns-clause-value c =
    (ends_answered c.args.found.now c.args.entry.now c.args.station.now c.args.answer.now c.next.new.self c.in-Some-Ok.taken (rw (c.new.ensures, c.in-Some-Ok.field-0-is) at c.in-Some-Ok.ensures.steps) _ _ _ _ _ c.if-answer-lt8.false c.record.ensures c.answer_entry-said.ensures c.pack.ensures c.store.ensures c.write_station.ensures).0

pub returns-clause-station_after : goal.returns-clause-station_after
returns-clause-station_after c =
    (ends_answered c.args.found.now c.args.entry.now c.args.station.now c.args.answer.now c.next.new.self c.in-Some-Ok.taken (rw (c.new.ensures, c.in-Some-Ok.field-0-is) at c.in-Some-Ok.ensures.steps) _ _ _ _ _ c.if-answer-lt8.false c.record.ensures c.answer_entry-said.ensures c.pack.ensures c.store.ensures c.write_station.ensures).1.0

pub returns-clause-answer_after : goal.returns-clause-answer_after
returns-clause-answer_after c =
    (ends_answered c.args.found.now c.args.entry.now c.args.station.now c.args.answer.now c.next.new.self c.in-Some-Ok.taken (rw (c.new.ensures, c.in-Some-Ok.field-0-is) at c.in-Some-Ok.ensures.steps) _ _ _ _ _ c.if-answer-lt8.false c.record.ensures c.answer_entry-said.ensures c.pack.ensures c.store.ensures c.write_station.ensures).1.1
