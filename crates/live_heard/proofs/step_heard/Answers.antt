-- The table is too short, the step refuses, or the table is fed.
use Rattle.live_heard.proofs.Laws.{ends_short, ends_within, ends_refused, ends_heard}
use Rattle.live_heard.proofs.step_heard.Goals as goal

pub returns-then-table-lt-TABLE_LENGTH-clause-station_after : goal.returns-then-table-lt-TABLE_LENGTH-clause-station_after
returns-then-table-lt-TABLE_LENGTH-clause-station_after c =
    (ends_short c.args.station.now c.args.entry.now c.args.answer.now c.args.table.now _ _ c.if-table-lt-TABLE_LENGTH.true c.step_station.ensures.value c.step_station.ensures.station_after).1.0

pub returns-then-table-lt-TABLE_LENGTH-clause-answer_after : goal.returns-then-table-lt-TABLE_LENGTH-clause-answer_after
returns-then-table-lt-TABLE_LENGTH-clause-answer_after c =
    (ends_short c.args.station.now c.args.entry.now c.args.answer.now c.args.table.now _ _ c.if-table-lt-TABLE_LENGTH.true c.step_station.ensures.value c.step_station.ensures.station_after).1.1.0

pub returns-then-table-lt-TABLE_LENGTH-clause-table_after : goal.returns-then-table-lt-TABLE_LENGTH-clause-table_after
returns-then-table-lt-TABLE_LENGTH-clause-table_after c =
    (ends_short c.args.station.now c.args.entry.now c.args.answer.now c.args.table.now _ _ c.if-table-lt-TABLE_LENGTH.true c.step_station.ensures.value c.step_station.ensures.station_after).1.1.1

pub returns-in-Err-clause-value : goal.returns-in-Err-clause-value
returns-in-Err-clause-value c = rw (c.done_number-number.ensures, c.in-Err.is) (ends_refused c.args.station.now c.args.entry.now c.args.answer.now c.args.table.now _ _ c.if-table-lt-TABLE_LENGTH.false c.step-done.ensures.station_after c.step-done.ensures.answer_after _ (rw c.in-Err.is at c.step-done.ensures.value)).0

pub returns-in-Err-clause-station_after : goal.returns-in-Err-clause-station_after
returns-in-Err-clause-station_after c = (ends_refused c.args.station.now c.args.entry.now c.args.answer.now c.args.table.now _ _ c.if-table-lt-TABLE_LENGTH.false c.step-done.ensures.station_after c.step-done.ensures.answer_after _ (rw c.in-Err.is at c.step-done.ensures.value)).1.0

pub returns-in-Err-clause-answer_after : goal.returns-in-Err-clause-answer_after
returns-in-Err-clause-answer_after c = (ends_refused c.args.station.now c.args.entry.now c.args.answer.now c.args.table.now _ _ c.if-table-lt-TABLE_LENGTH.false c.step-done.ensures.station_after c.step-done.ensures.answer_after _ (rw c.in-Err.is at c.step-done.ensures.value)).1.1.0

pub returns-in-Err-clause-table_after : goal.returns-in-Err-clause-table_after
returns-in-Err-clause-table_after c = (ends_refused c.args.station.now c.args.entry.now c.args.answer.now c.args.table.now _ _ c.if-table-lt-TABLE_LENGTH.false c.step-done.ensures.station_after c.step-done.ensures.answer_after _ (rw c.in-Err.is at c.step-done.ensures.value)).1.1.1

pub returns-clause-value : goal.returns-clause-value
returns-clause-value c = rw (c.done_number-number.ensures, c.in-Ok.is) (ends_heard c.args.station.now c.args.entry.now c.args.answer.now c.args.table.now _ _ c.if-table-lt-TABLE_LENGTH.false c.step-done.ensures.station_after c.step-done.ensures.answer_after c.in-Ok.consumed (rw c.in-Ok.is at c.step-done.ensures.value) _ (rw c.from.ensures at c.hear_record.ensures)).0

pub returns-clause-station_after : goal.returns-clause-station_after
returns-clause-station_after c = (ends_heard c.args.station.now c.args.entry.now c.args.answer.now c.args.table.now _ _ c.if-table-lt-TABLE_LENGTH.false c.step-done.ensures.station_after c.step-done.ensures.answer_after c.in-Ok.consumed (rw c.in-Ok.is at c.step-done.ensures.value) _ (rw c.from.ensures at c.hear_record.ensures)).1.0

pub returns-clause-answer_after : goal.returns-clause-answer_after
returns-clause-answer_after c = (ends_heard c.args.station.now c.args.entry.now c.args.answer.now c.args.table.now _ _ c.if-table-lt-TABLE_LENGTH.false c.step-done.ensures.station_after c.step-done.ensures.answer_after c.in-Ok.consumed (rw c.in-Ok.is at c.step-done.ensures.value) _ (rw c.from.ensures at c.hear_record.ensures)).1.1.0

pub returns-clause-table_after : goal.returns-clause-table_after
returns-clause-table_after c = (ends_heard c.args.station.now c.args.entry.now c.args.answer.now c.args.table.now _ _ c.if-table-lt-TABLE_LENGTH.false c.step-done.ensures.station_after c.step-done.ensures.answer_after c.in-Ok.consumed (rw c.in-Ok.is at c.step-done.ensures.value) _ (rw c.from.ensures at c.hear_record.ensures)).1.1.1

pub slice_bounds-hear_record-count : goal.slice_bounds-hear_record-count
slice_bounds-hear_record-count c = rw c.from.ensures (ends_within c.args.station.now c.args.entry.now c.args.answer.now c.args.table.now _ _ c.if-table-lt-TABLE_LENGTH.false c.step-done.ensures.station_after c.step-done.ensures.answer_after c.in-Ok.consumed (rw c.in-Ok.is at c.step-done.ensures.value)).0

pub slice_bounds-hear_record-start : goal.slice_bounds-hear_record-start
slice_bounds-hear_record-start c = rw c.from.ensures (ends_within c.args.station.now c.args.entry.now c.args.answer.now c.args.table.now _ _ c.if-table-lt-TABLE_LENGTH.false c.step-done.ensures.station_after c.step-done.ensures.answer_after c.in-Ok.consumed (rw c.in-Ok.is at c.step-done.ensures.value)).0

pub slice_bounds-hear_record-end : goal.slice_bounds-hear_record-end
slice_bounds-hear_record-end c = rw c.from.ensures (ends_within c.args.station.now c.args.entry.now c.args.answer.now c.args.table.now _ _ c.if-table-lt-TABLE_LENGTH.false c.step-done.ensures.station_after c.step-done.ensures.answer_after c.in-Ok.consumed (rw c.in-Ok.is at c.step-done.ensures.value)).1
