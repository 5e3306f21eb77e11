-- A refused header, no room, or the run over the entries.
use Rattle.std.proofs.Common.{sym, ◌∙◌}
use Rattle.trace.proofs.Laws.{start_long}
use Rattle.trace_counts.specs.Laws.{ends_header, ends_no_room, ends_run}
use Rattle.trace_counts.proofs.trace_counts.Goals as goal

pub returns-in-Err-clause-counts_after : goal.returns-in-Err-clause-counts_after
returns-in-Err-clause-counts_after c = (ends_header _ _ _ (sym c.in-Err.ensures)).1

pub count-number-requires : goal.count-number-requires
count-number-requires c = start_long _ _ (sym c.in-Ok.ensures)

pub returns-then-counts-lt-COUNTS_LENGTH-clause-value : goal.returns-then-counts-lt-COUNTS_LENGTH-clause-value
returns-then-counts-lt-COUNTS_LENGTH-clause-value c =
    c.from-then-counts-lt-COUNTS_LENGTH.ensures
    ∙ c.number-then-counts-lt-COUNTS_LENGTH.ensures
    ∙ (ends_no_room _ _ _ (sym c.in-Ok.ensures) c.if-counts-lt-COUNTS_LENGTH.true).0

pub returns-then-counts-lt-COUNTS_LENGTH-clause-counts_after : goal.returns-then-counts-lt-COUNTS_LENGTH-clause-counts_after
returns-then-counts-lt-COUNTS_LENGTH-clause-counts_after c = (ends_no_room _ _ _ (sym c.in-Ok.ensures) c.if-counts-lt-COUNTS_LENGTH.true).1

pub returns-clause-value : goal.returns-clause-value
returns-clause-value c =
    (ends_run _ _ _ _ _ _ (sym c.in-Ok.ensures) c.if-counts-lt-COUNTS_LENGTH.false c.count-number.ensures.value c.count-number.ensures.counts c.write_counts.ensures).0

pub returns-clause-counts_after : goal.returns-clause-counts_after
returns-clause-counts_after c =
    (ends_run _ _ _ _ _ _ (sym c.in-Ok.ensures) c.if-counts-lt-COUNTS_LENGTH.false c.count-number.ensures.value c.count-number.ensures.counts c.write_counts.ensures).1
