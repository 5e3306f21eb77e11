-- 26, a refused header, no room, or the run over its entries.
use Rattle.std.proofs.Common.{sym, ◌∙◌}
use Rattle.refusals.proofs.Numbers.{refused}
use Rattle.trace.proofs.Laws.{start_long}
use Rattle.trace_heard.proofs.Laws.{ends_refused, ends_header, ends_no_room, ends_run}
use Rattle.trace_heard.proofs.trace_heard.Goals as goal

pub returns-in-Err-clause-after : goal.returns-in-Err-clause-after
returns-in-Err-clause-after c = (ends_refused _ _ _ (λ e. refused _ (c.in-Err.ensures ∙ e))).1

pub returns-in-Err-start-clause-after : goal.returns-in-Err-start-clause-after
returns-in-Err-start-clause-after c = (ends_header _ _ _ _ (sym c.in_default.ensures) (sym c.in-Err-start.ensures)).1

pub listen-number-requires : goal.listen-number-requires
listen-number-requires c = start_long _ _ (sym c.in-Ok.ensures)

pub returns-then-entry-lt-ENTRY_LENGTH-clause-value : goal.returns-then-entry-lt-ENTRY_LENGTH-clause-value
returns-then-entry-lt-ENTRY_LENGTH-clause-value c =
    c.from-then-entry-lt-ENTRY_LENGTH.ensures
    ∙ c.number-then-entry-lt-ENTRY_LENGTH.ensures
    ∙ (ends_no_room _ _ _ _ (sym c.in_default.ensures) (sym c.in-Ok.ensures) c.if-entry-lt-ENTRY_LENGTH.true).0

pub returns-then-entry-lt-ENTRY_LENGTH-clause-after : goal.returns-then-entry-lt-ENTRY_LENGTH-clause-after
returns-then-entry-lt-ENTRY_LENGTH-clause-after c =
    (ends_no_room _ _ _ _ (sym c.in_default.ensures) (sym c.in-Ok.ensures) c.if-entry-lt-ENTRY_LENGTH.true).1

pub returns-clause-value : goal.returns-clause-value
returns-clause-value c =
    (ends_run _ _ _ _ (sym c.in_default.ensures) (sym c.in-Ok.ensures) _ _ _ c.if-entry-lt-ENTRY_LENGTH.false c.listen-number.ensures.value c.listen-number.ensures.table_after c.summary.ensures.shown_after).0

pub returns-clause-after : goal.returns-clause-after
returns-clause-after c =
    (ends_run _ _ _ _ (sym c.in_default.ensures) (sym c.in-Ok.ensures) _ _ _ c.if-entry-lt-ENTRY_LENGTH.false c.listen-number.ensures.value c.listen-number.ensures.table_after c.summary.ensures.shown_after).1
