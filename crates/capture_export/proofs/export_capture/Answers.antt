use Rattle.std.proofs.Common.{refl, arith}
use Rattle.refusals.proofs.Numbers.{refused}
use Rattle.capture_export.specs.Laws.{goes_done, goes_refused, goes_next}
use Rattle.capture_export.proofs.export_capture.Goals as goal

-- the next entry is refused
pub returns-in-Err-clause-value : goal.returns-in-Err-clause-value
returns-in-Err-clause-value c =
    (goes_refused c.loop-at.invariant c.loop-at-test.true c.in-Err.ensures.value c.in-Err.ensures.text_after (refused c.in-Err.cut.refusal)).0

pub returns-in-Err-clause-text_after : goal.returns-in-Err-clause-text_after
returns-in-Err-clause-text_after c =
    (goes_refused c.loop-at.invariant c.loop-at-test.true c.in-Err.ensures.value c.in-Err.ensures.text_after (refused c.in-Err.cut.refusal)).1

-- it is taken: its bytes are some, and within the entries
pub loop-at-preserved : goal.loop-at-preserved
loop-at-preserved c =
    (goes_next c.loop-at.invariant c.loop-at-test.true c.in-Ok.ensures.value c.in-Ok.ensures.text_after refl).0

pub overflow_add-at : goal.overflow_add-at
overflow_add-at c =
    omega (arith, (goes_next c.loop-at.invariant c.loop-at-test.true c.in-Ok.ensures.value c.in-Ok.ensures.text_after refl).2)

pub loop-at-smaller : goal.loop-at-smaller
loop-at-smaller c =
    let next = goes_next c.loop-at.invariant c.loop-at-test.true c.in-Ok.ensures.value c.in-Ok.ensures.text_after refl in
    omega (arith, next.1, next.2)

-- no entry is left
pub returns-clause-value : goal.returns-clause-value
returns-clause-value c = (goes_done c.loop-at.invariant c.loop-at-test.false).0

pub returns-clause-text_after : goal.returns-clause-text_after
returns-clause-text_after c = (goes_done c.loop-at.invariant c.loop-at-test.false).1
