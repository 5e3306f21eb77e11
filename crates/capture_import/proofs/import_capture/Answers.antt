use Rattle.std.proofs.Common.{ap, arith}
use Rattle.refusals.proofs.Numbers.{refused}
use Rattle.codec_frames.specs.Frames.{numbered}
use Rattle.capture_import.proofs.Laws.{goes_fit, goes_done, goes_refused, goes_next}
use Rattle.capture_import.proofs.import_capture.Goals as goal

pub take_line-requires : goal.take_line-requires
take_line-requires c = goes_fit c.loop-at.invariant

-- the next line is refused
pub returns-in-Err-clause-value : goal.returns-in-Err-clause-value
returns-in-Err-clause-value c =
    (goes_refused c.loop-at.invariant c.loop-at-test.true c.take_line.ensures.value c.take_line.ensures.entries_after (ap numbered c.in-Err.is) (refused c.in-Err.refusal)).0

pub returns-in-Err-clause-entries_after : goal.returns-in-Err-clause-entries_after
returns-in-Err-clause-entries_after c =
    (goes_refused c.loop-at.invariant c.loop-at-test.true c.take_line.ensures.value c.take_line.ensures.entries_after (ap numbered c.in-Err.is) (refused c.in-Err.refusal)).1

-- it is taken: its bytes are some, and within the text
pub overflow_add-at : goal.overflow_add-at
overflow_add-at c =
    omega (arith, (goes_next c.loop-at.invariant c.loop-at-test.true c.take_line.ensures.value c.take_line.ensures.entries_after (ap numbered c.in-Ok.is)).2)

pub loop-at-smaller : goal.loop-at-smaller
loop-at-smaller c =
    let next = goes_next c.loop-at.invariant c.loop-at-test.true c.take_line.ensures.value c.take_line.ensures.entries_after (ap numbered c.in-Ok.is) in
    omega (arith, next.1, next.2)

-- no line is left
pub returns-clause-value : goal.returns-clause-value
returns-clause-value c = (goes_done c.loop-at.invariant c.loop-at-test.false).0

pub returns-clause-entries_after : goal.returns-clause-entries_after
returns-clause-entries_after c = (goes_done c.loop-at.invariant c.loop-at-test.false).1
