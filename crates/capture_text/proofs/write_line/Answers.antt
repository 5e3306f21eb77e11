use Rattle.std.proofs.Common.{◌+◌, ◌*◌, ◌<◌, ◌≤◌, length, arith}
use Rattle.capture_text.specs.Laws.{line_fits, line_full}
use Rattle.capture_text.proofs.write_line.Goals.{then-text-begin-via-then-text-begin, then-text-begin-via-else-text-begin+then-text-begin-2}
use Rattle.capture_text.proofs.write_line.Goals as goal

-- there is no room for the line
pub returns-then-text-begin-clause-text_after : goal.returns-then-text-begin-clause-text_after
returns-then-text-begin-clause-text_after c =
    let a = c.args in
    let few : length a.text.now ≤ c.digit_count-digits.result + 1 + 2 * length a.frame.now =
    elim c.then-text-begin.branch [ then-text-begin-via-then-text-begin w ↦ omega arith | then-text-begin-via-else-text-begin+then-text-begin-2 w ↦ omega arith ] in
    (line_full a.time a.frame.now a.text.now c.digit_count-digits.ensures.0 few).1

-- the line fits, and its bytes are as many as its text has
pub returns-clause-value : goal.returns-clause-value
returns-clause-value c =
    let a = c.args in
    let room : c.digit_count-digits.result + 1 + 2 * length a.frame.now < length a.text.now = omega arith in
    (line_fits a.time a.frame.now a.text.now c.digit_count-digits.ensures.0 room c.write_digits.ensures c.write_hex.ensures).0

pub returns-clause-text_after : goal.returns-clause-text_after
returns-clause-text_after c =
    let a = c.args in
    let room : c.digit_count-digits.result + 1 + 2 * length a.frame.now < length a.text.now = omega arith in
    (line_fits a.time a.frame.now a.text.now c.digit_count-digits.ensures.0 room c.write_digits.ensures c.write_hex.ensures).1
