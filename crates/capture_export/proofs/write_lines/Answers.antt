use Rattle.std.proofs.Common.{◌≡◌, ◌<◌, refl, ap}
use Rattle.refusals.proofs.Numbers.{refused}
use Rattle.codec_records.specs.declared.Head.{Head}
use Rattle.codec_records.specs.Records.{head_of, telegram_word_at}
use Rattle.capture_export.specs.Export.{word_line}
use Rattle.capture_export.specs.Laws.{line_counted, line_refused, lined_all, lined_full, lined_more}
use Rattle.capture_export.proofs.write_lines.Goals as goal

-- the next line has no room
pub returns-in-Err-clause-value : goal.returns-in-Err-clause-value
returns-in-Err-clause-value c =
    let s = c.args.bytes.now in
    let more : c.loop-index.index < (head_of s).telegrams = rw c.read-head.ensures at c.loop-index-test.true in
    let timed : c.read-head.result.clock ≡ (head_of s).clock = ap (λ (h : Head). h.clock) c.read-head.ensures in
    let worded : c.load-word.result ≡ telegram_word_at s 1 c.loop-index.index = rw c.telegram_place.ensures at c.load-word.ensures in
    let is = line_refused (word_line c.read-head.result.clock c.load-word.result) _ c.in-Err.ensures.value in
    (lined_full c.loop-index.invariant more timed worded is c.in-Err.ensures.text_after (refused c.in-Err.refusal)).0

pub returns-in-Err-clause-text_after : goal.returns-in-Err-clause-text_after
returns-in-Err-clause-text_after c =
    let s = c.args.bytes.now in
    let more : c.loop-index.index < (head_of s).telegrams = rw c.read-head.ensures at c.loop-index-test.true in
    let timed : c.read-head.result.clock ≡ (head_of s).clock = ap (λ (h : Head). h.clock) c.read-head.ensures in
    let worded : c.load-word.result ≡ telegram_word_at s 1 c.loop-index.index = rw c.telegram_place.ensures at c.load-word.ensures in
    let is = line_refused (word_line c.read-head.result.clock c.load-word.result) _ c.in-Err.ensures.value in
    (lined_full c.loop-index.invariant more timed worded is c.in-Err.ensures.text_after (refused c.in-Err.refusal)).1

-- one line more
pub loop-index-preserved : goal.loop-index-preserved
loop-index-preserved c =
    let s = c.args.bytes.now in
    let more : c.loop-index.index < (head_of s).telegrams = rw c.read-head.ensures at c.loop-index-test.true in
    let timed : c.read-head.result.clock ≡ (head_of s).clock = ap (λ (h : Head). h.clock) c.read-head.ensures in
    let worded : c.load-word.result ≡ telegram_word_at s 1 c.loop-index.index = rw c.telegram_place.ensures at c.load-word.ensures in
    let is = line_counted (word_line c.read-head.result.clock c.load-word.result) _ c.in-Ok.ensures.value in
    lined_more c.loop-index.invariant more timed worded is c.in-Ok.ensures.text_after refl

-- no telegram is left
pub returns-clause-value : goal.returns-clause-value
returns-clause-value c = (lined_all c.loop-index.invariant (rw c.read-head.ensures at c.loop-index-test.false)).0

pub returns-clause-text_after : goal.returns-clause-text_after
returns-clause-text_after c = (lined_all c.loop-index.invariant (rw c.read-head.ensures at c.loop-index-test.false)).1
