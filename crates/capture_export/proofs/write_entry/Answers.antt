use Rattle.std.proofs.Common.{refl, ap, get_or, arith}
use Rattle.capture_export.specs.Export.{entry_used}
use Rattle.capture_export.specs.Turns.{EntryTold}
use Rattle.capture_export.specs.Laws.{code_lines, handed_on}
use Rattle.capture_export.proofs.write_entry.Goals as goal

-- the record's lines are the entry's, those before the one that has no room
pub returns-in_err-bytes-clause-value : goal.returns-in_err-bytes-clause-value
returns-in_err-bytes-clause-value c =
    let used = entry_used (get_or c.args.entries.now 0 0) in
    let lines =
    (code_lines c.args.entries.now c.args.text.now c.requires (omega arith) c.if-entries-used.false c.in_ok-check.ensures.refused refl (c.in_err-bytes.ensures.value, c.in_err-bytes.ensures.text_after)).0 in
    rw (handed_on c.from_residual-in_err-bytes.result c.in_err-bytes.field-0.0 c.from_residual-in_err-bytes.ensures.1)
    (ap (λ (x : EntryTold). record { used = used; bytes = x.bytes; refusal = x.refusal }) lines)

pub returns-in_err-bytes-clause-text_after : goal.returns-in_err-bytes-clause-text_after
returns-in_err-bytes-clause-text_after c =
    (code_lines c.args.entries.now c.args.text.now c.requires (omega arith) c.if-entries-used.false c.in_ok-check.ensures.refused refl (c.in_err-bytes.ensures.value, c.in_err-bytes.ensures.text_after)).1

pub returns-clause-value : goal.returns-clause-value
returns-clause-value c =
    (code_lines c.args.entries.now c.args.text.now c.requires (omega arith) c.if-entries-used.false c.in_ok-check.ensures.refused refl (c.in_ok-bytes.ensures.value, c.in_ok-bytes.ensures.text_after)).0

pub returns-clause-text_after : goal.returns-clause-text_after
returns-clause-text_after c =
    (code_lines c.args.entries.now c.args.text.now c.requires (omega arith) c.if-entries-used.false c.in_ok-check.ensures.refused refl (c.in_ok-bytes.ensures.value, c.in_ok-bytes.ensures.text_after)).1
