use Rattle.std.proofs.Common.{◌+◌, ◌-◌, ◌≡◌, length}
use Rattle.codec_fields.specs.Fields.{over_of}
use Rattle.codec_fields.proofs.bytes.store.Given as goal

abbrev pub invariant-loop-i : goal.invariant-loop-i
invariant-loop-i l = (length l.s ≡ length l.initial.s) × (over_of l.s (l.at + l.i) (l.count - l.i) l.word ≡ over_of l.initial.s l.at l.count l.word)
