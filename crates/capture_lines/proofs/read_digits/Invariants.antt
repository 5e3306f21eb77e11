use Rattle.std.proofs.Common.{◌≡◌, drop}
use Rattle.capture_lines.specs.Ways.{digits_from}
use Rattle.capture_lines.proofs.read_digits.Given as goal

abbrev pub invariant-loop-byte : goal.invariant-loop-byte
invariant-loop-byte l = (l.digits.count ≡ l.byte-index) × (digits_from 0 0 l.text ≡ digits_from l.digits.value l.byte-index (drop l.byte-index l.text))
