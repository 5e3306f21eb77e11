use Rattle.capture_text.specs.Laws.{Hexed}
use Rattle.capture_text.proofs.write_hex.Given as goal

abbrev pub invariant-loop-i : goal.invariant-loop-i
invariant-loop-i l = Hexed l.initial.text l.text l.bytes l.i
