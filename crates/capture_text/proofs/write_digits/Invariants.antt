use Rattle.capture_text.specs.Laws.{Filled}
use Rattle.capture_text.proofs.write_digits.Given as goal

abbrev pub invariant-loop-place : goal.invariant-loop-place
invariant-loop-place l = Filled l.initial.text l.text l.number l.left l.place
