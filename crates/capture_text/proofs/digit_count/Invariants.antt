use Rattle.capture_text.specs.Laws.{Counted}
use Rattle.capture_text.proofs.digit_count.Given as goal

abbrev pub invariant-loop-count : goal.invariant-loop-count
invariant-loop-count l = Counted l.number l.left l.count
