use Rattle.std.proofs.Common.{◌≡◌, length}
use Rattle.bus.specs.Reports.{answers_stored}
use Rattle.bus.proofs.write_answers.Given as goal

abbrev pub invariant-loop-i : goal.invariant-loop-i
invariant-loop-i l = (length l.report ≡ length l.initial.report) × (l.report ≡ answers_stored l.initial.report l.at l.words l.i)
