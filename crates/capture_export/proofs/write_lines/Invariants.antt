use Rattle.capture_export.specs.Laws.{Lined}
use Rattle.capture_export.proofs.write_lines.Given as goal

abbrev pub invariant-loop-index : goal.invariant-loop-index
invariant-loop-index l = Lined l.bytes l.initial.text l.text l.at l.index
