use Rattle.std.proofs.Common.{◌-◌, length}
use Rattle.capture_import.specs.Laws.{Going}
use Rattle.capture_import.proofs.import_capture.Given as goal

abbrev pub invariant-loop-at : goal.invariant-loop-at
invariant-loop-at l = Going l.text l.initial.entries l.entries l.at l.line l.newest

abbrev pub decreases-loop-at : goal.decreases-loop-at
decreases-loop-at l = length l.text - l.at
