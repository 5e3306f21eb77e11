use Rattle.std.proofs.Common.{◌-◌, length}
use Rattle.capture_export.specs.Laws.{Going}
use Rattle.capture_export.proofs.export_capture.Given as goal

abbrev pub invariant-loop-at : goal.invariant-loop-at
invariant-loop-at l = Going l.entries l.initial.text l.text l.at l.out l.entry

abbrev pub decreases-loop-at : goal.decreases-loop-at
decreases-loop-at l = length l.entries - l.at
