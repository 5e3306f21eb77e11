use Rattle.std.specs.Prelude.{◌≤◌, ◌*◌, ◌≡◌}
use Rattle.bus_setup.specs.Setup.{sum_below, is_other}
use Rattle.bus_setup.proofs.others.Given as goal

abbrev pub invariant-loop-j : goal.invariant-loop-j
invariant-loop-j l = (l.others ≤ l.j) × (l.others ≡ sum_below (is_other l.setup) l.j)
