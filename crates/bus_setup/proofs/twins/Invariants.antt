use Rattle.std.specs.Prelude.{◌≤◌, ◌*◌, ◌≡◌}
use Rattle.bus_setup.specs.Setup.{sum_below, is_equal}
use Rattle.bus_setup.proofs.twins.Given as goal

abbrev pub invariant-loop-m : goal.invariant-loop-m
invariant-loop-m l = (l.twins ≤ l.m) × (l.twins ≡ sum_below (is_equal l.setup l.j) l.m)
