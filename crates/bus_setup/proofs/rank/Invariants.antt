use Rattle.std.specs.Prelude.{◌≤◌, ◌*◌, ◌≡◌}
use Rattle.bus_setup.specs.Setup.{sum_below, is_lower}
use Rattle.bus_setup.proofs.rank.Given as goal

abbrev pub invariant-loop-m : goal.invariant-loop-m
invariant-loop-m l = (l.lower ≤ l.m) × (l.lower ≡ sum_below (is_lower l.setup l.j) l.m)
