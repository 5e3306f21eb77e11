use Rattle.std.specs.Prelude.{◌≤◌, ◌*◌, ◌≡◌}
use Rattle.bus_setup.specs.Setup.{sum_below, twins_of}
use Rattle.bus_setup.proofs.pairs.Given as goal

abbrev pub invariant-loop-j : goal.invariant-loop-j
invariant-loop-j l = (l.pairs ≤ 255 * l.j) × (l.pairs ≡ sum_below (twins_of l.setup) l.j)
