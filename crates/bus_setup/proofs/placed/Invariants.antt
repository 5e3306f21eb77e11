use Rattle.std.specs.Prelude.{◌≡◌}
use Rattle.bus_setup.specs.Setup.{placed_in}
use Rattle.bus_setup.proofs.placed.Given as goal

abbrev pub invariant-loop-j : goal.invariant-loop-j
invariant-loop-j l = l.found ≡ placed_in l.setup l.n l.i l.j
