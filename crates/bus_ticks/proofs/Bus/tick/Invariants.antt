use Rattle.std.proofs.Common.{ℕ, ◌≤◌, ◌<◌, ◌≡◌, length}
use Rattle.bus_run.specs.Run.{Bus}
use Rattle.bus_ticks.specs.Ticks.{BusIs, Ticking}
use Rattle.bus_ticks.proofs.Bus.tick.Given as goal

abbrev pub invariant-loop-i : goal.invariant-loop-i
invariant-loop-i l =
    (l.given.length ≤ 46)
    × (length l.given.bytes ≡ 46)
    × ((tick : ℕ) (b : Bus) → 0 < tick → BusIs tick l.n b l.clock l.fn.self → Ticking tick l.n b l.clock l.chosen l.i l.self.seats l.self.wire l.words l.given)
