use Rattle.std.proofs.Common.{ℕ, ◌*◌, ◌≤◌, ◌≡◌, List, length}
use Rattle.bus_ticks.specs.Starts.{BusStarts, Set}
use Rattle.bus.specs.Reports.{Running}
use Rattle.bus.proofs.run_report.Given as goal

abbrev pub invariant-loop-tick : goal.invariant-loop-tick
invariant-loop-tick l =
    (l.clock ≤ l._tick * 1000000)
    × (l.at ≤ 64 * l._tick)
    × (length l.report ≡ length l.initial.report)
    × (l.at ≡ 8 * (l.n * l._tick))
    × ((setup : List ℕ) → Set setup l.n l.step l.ticks → BusStarts setup l.n l.initial.bus → 8 * (l.n * l.ticks) ≤ length l.initial.report → Running setup l.n l.step l._tick l.clock l.bus l.at l.initial.report l.report)
