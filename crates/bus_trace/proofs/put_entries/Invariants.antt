use Rattle.std.proofs.Common.{ℕ, ◌+◌, ◌*◌, ◌≤◌, ◌<◌, ◌≡◌, List, length}
use Rattle.bus_ticks.specs.Starts.{BusStarts, Set}
use Rattle.bus_trace.specs.Traces.{Tracing}
use Rattle.bus_trace.proofs.put_entries.Given as goal

abbrev pub invariant-loop-tick : goal.invariant-loop-tick
invariant-loop-tick l =
    (l.clock ≤ l._tick * 1000000)
    × (l.at ≤ l.initial.at + 47 * l._tick)
    × (length l.trace ≡ length l.initial.trace)
    × ((setup : List ℕ) → Set setup l.n l.step l.ticks → BusStarts setup l.n l.initial.bus → l.chosen < l.n → Tracing setup l.n l.step l._tick l.clock l.chosen l.bus l.initial.at l.at l.initial.trace l.trace)
