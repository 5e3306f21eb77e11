-- What the lines of a sound state and core say of the core's numbers, with the ranges of accepted settings: none comes near the end of its type.
use Rattle.std.specs.Prelude.{ℕ, ◌+◌, ◌-◌, ◌*◌, ◌≤◌, ◌<◌, ◌^◌, ◌≡◌, refl, Option, Some, None}
use Rattle.std.proofs.Common.{ap, ◌∙◌, inl, inr, arith}
use Rattle.bit_times.specs.declared.micros.Micros.{Micros}
use Rattle.bit_times.specs.declared.baud.Baud.{Baud}
use Rattle.bit_times.proofs.Laws.{time_bound}
use Rattle.settings.specs.declared.parameters.Parameters.{Parameters}
use Rattle.settings.specs.Settings.{rotation_time_of}
use Rattle.ring.specs.declared.GapState.{GapState}
use Rattle.ring.specs.declared.GapState.TheVariants.{Waiting, DoPoll}
use Rattle.station.specs.declared.state.State.{State}
use Rattle.station.specs.declared.parts.Core.{Core}
use Rattle.station_hold.specs.Hold.{hold_less, end_of}
use Rattle.station_hold.specs.Laws.{capped_fits}
use Rattle.theorem_sound.specs.Moves.{GapCounted}
use Rattle.theorem_sound.specs.Lines.{ActivityFits, HoldSet, HoldMade, SoundCore}

-- an activity, where it is known, is below a number
abbrev pub Below : ℕ → Option Micros → Type 0
Below k None = Unit {0}
Below k (Some last) = last.0 < k

-- the last bus activity is below 2 to the 49: a time of 48 bits and at most 294,525 microseconds
pub activity_below : (p : Parameters) (n : ℕ) (x : State) (c : Core) → SoundCore p n x c → Below (2 ^ 49) c.last_bus_activity
activity_below p n x c w = go p.baudrate c.last_bus_activity w.activity_fits
  where
    go : (baud : Baud) (a : Option Micros) → ActivityFits baud a → Below (2 ^ 49) a
    go baud None f = tt
    go baud (Some last) f = omega (arith, time_bound (record { 0 = 11 * 255 }) baud)

-- the end of hold, without what is taken off, is far below the largest number of 64 bits
span_below : (p : Parameters) (last end : Micros) → p.token_rotation_bits ≤ 16777960 → (h : HoldSet p last end) → h.from.0 + (rotation_time_of p).0 < 2 ^ 49
unfolding rotation_time_of
span_below p last end l h = omega (arith, h.clock, time_bound (record { 0 = p.token_rotation_bits }) p.baudrate)

-- The end of hold is the number itself: with an accepted rotation time its cap is never met.
pub hold_itself : (p : Parameters) (last end : Micros) → p.token_rotation_bits ≤ 16777960 → (h : HoldSet p last end) → end.0 ≡ h.from.0 + (rotation_time_of p).0 - (hold_less p h.gap).0
unfolding end_of
hold_itself p last end l h = ap (λ (t : Micros). t.0) h.end_is ∙ capped_fits _ _ refl (omega (arith, span_below p last end l h))

-- so it is below 2 to the 49
pub hold_below : (p : Parameters) (n : ℕ) (x : State) (c : Core) → p.token_rotation_bits ≤ 16777960 → SoundCore p n x c → c.end_token_hold_time.0 < 2 ^ 49
hold_below p n x c l w = go c.last_token_time c.end_token_hold_time w.hold_made
  where
    go : (last end : Micros) → HoldMade p last end → end.0 < 2 ^ 49
    go last end (inl none) = omega (arith, none.no_end)
    go last end (inr set) = rw (hold_itself p last end l set) (omega (arith, span_below p last end l set))

-- the gap's count is below 256, so that 8 bits would do
abbrev pub CountBelow : ℕ → GapState → Type 0
CountBelow k (Waiting count) = count < k
CountBelow k (DoPoll a) = Unit {0}

pub count_below : (p : Parameters) (n : ℕ) (x : State) (c : Core) → p.gap_wait_rotations ≤ 100 → SoundCore p n x c → CountBelow 256 c.gap_state
count_below p n x c l w = go c.gap_state w.gap_count
  where
    go : (g : GapState) → GapCounted p g → CountBelow 256 g
    go (Waiting count) f = omega arith
    go (DoPoll a) f = tt
