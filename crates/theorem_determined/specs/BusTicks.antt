-- Determined, for the public calls of bus_ticks.
use Rattle.std.specs.Prelude.{ℕ, ◌<◌, ◌≡◌, List, take, get_or}
use Rattle.std.proofs.Common.{◌∙◌, sym}
use Rattle.bus_run.specs.Run.{Bus}
use Rattle.bus_seats.specs.declared.Seat.{Seat}
use Rattle.bus_ticks.specs.Ticks.{BusIs}
use Rattle.bus_ticks.specs.Starts.{SeatStarts}
use Rattle.theorem_determined.specs.BusSeats.{seats_same}
use Rattle.bus_ticks.proofs.open_bus.Reads as open-bus-reads
use Rattle.bus_ticks.proofs.Bus.tick.Reads as tick-reads

-- one seat starts at a place
starts_same : (setup : List ℕ) (n place : ℕ) (c d : Seat) → SeatStarts setup n place c → SeatStarts setup n place d → c ≡ d
starts_same setup n place c d p q =
    seats_same c d (p.station ∙ sym q.station) (p.waiting ∙ sym q.waiting) (p.until ∙ sym q.until)

-- of `open_bus` the seats in use are fixed, and what is on the bus
pub open_bus :
    (κs : _) (a : _) (r₁ r₂ : _) (s₁ s₂ : _)
    → open-bus-reads.Post κs a r₁ s₁
    → open-bus-reads.Post κs a r₂ s₂
    → ((d : Seat) (k : ℕ) → k < a.1.0 → get_or r₁.seats k d ≡ get_or r₂.seats k d) × (r₁.wire ≡ r₂.wire)
open_bus κs a r₁ r₂ s₁ s₂ p q = (λ d k h. starts_same _ _ _ _ _ (p.seats d k h) (q.seats d k h), p.wire ∙ sym q.wire)

-- of `tick`, on what a bus is kept as, all that it shows is fixed: the words of the answers, and the chosen station's record up to its
-- length; what bus it leaves is fixed by its contract, `TickIs`
pub tick :
    (κs : _) (a : _) (r₁ r₂ : _) (s₁ s₂ : _) (span : ℕ) (b : Bus)
    → tick-reads.Post κs a r₁ s₁
    → tick-reads.Post κs a r₂ s₂
    → 0 < span
    → BusIs span a.1.0 b a.1.1.0 a.0.now
    → ((k : ℕ) → k < a.1.0 → get_or r₁.words k 0 ≡ get_or r₂.words k 0)
    × (a.1.1.1.0 < a.1.0 → take r₁.given.length r₁.given.bytes ≡ take r₂.given.length r₂.given.bytes)
tick κs a r₁ r₂ s₁ s₂ span b p q some g =
    let x = p.is span b some g in
    let y = q.is span b some g in
    (λ k h. x.words k h ∙ sym (y.words k h), λ h. x.chosen_record h ∙ sym (y.chosen_record h))
