-- The bus at the start, and the run over the ticks: before tick k the code keeps the bus before tick k. Assumes nothing.
use Rattle.std.specs.Prelude.{ℕ, zero, suc, ◌+◌, ◌*◌, ◌<◌, ◌≤◌, ◌≡◌, refl, List, [], ◌∷◌, get_or, length, Result, Ok, Err}
use Rattle.std.proofs.Common.{sym, ap, subst, ◌∙◌, arith, suc-mul, zero-mul}
use Rattle.settings.specs.declared.parameters.Parameters.{Parameters}
use Rattle.refusals.specs.declared.refusal.Refusal.{Refusal}
use Rattle.refusals.specs.Refusals.{answered}
use Rattle.settings_rules.specs.Rules.{applications_refusal, refuse_outside}
use Rattle.station.specs.declared.station.Station.{Station}
use Rattle.station.specs.Parts.{fresh_station, new_station}
use Rattle.station_answer.specs.Answer.{Polled}
use Rattle.station_command.specs.Command.{online_of}
use Rattle.trace.specs.Trace.{settings_at}
use Rattle.bus_setup.specs.Setup.{stations_of, tick_of, ticks_of, station_header, placed_of}
use Rattle.bus_wire.specs.declared.Wire.{Wire}
use Rattle.bus_wire.specs.Kept.{quiet, nothing_waits}
use Rattle.bus_wire.proofs.Waits.{waits_none}
use Rattle.bus_wire.specs.Arrives.{own_latest}
use Rattle.bus_wire.proofs.ArrivesLaws.{wire_quiet}
use Rattle.bus_run.specs.Run.{settings_in, start_seat, bus_at}
use Rattle.bus_seats.specs.declared.Seat.{Seat as SeatKept}
use Rattle.bus_seats.specs.Turns.{SeatIs}
use Rattle.bus_ticks.specs.declared.Bus.{Bus as BusKept}
use Rattle.bus_ticks.specs.declared.Ticked.{Ticked}
use Rattle.bus_ticks.specs.Ticks.{BusIs, TickIs, Ticks}

-- The start.

-- a seat at the start
pub record SeatStarts (setup : List ℕ) (n place : ℕ) (c : SeatKept) : Type 0 where
  pub station :
      c.station ≡ (online_of (fresh_station (settings_in (settings_at (station_header setup (placed_of setup n place)))) 1)).station
  pub waiting : c.waiting ≡ nothing_waits
  pub until : c.until ≡ 0

abbrev refused : Result Station Refusal → Type 0
refused (Ok s) = ⊥
refused (Err refusal) = Unit {0}

abbrev made_in : Station → Result Station Refusal → Station
made_in none (Ok s) = s
made_in none (Err refusal) = none

-- one application is not refused
pub one_is_few : (p : Parameters) (refusal : Refusal) → Err refusal ≡ answered (new_station p 1).refusal (new_station p 1).station → ⊥
unfolding new_station applications_refusal refuse_outside answered
one_is_few p refusal e = subst (λ (r : Result Station Refusal). refused r) e tt

station_made : (p : Parameters) (made : Station) → Ok made ≡ answered (new_station p 1).refusal (new_station p 1).station → made ≡ fresh_station p 1
unfolding new_station fresh_station applications_refusal refuse_outside answered
station_made p made e = ap (λ (r : Result Station Refusal). made_in made r) e

-- from what its calls ensure
pub seat_opened :
    (setup : List ℕ) (n place j : ℕ) (header : List ℕ) (created : Result Parameters Refusal) (p : Parameters) (made : Station) (online : Polled)
    → j ≡ placed_of setup n place
    → header ≡ station_header setup j
    → created ≡ settings_at header
    → p ≡ settings_in created
    → Ok made ≡ answered (new_station p 1).refusal (new_station p 1).station
    → online ≡ online_of made
    → online.station ≡ (online_of (fresh_station (settings_in (settings_at (station_header setup (placed_of setup n place)))) 1)).station
seat_opened setup n place j header created p made online a b c d e f = rw (f, station_made p made e, d, c, b, a)

-- a fresh station at each place, and nothing was sent
pub record BusStarts (setup : List ℕ) (n : ℕ) (c : BusKept) : Type 0 where
  pub long : length c.seats ≡ 8
  pub seats : (d : SeatKept) (k : ℕ) → k < n → SeatStarts setup n k (get_or c.seats k d)
  pub wire : c.wire ≡ quiet

-- from its eight seats
pub bus_opened :
    (setup : List ℕ) (n : ℕ) (c0 c1 c2 c3 c4 c5 c6 c7 : SeatKept) (wire : Wire)
    → n ≤ 8
    → SeatStarts setup n 0 c0
    → SeatStarts setup n 1 c1
    → SeatStarts setup n 2 c2
    → SeatStarts setup n 3 c3
    → SeatStarts setup n 4 c4
    → SeatStarts setup n 5 c5
    → SeatStarts setup n 6 c6
    → SeatStarts setup n 7 c7
    → wire ≡ quiet
    → BusStarts setup n (record { seats = c0 ∷ c1 ∷ c2 ∷ c3 ∷ c4 ∷ c5 ∷ c6 ∷ c7 ∷ []; wire = wire })
bus_opened setup n c0 c1 c2 c3 c4 c5 c6 c7 wire few s0 s1 s2 s3 s4 s5 s6 s7 e =
    record { long = refl; seats = λ d k h. each d k (omega arith); wire = e }
  where
    each : (d : SeatKept) (k : ℕ) → k < 8 → SeatStarts setup n k (get_or (c0 ∷ c1 ∷ c2 ∷ c3 ∷ c4 ∷ c5 ∷ c6 ∷ c7 ∷ []) k d)
    each d zero h = s0
    each d (suc zero) h = s1
    each d (suc (suc zero)) h = s2
    each d (suc (suc (suc zero))) h = s3
    each d (suc (suc (suc (suc zero)))) h = s4
    each d (suc (suc (suc (suc (suc zero))))) h = s5
    each d (suc (suc (suc (suc (suc (suc zero)))))) h = s6
    each d (suc (suc (suc (suc (suc (suc (suc zero))))))) h = s7
    each d (suc (suc (suc (suc (suc (suc (suc (suc k)))))))) h = absurd (omega arith)

own_none : (k : ℕ) → 0 ≡ own_latest [] k
unfolding own_latest
own_none k = refl

seat_starts : (setup : List ℕ) (n k : ℕ) (c : SeatKept) → n ≡ stations_of setup → SeatStarts setup n k c → SeatIs (start_seat setup k) (own_latest [] k) c
unfolding start_seat
seat_starts setup n k c e s =
    record { station = s.station ∙ rw e; waits = rw s.waiting waits_none; until_is = s.until ∙ own_none k }

-- it is the bus before the first tick
pub bus_starts : (setup : List ℕ) (tick n : ℕ) (c : BusKept) → n ≡ stations_of setup → BusStarts setup n c → BusIs tick n (bus_at setup 0) 0 c
unfolding bus_at
bus_starts setup tick n c e s =
    record {
      long = s.long;
      seats = λ d k h. seat_starts setup n k (get_or c.seats k d) e (s.seats d k h);
      wire = rw s.wire (wire_quiet tick 0);
    }

-- The run.

-- the numbers of a setup as the run has them
pub record Set (setup : List ℕ) (n tick ticks : ℕ) : Type 0 where
  pub stations : n ≡ stations_of setup
  pub tick_is : tick ≡ tick_of setup
  pub ticks_are : ticks ≡ ticks_of setup
  pub some : 0 < tick

-- where a run stands, before tick k
pub record RunIs (setup : List ℕ) (n tick k clock : ℕ) (c : BusKept) : Type 0 where
  pub bus : BusIs tick n (bus_at setup k) clock c
  pub clock_is : clock ≡ k * tick

pub run_first : (setup : List ℕ) (n tick ticks : ℕ) (c : BusKept) → Set setup n tick ticks → BusStarts setup n c → RunIs setup n tick 0 0 c
run_first setup n tick ticks c s b = record { bus = bus_starts setup tick n c s.stations b; clock_is = sym (zero-mul tick) }

module _ {setup : List ℕ} {n tick ticks k clock : ℕ} {c : BusKept} (s : Set setup n tick ticks) (g : RunIs setup n tick k clock c)
    (chosen : ℕ) (left : BusKept) (r : Ticked) (t : Ticks n clock chosen c left r) where
  -- what this tick leaves
  pub ticked : TickIs tick n (bus_at setup k) clock chosen left r
  ticked = t.is tick (bus_at setup k) s.some g.bus

  bus_next : BusIs tick n (bus_at setup (suc k)) (clock + tick) left
  unfolding bus_at
  bus_next = rw (← s.stations, ← s.tick_is, ← g.clock_is) ticked.bus

  -- one tick more
  pub run_next : RunIs setup n tick (suc k) (clock + tick) left
  run_next = record { bus = bus_next; clock_is = ap (λ (m : ℕ). m + tick) g.clock_is ∙ sym (suc-mul k tick) }
