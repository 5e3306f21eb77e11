-- Document 02, P12: "Each station's part of the report equals its own trace answers on the records it was given." In one statement, for
-- every setup that is not refused and every station of it, on the trace as `simulated_trace` gives it. Its proof is `every_part` in Theorem.antt.
use Rattle.std.specs.Prelude.{ℕ, zero, suc, ◌+◌, ◌*◌, ◌<◌, ◌≤◌, ◌≡◌, List, [], ◌∷◌, ◌++◌, length, take, drop}
use Rattle.codec_fields.specs.Fields.{Bytes, bytes_of}
use Rattle.codec_answers.specs.declared.Answer.{Answer}
use Rattle.codec_answers.specs.Answers.{answer_word}
use Rattle.station.specs.declared.station.Station.{Station}
use Rattle.station.specs.Parts.{fresh_station}
use Rattle.station_command.specs.Command.{online_of}
use Rattle.trace.specs.Trace.{Accepted, start_of, replay_of}
use Rattle.bus_setup.specs.Setup.{stations_of, ticks_of, setup_refusal}
use Rattle.bus_run.specs.Run.{settings_for, answer_at, report_of, trace_of, trace_number, trace_into}

-- the station at a place before it is put online
abbrev pub fresh_at : List ℕ → ℕ → Station
fresh_at setup place = fresh_station (settings_for setup place) 1

-- its answers at the first k ticks
unfoldable pub part_of : List ℕ → ℕ → ℕ → List Answer
part_of setup place zero = []
part_of setup place (suc k) = part_of setup place k ++ (answer_at setup k place ∷ [])

-- what holds of the station at a place
pub record Part (setup : List ℕ) (place : ℕ) : Type 0 where
  -- the report's 8 bytes of this station at tick k are those of its answer
  pub reported :
      (k : ℕ)
      → k < ticks_of setup
      → take 8 (drop (8 * (stations_of setup * k + place)) (report_of setup (ticks_of setup))) ≡ bytes_of (answer_word (answer_at setup k place))
  -- the header of its trace starts the station that the simulation puts online
  pub starts : start_of (trace_of setup place) ≡ Accepted (fresh_at setup place)
  -- the trace call on its trace, with room, gives the answer to online and then those answers, and ends with 0
  pub replayed :
      (room : ℕ)
      → 8 * (ticks_of setup + 1) ≤ room
      → replay_of (trace_of setup place) room ≡ record { answers = (online_of (fresh_at setup place)).answer ∷ part_of setup place (ticks_of setup); ending = 0 }
  -- and that trace is what `simulated_trace` gives, with room: it returns its bytes × 256, and they stand first in what it leaves
  pub given :
      (before : List ℕ)
      → length (trace_of setup place) ≤ length before
      → (trace_number setup place (length before) ≡ length (trace_of setup place) * 256)
      × (take (length (trace_of setup place)) (trace_into setup place before) ≡ trace_of setup place)

-- the theorem, for every setup that is not refused
abbrev pub Theorem : Type 0
Theorem = (setup : List ℕ) → Bytes setup → setup_refusal setup ≡ 0 → (place : ℕ) → place < stations_of setup → Part setup place
