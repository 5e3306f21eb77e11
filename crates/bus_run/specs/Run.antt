-- A simulated bus, tick by tick (document 02, P12): what each station is given, what it answers, what is on the bus then; the report and
-- a station's trace. A station is named by its place by rising address, from 0. Assumes nothing.
use Rattle.std.specs.Prelude.{ℕ, zero, suc, ◌+◌, ◌*◌, List, [], ◌∷◌, ◌++◌, Bool, cond, length, drop, get_or, eqb, ltb, leb, Result, Ok, Err}
use Rattle.bit_times.specs.declared.baud.Baud.TheVariants.{B9600}
use Rattle.codec_fields.specs.Fields.{bytes_of}
use Rattle.codec_telegrams.specs.declared.Telegram.{Telegram}
use Rattle.codec_telegrams.specs.declared.Telegram.TheVariants.{ShortConfirmation}
use Rattle.codec_decisions.specs.declared.Decision.{Decision}
use Rattle.codec_decisions.specs.declared.Decision.TheVariants.{Decline}
use Rattle.codec_records.specs.declared.Head.{Head}
use Rattle.codec_records_written.specs.Whole.{record_bytes}
use Rattle.codec_answers.specs.declared.Answer.{Answer}
use Rattle.codec_answers.specs.Answers.{sent_bytes, answer_word}
use Rattle.settings.specs.declared.parameters.Parameters.{Parameters}
use Rattle.refusals.specs.declared.refusal.Refusal.{Refusal}
use Rattle.settings.specs.Settings.{default_of}
use Rattle.station.specs.declared.station.Station.{Station}
use Rattle.station.specs.Parts.{fresh_station}
use Rattle.station_answer.specs.Answer.{Polled}
use Rattle.station_command.specs.Command.{online_of}
use Rattle.station_poll.specs.Poll.{poll_of}
use Rattle.trace.specs.Trace.{settings_at}
use Rattle.bus_setup.specs.Setup.{stations_of, tick_of, ticks_of, station_header, placed_of, setup_refusal}
use Rattle.bus_wire.specs.Wire.{sent_telegram, bytes_time, Transmission, heard_at, transmitting_at, newest}

-- a station of the bus, and the telegrams that it was given and has not consumed, the oldest first
pub record Seat : Type 0 where
  pub station : Station
  pub waiting : List Telegram

-- the bus: its stations, and all that was sent, the newest first
pub record Bus : Type 0 where
  pub seats : ℕ → Seat
  pub sent : List Transmission

-- The start.

-- the settings that a station's header gives (every station of an accepted setup has some)
abbrev pub settings_in : Result Parameters Refusal → Parameters
settings_in (Ok p) = p
settings_in (Err refusal) = default_of 0 B9600

-- the settings of the station at a place
abbrev pub settings_for : List ℕ → ℕ → Parameters
settings_for setup place = settings_in (settings_at (station_header setup (placed_of setup (stations_of setup) place)))

-- a fresh station with one application, put online, and nothing waits
unfoldable pub start_seat : List ℕ → ℕ → Seat
start_seat setup place = record { station = (online_of (fresh_station (settings_for setup place) 1)).station; waiting = [] }

-- A tick: what each station is given and does; nobody sees what is sent at the same tick.

-- not consumed before, then what arrives; beyond 8 the oldest fall away
abbrev pub given : ℕ → Bus → ℕ → ℕ → List Telegram
given tick bus now place = newest ((bus.seats place).waiting ++ heard_at bus.sent tick now place)

-- clock, transmitting, telegram count; pending bytes are 0
abbrev pub head_at : ℕ → Bool → ℕ → Head
head_at now transmitting telegrams = record { clock = now; pending = 0; telegrams = telegrams; transmitting = transmitting }

-- the application declines, whatever is asked
abbrev pub declines : ℕ → Bool → Decision
declines application high = Decline

-- telegram j of a list
abbrev pub telegram_in : List Telegram → ℕ → Telegram
telegram_in telegrams j = get_or telegrams j ShortConfirmation

-- the record for one application, of the telegrams given
unfoldable pub record_of : ℕ → Bool → List Telegram → List ℕ
record_of now transmitting telegrams = record_bytes (head_at now transmitting (length telegrams)) 1 declines (telegram_in telegrams)

-- the poll record of the station at a place
unfoldable pub record_for : ℕ → Bus → ℕ → ℕ → List ℕ
record_for tick bus now place = record_of now (transmitting_at bus.sent now place) (given tick bus now place)

-- the station polled with it
unfoldable pub polled_for : ℕ → Bus → ℕ → ℕ → Polled
polled_for tick bus now place = poll_of (bus.seats place).station (record_for tick bus now place)

-- its answer
abbrev pub answer_for : ℕ → Bus → ℕ → ℕ → Answer
answer_for tick bus now place = (polled_for tick bus now place).answer

-- what it leaves: the telegrams that the answer says were consumed are gone
unfoldable pub seat_after : ℕ → Bus → ℕ → ℕ → Seat
seat_after tick bus now place =
    record {
      station = (polled_for tick bus now place).station;
      waiting = drop (answer_for tick bus now place).consumed (given tick bus now place);
    }

-- how many bytes it sends, 0 where it sends nothing
abbrev pub bytes_for : ℕ → Bus → ℕ → ℕ → ℕ
bytes_for tick bus now place = sent_bytes (answer_for tick bus now place).sent

-- what it sends, from now on, at its own baud rate, with its own address as source
unfoldable pub transmission_for : ℕ → Bus → ℕ → ℕ → Transmission
transmission_for tick bus now place =
    record {
      sender = place;
      starts = now;
      ends = now + bytes_time (bytes_for tick bus now place) (bus.seats place).station.p.baudrate;
      telegram = sent_telegram (answer_for tick bus now place).sent (bus.seats place).station.p.address;
    }

-- all that was sent when the first k stations have been polled
unfoldable pub sent_after : ℕ → Bus → ℕ → ℕ → List Transmission
sent_after tick bus now zero = bus.sent
sent_after tick bus now (suc k) =
    cond (ltb 0 (bytes_for tick bus now k)) (transmission_for tick bus now k ∷ sent_after tick bus now k) (sent_after tick bus now k)

-- the bus after a tick of n stations
unfoldable pub bus_after : ℕ → ℕ → Bus → ℕ → Bus
bus_after tick n bus now = record { seats = seat_after tick bus now; sent = sent_after tick bus now n }

-- The run.

-- the bus before tick k, which is at k × the tick; the first at 0
unfoldable pub bus_at : List ℕ → ℕ → Bus
bus_at setup zero = record { seats = start_seat setup; sent = [] }
bus_at setup (suc k) = bus_after (tick_of setup) (stations_of setup) (bus_at setup k) (k * tick_of setup)

-- the answer of the station at a place, and its record, at tick k
abbrev pub answer_at : List ℕ → ℕ → ℕ → Answer
answer_at setup k place = answer_for (tick_of setup) (bus_at setup k) (k * tick_of setup) place

abbrev pub record_at : List ℕ → ℕ → ℕ → List ℕ
record_at setup k place = record_for (tick_of setup) (bus_at setup k) (k * tick_of setup) place

-- the report of a tick, up to place n: 8 bytes an answer, by rising address
unfoldable pub tick_report : List ℕ → ℕ → ℕ → List ℕ
tick_report setup k zero = []
tick_report setup k (suc place) = tick_report setup k place ++ bytes_of (answer_word (answer_at setup k place))

-- the report of the first k ticks
unfoldable pub report_of : List ℕ → ℕ → List ℕ
report_of setup zero = []
report_of setup (suc k) = report_of setup k ++ tick_report setup k (stations_of setup)

-- a station's entries of the first k ticks: the record's length, and the record
unfoldable pub entries_of : List ℕ → ℕ → ℕ → List ℕ
entries_of setup place zero = []
entries_of setup place (suc k) = entries_of setup place k ++ (length (record_at setup k place) ∷ record_at setup k place)

-- a station's trace: its header of edition 1, online, and the record of each tick
unfoldable pub trace_of : List ℕ → ℕ → List ℕ
trace_of setup place =
    station_header setup (placed_of setup (stations_of setup) place) ++ (0 ∷ entries_of setup place (ticks_of setup))

-- The calls.

-- what is written in place of the first bytes of a slice that has room for it
abbrev pub written : List ℕ → List ℕ → List ℕ
written bytes before = bytes ++ drop (length bytes) before

-- the bytes of a report
abbrev pub report_length : List ℕ → ℕ
report_length setup = 8 * (stations_of setup * ticks_of setup)

-- `simulate`: what refuses it, with room for so many bytes; what it returns, ticks × 256 + number; and what it leaves
unfoldable pub simulate_refusal : List ℕ → ℕ → ℕ
simulate_refusal setup room = cond (eqb (setup_refusal setup) 0) (cond (ltb room (report_length setup)) 18 0) (setup_refusal setup)

unfoldable pub simulate_number : List ℕ → ℕ → ℕ
simulate_number setup room = cond (eqb (simulate_refusal setup room) 0) (ticks_of setup * 256) (simulate_refusal setup room)

unfoldable pub simulate_into : List ℕ → List ℕ → List ℕ
simulate_into setup before = cond (eqb (simulate_refusal setup (length before)) 0) (written (report_of setup (ticks_of setup)) before) before

-- `simulated_trace`: the same, with 29 where the place is not below the number of stations, and 18 where there is no room for the trace
unfoldable pub trace_refusal : List ℕ → ℕ → ℕ → ℕ
trace_refusal setup place room =
    cond (eqb (setup_refusal setup) 0)
    (cond (leb (stations_of setup) place) 29 (cond (ltb room (length (trace_of setup place))) 18 0))
    (setup_refusal setup)

unfoldable pub trace_number : List ℕ → ℕ → ℕ → ℕ
trace_number setup place room =
    cond (eqb (trace_refusal setup place room) 0) (length (trace_of setup place) * 256) (trace_refusal setup place room)

unfoldable pub trace_into : List ℕ → ℕ → List ℕ → List ℕ
trace_into setup place before = cond (eqb (trace_refusal setup place (length before)) 0) (written (trace_of setup place) before) before
