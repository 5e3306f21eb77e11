-- The theorem: a station's part of the report is what the trace call answers to its trace. Assumes nothing.
use Rattle.std.specs.Prelude.{ℕ, zero, suc, ◌+◌, ◌*◌, ◌^◌, ◌<◌, ◌≤◌, ◌≡◌, refl, Bool, length, take, drop}
use Rattle.std.proofs.Math.Path.{ap}
use Rattle.std.proofs.Common.{◌∙◌, eq-eqb, le-ltb, length-append, length-drop, take_at}
use mathlib.Core.List.{List, [], ◌∷◌, ◌++◌}
use native.Mathlib.Omega.{arith}
use Rattle.std.proofs.lemmas.Bool.{lt-leb}
use Rattle.std.proofs.Math.Seq.{drop_at}
use Rattle.codec_fields.specs.Fields.{Bytes}
use Rattle.codec_fields.proofs.Laws.{low_length}
use Rattle.codec_telegrams.specs.declared.Telegram.{Telegram}
use Rattle.codec_records_written.specs.Whole.{each, telegram_bytes, record_bytes}
use Rattle.codec_answers.specs.declared.Answer.{Answer}
use Rattle.station.specs.declared.station.Station.{Station}
use Rattle.station_command.specs.Command.{online_of}
use Rattle.trace_headers.specs.Headers.{header_length}
use Rattle.trace.specs.Entries.{record_length, entry_of}
use Rattle.settings.specs.Settings.{created_number}
use Rattle.trace.specs.Trace.{settings_at, Run, Accepted, start_of, run_of, came, ran_of, replay_of}
use Rattle.trace.proofs.Laws.{replay_started}
use Rattle.theorem_every_trace.specs.Statement.{Entry, Whole, laid, along}
use Rattle.theorem_every_trace.specs.EveryTrace.{each_entry_is_answered}
use Rattle.bus_setup.specs.Setup.{stations_of, tick_of, ticks_of, station_place, address_of, station_header, placed_of, setup_refusal}
use Rattle.bus_setup.specs.Laws.{header_length_lem}
use Rattle.bus_wire.specs.Wire.{heard_at, newest}
use Rattle.bus_run.specs.Run.{bus_at, telegram_in, record_of, record_for, record_at, entries_of, trace_of, trace_refusal, trace_number, trace_into}
use Rattle.bus_run.specs.Sized.{Sized, sized, placed_below}
use Rattle.theorem_bus.specs.Statement.{fresh_at, part_of, Theorem}
use Rattle.theorem_bus.specs.Parts.{along_ending, entries_to, entries_laid, entries_whole, entries_many, answers_are, report_part}
use Rattle.theorem_bus.specs.Start.{refusal_parts, length_is, starts}

-- A trace is not too long.

pub newest_few : {A : Type 0} (l : List A) → length (newest l) ≤ 8
newest_few l = rw length-drop (omega arith)

each_length : (telegrams : ℕ → Telegram) (k : ℕ) → length (each (telegram_bytes telegrams) k) ≡ 4 * k
unfolding each
each_length telegrams zero = refl
each_length telegrams (suc k) = length-append (each (telegram_bytes telegrams) k) (telegram_bytes telegrams k) ∙ rw (each_length telegrams k, low_length) (omega arith)

record_length_lem : (now : ℕ) (transmitting : Bool) (telegrams : List Telegram) → length (record_of now transmitting telegrams) ≡ 14 + 4 * length telegrams
unfolding record_of record_bytes each
record_length_lem now transmitting telegrams =
    rw (length-append, length-append, low_length, each_length (telegram_in telegrams) (length telegrams)) (omega arith)

record_short : (setup : List ℕ) (k place : ℕ) → length (record_at setup k place) ≤ 46
unfolding record_for
record_short setup k place =
    let few = newest_few (((bus_at setup k).seats place).waiting ++ heard_at (bus_at setup k).sent (tick_of setup) (k * tick_of setup) place) in
    rw record_length_lem (omega arith)

entries_short : (setup : List ℕ) (place k : ℕ) → length (entries_of setup place k) ≤ 47 * k
unfolding entries_of
entries_short setup place zero = omega arith
entries_short setup place (suc k) =
    let a = entries_short setup place k in
    let b = record_short setup k place in
    rw length-append (omega arith)

-- no bytes follow online
own : 0 ≡ record_length 0
unfolding record_length
own = refl

ran_is : (s : Station) (trace : List ℕ) (room : ℕ) (entries : List ℕ) (run : Run) → drop (header_length trace) trace ≡ entries → run_of s entries room ≡ run → ran_of s trace room ≡ came run
unfolding ran_of
ran_is s trace room entries run e f = ap (λ (l : List ℕ). came (run_of s l room)) e ∙ ap came f

module _ (setup : List ℕ) (are : Bytes setup) (ok : setup_refusal setup ≡ 0) (place : ℕ) (here : place < stations_of setup) where
  abbrev station : ℕ
  station = placed_of setup (stations_of setup) place

  is_sized : Sized setup
  is_sized = sized setup ok

  one_of : station < stations_of setup
  one_of = placed_below setup (stations_of setup) place (omega arith)

  inside : station_place station + 14 ≤ length setup
  unfolding station_place
  inside = let w = is_sized.whole in let l = one_of in omega arith

  abbrev rest : List ℕ
  rest = 0 ∷ entries_of setup place (ticks_of setup)

  not_long : length (station_header setup station ++ rest) ≤ 2 ^ 32
  not_long =
      let a = entries_short setup place (ticks_of setup) in
      let b = is_sized.bounded in
      rw (length-append (station_header setup station) rest, header_length_lem setup station) (omega arith)

  parts : (address_of setup station ≤ 125) × (created_number (settings_at (station_header setup station)) ≡ 0)
  parts = refusal_parts setup station (is_sized.accepted station one_of)

  started : start_of (trace_of setup place) ≡ Accepted (fresh_at setup place)
  unfolding trace_of
  started = starts setup station are inside parts.0 rest not_long parts.1

  abbrev entries : List Entry
  entries = record { kind = 0; bytes = [] } ∷ entries_to setup place (ticks_of setup)

  after_header : drop (header_length (trace_of setup place)) (trace_of setup place) ≡ laid entries
  unfolding trace_of
  after_header =
      rw (length_is setup station are inside parts.0 rest, drop_at (station_header setup station) rest 16 (header_length_lem setup station), entries_laid setup place (ticks_of setup))

  along_is : (along (fresh_at setup place) entries).answers ≡ (online_of (fresh_at setup place)).answer ∷ part_of setup place (ticks_of setup)
  unfolding entry_of
  along_is = ap (λ (l : List Answer). (online_of (fresh_at setup place)).answer ∷ l) (answers_are setup place (ticks_of setup))

  replays : (room : ℕ) → 8 * (ticks_of setup + 1) ≤ room → replay_of (trace_of setup place) room ≡ record { answers = (online_of (fresh_at setup place)).answer ∷ part_of setup place (ticks_of setup); ending = 0 }
  replays room h =
      replay_started (trace_of setup place) room (fresh_at setup place) started
      ∙ ran
    where
      whole : Whole entries
      whole = (own, entries_whole setup place (ticks_of setup))

      many : 8 * length entries ≤ room
      many = let e = entries_many setup place (ticks_of setup) in omega arith

      run : run_of (fresh_at setup place) (laid entries) room ≡ along (fresh_at setup place) entries
      run = each_entry_is_answered (fresh_at setup place) entries room whole many

      ran : ran_of (fresh_at setup place) (trace_of setup place) room ≡ record { answers = (online_of (fresh_at setup place)).answer ∷ part_of setup place (ticks_of setup); ending = 0 }
      ran = ran_is (fresh_at setup place) (trace_of setup place) room (laid entries) (along (fresh_at setup place) entries) after_header run ∙ rw (along_is, along_ending (fresh_at setup place) entries)

-- what `simulated_trace` gives
given_is :
    (setup : List ℕ) (place : ℕ) (before : List ℕ)
    → setup_refusal setup ≡ 0
    → place < stations_of setup
    → length (trace_of setup place) ≤ length before
    → (trace_number setup place (length before) ≡ length (trace_of setup place) * 256) × (take (length (trace_of setup place)) (trace_into setup place before) ≡ trace_of setup place)
unfolding trace_number trace_into trace_refusal
given_is setup place before ok here room =
    rw (eq-eqb _ _ ok, lt-leb _ _ here, le-ltb _ _ room)
    (refl, take_at (trace_of setup place) (drop (length (trace_of setup place)) before) (length (trace_of setup place)) refl)

pub every_part : Theorem
every_part setup are ok place here =
    record {
      reported = λ k h. report_part setup place k (ticks_of setup) here h;
      starts = started setup are ok place here;
      replayed = replays setup are ok place here;
      given = λ before room. given_is setup place before ok here room;
    }
