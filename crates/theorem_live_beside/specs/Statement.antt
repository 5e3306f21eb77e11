-- What is said of a station in bytes with a table beside it: a step with the table is the step without, and at the end of a trace the counts
-- and the table are what the calls on whole traces write. Its proofs are in Beside.antt and Theorem.antt. Bytes are numbers here, and any
-- list of them is meant.
use Rattle.std.specs.Prelude.{ℕ, ◌≤◌, ◌≡◌, List, [], ◌∷◌, ◌++◌, ◌⊎◌, length, take, replicate}
use Rattle.heard.specs.Heard.{lookup_of, summary_into}
use Rattle.heard.specs.Afresh.{fresh_table}
use Rattle.station.specs.declared.station.Station.{Station}
use Rattle.station_bytes.specs.Bytes.{read_of}
use Rattle.trace_headers.specs.Headers.{header_length}
use Rattle.trace_counts.specs.TraceCounts.{counts_length, counts_into}
use Rattle.trace_heard.specs.TraceHeard.{heard_into}
use Rattle.live.specs.Live.{open_into, step_of, step_number, step_into, step_answer}
use Rattle.live_heard.specs.LiveHeard.{step_beside, step_table}
use Rattle.live_counts.specs.LiveCounts.{read_counts_number, read_counts_into}
use Rattle.theorem_every_trace.specs.Statement.{Entry, Whole, laid, Cut}
use Rattle.theorem_live.specs.Stepped.{entry_bytes, bytes_after, bytes_said}

-- A step with a table that is long enough: the number, the station and the answer are those of the step without.
pub record SameStep (station entry answer table : List ℕ) : Type 0 where
  pub same_number : step_number (step_beside station entry (length answer) (length table)) ≡ step_number (step_of station entry (length answer))
  pub same_station : step_into (step_beside station entry (length answer) (length table)) station ≡ step_into (step_of station entry (length answer)) station
  pub same_answer : step_answer (step_beside station entry (length answer) (length table)) answer ≡ step_answer (step_of station entry (length answer)) answer

-- A step with one that is too short: the number is that of a step without room for its answer, and every byte stays.
pub record NoStep (station entry answer table : List ℕ) : Type 0 where
  pub no_room : step_number (step_beside station entry (length answer) (length table)) ≡ step_number (step_of station entry 0)
  pub station_stays : step_into (step_beside station entry (length answer) (length table)) station ≡ station
  pub answer_stays : step_answer (step_beside station entry (length answer) (length table)) answer ≡ answer
  pub table_stays : step_table (step_beside station entry (length answer) (length table)) entry table ≡ table

-- A station's bytes and a table, lent together.
pub record Lent : Type 0 where
  pub station : List ℕ
  pub table : List ℕ

-- stepped by an entry, with 8 bytes for its answer: what they are then, and the answer
abbrev pub lent_after : Lent → Entry → Lent
lent_after l e =
    record {
      station = step_into (step_beside l.station (entry_bytes e) 8 (length l.table)) l.station;
      table = step_table (step_beside l.station (entry_bytes e) 8 (length l.table)) (entry_bytes e) l.table;
    }

abbrev pub lent_says : Lent → Entry → List ℕ
lent_says l e = step_answer (step_beside l.station (entry_bytes e) 8 (length l.table)) (replicate 8 0)

-- stepped along entries
abbrev pub lent_along : Lent → List Entry → Lent
lent_along l [] = l
lent_along l (e ∷ es) = lent_along (lent_after l e) es

abbrev pub lent_said : Lent → List Entry → List ℕ
lent_said l [] = []
lent_said l (e ∷ es) = lent_says l e ++ lent_said (lent_after l e) es

-- Along any entries the table changes nothing of the station and its answers.
pub record SameAlong (l : Lent) (es : List Entry) : Type 0 where
  pub same_stations : (lent_along l es).station ≡ bytes_after l.station es
  pub same_answers : lent_said l es ≡ bytes_said l.station es

-- what a trace's header opens, with a table of zeros
abbrev pub opened : List ℕ → List ℕ → Lent
opened trace out = record { station = open_into trace out; table = fresh_table }

-- A trace whose header starts the station `fresh`, opened into 96 bytes with a table of zeros beside them, and stepped along its entries.
pub record TraceBeside (trace : List ℕ) (fresh : Station) (out : List ℕ) : Type 0 where
  -- the entries of the trace, and the bytes that are left: none, or an entry that the trace ends inside
  pub entries : List Entry
  pub rest : List ℕ
  pub whole : Whole entries
  pub bytes : trace ≡ take (header_length trace) trace ++ (laid entries ++ rest)
  pub stops : (rest ≡ []) ⊎ Cut rest
  -- the counts read from the station at the end are those that the call on the whole trace writes
  pub counts_told : (room : ℕ) → counts_length ≤ room → read_counts_number (read_of (lent_along (opened trace out) entries).station) room ≡ 0
  pub counts : (before : List ℕ) → read_counts_into (read_of (lent_along (opened trace out) entries).station) before ≡ counts_into trace before
  -- and of each address the table at the end says what the call on the whole trace writes
  pub heard : (address : ℕ) (before : List ℕ) → summary_into (lookup_of (lent_along (opened trace out) entries).table address) before ≡ heard_into trace address before
