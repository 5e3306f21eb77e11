-- The live door: a station opened by a header, and stepped by one entry at a time (DOORS: open_station, step_station). Assumes nothing.
use Rattle.std.specs.Prelude.{ℕ, ◌+◌, ◌-◌, ◌*◌, cond, List, length, get_or, take, drop, eqb, ltb, Option, Some, None, Result, Ok, Err}
use Rattle.codec_fields.specs.Fields.{stored_of}
use Rattle.codec_answers.specs.Answers.{answer_word}
use Rattle.refusals.specs.declared.refusal.Refusal.{Refusal as RefusalOf}
use Rattle.refusals.specs.Refusals.{number_of as refusal_number}
use Rattle.station.specs.declared.station.Station.{Station}
use Rattle.station_answer.specs.Answer.{Polled}
use Rattle.trace_headers.specs.Headers.{header_length, header_of}
use Rattle.trace.specs.Trace.{settings_of, TraceStart, Accepted, Refused, started_with}
use Rattle.trace.specs.Entries.{record_length, entry_of}
use Rattle.live.specs.declared.Consumed.{Consumed}
use Rattle.station_bytes.specs.Bytes.{station_length, read_of, station_into}

-- Opened.

-- the station that a header starts, in either edition: as in a trace, but without the limit of 2^32 bytes
unfoldable pub open_start : List ℕ → TraceStart
open_start header =
    cond (ltb (length header) (header_length header)) (Refused 17) (started_with (settings_of (header_of header)) (header_of header).applications)

-- what the call returns: the header's number, then 18 where there is no room; else the bytes written × 256
unfoldable pub open_number_on : TraceStart → ℕ → ℕ
open_number_on (Accepted s) room = cond (ltb room station_length) 18 (station_length * 256)
open_number_on (Refused n) room = n

unfoldable pub open_number : List ℕ → ℕ → ℕ
open_number header room = open_number_on (open_start header) room

-- what it leaves: the station's bytes, where there is room for them
unfoldable pub open_into_on : TraceStart → List ℕ → List ℕ
open_into_on (Accepted s) out = station_into out s
open_into_on (Refused n) out = out

unfoldable pub open_into : List ℕ → List ℕ → List ℕ
open_into header out = open_into_on (open_start header) out

-- Stepped.

-- a step: refused with a number, or what the entry came to, and how many bytes it has
pub data Stepped : Type 0 where
  Refusal : ℕ → Stepped
  Answers : Polled → ℕ → Stepped

-- a station stepped by the entry that these bytes begin with, with room bytes for its answer: 17 where it is empty or cut, then 18
unfoldable pub step_found : Station → List ℕ → ℕ → Stepped
step_found s entry room =
    cond (eqb (length entry) 0) (Refusal 17)
    (cond (ltb (length entry - 1) (record_length (get_or entry 0 0))) (Refusal 17)
    (cond (ltb room 8) (Refusal 18)
    (Answers (entry_of s (get_or entry 0 0) (take (record_length (get_or entry 0 0)) (drop 1 entry))) (1 + record_length (get_or entry 0 0)))))

-- 36 where the bytes are no station, before all else
unfoldable pub step_on : Option Station → List ℕ → ℕ → Stepped
step_on (Some s) entry room = step_found s entry room
step_on None entry room = Refusal 36

unfoldable pub step_of : List ℕ → List ℕ → ℕ → Stepped
step_of bytes entry room = step_on (read_of bytes) entry room

-- what the call returns: the number, or the entry's bytes × 256
unfoldable pub step_number : Stepped → ℕ
step_number (Refusal n) = n
step_number (Answers polled size) = size * 256

-- what it leaves of the station's bytes, and of the answer's: nothing is written where it refuses
unfoldable pub step_into : Stepped → List ℕ → List ℕ
step_into (Refusal n) out = out
step_into (Answers polled size) out = station_into out polled.station

unfoldable pub step_answer : Stepped → List ℕ → List ℕ
step_answer (Refusal n) out = out
step_answer (Answers polled size) out = stored_of out 0 8 (answer_word polled.answer)

-- what an entry of so many bytes consumed: so many telegrams of its record, which speaks for so many applications
unfoldable pub consumed_for : Polled → ℕ → Consumed
consumed_for polled size = record { size = size; telegrams = polled.answer.consumed; applications = polled.station.applications }

-- what a step came to beside its bytes: its number, and what it consumed
pub record Done : Type 0 where
  pub number : ℕ
  pub consumed : Option Consumed

-- nothing is consumed where it refuses
unfoldable pub done_of : Stepped → Done
done_of (Refusal n) = record { number = n; consumed = None }
done_of (Answers polled size) = record { number = size * 256; consumed = Some (consumed_for polled size) }

-- the same of what the code gives: what was consumed, or a refusal
abbrev pub done_in : Result Consumed RefusalOf → Done
done_in (Ok consumed) = record { number = consumed.size * 256; consumed = Some consumed }
done_in (Err refusal) = record { number = refusal_number refusal; consumed = None }
