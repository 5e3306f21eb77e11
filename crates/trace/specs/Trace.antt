-- A trace (document 01, "Trace"): the station that its header starts, the run over its entries, and what the call leaves.
-- Assumes nothing.
use Rattle.std.specs.Prelude.{ℕ, zero, suc, ◌+◌, ◌-◌, ◌*◌, ◌^◌, List, [], ◌∷◌, ◌++◌, Bool, cond, ◌&&◌, length, take, drop, eqb, leb, ltb, Result, Ok, Err}
use Rattle.codec_fields.specs.Fields.{bytes_of}
use Rattle.refusals.specs.declared.refusal.Refusal.{Refusal}
use Rattle.refusals.specs.declared.refusal.Refusal.TheVariants.{TraceLength}
use Rattle.refusals.specs.Refusals.{number_of as refusal_number, named}
use Rattle.settings.specs.declared.parameters.Parameters.{Parameters}
use Rattle.settings_build.specs.Build.{build_of}
use Rattle.codec_answers.specs.declared.Answer.{Answer}
use Rattle.codec_answers.specs.Answers.{answer_word}
use Rattle.station.specs.declared.station.Station.{Station}
use Rattle.station.specs.Parts.{fresh_station}
use Rattle.trace_headers.specs.declared.Header.{Header}
use Rattle.trace_headers.specs.Headers.{header_length, header_of, header_refusal}
use Rattle.trace.specs.Entries.{record_length, entry_of}

-- the settings that a header gives, each field as given; or its first refusal
unfoldable pub settings_of : Header → Result Parameters Refusal
settings_of h = cond (eqb (header_refusal h) 0) (build_of h.settings) (Err (named (header_refusal h)))

-- document 01, "Trace": the bytes of an answer, and the most bytes of a trace
abbrev pub answer_length : ℕ
answer_length = 8

abbrev pub longest_trace : ℕ
longest_trace = 2 ^ 32

-- whether a trace has its header, by the edition's own length, and no more than 2^32 bytes
abbrev pub has_header : List ℕ → Bool
has_header trace = leb (header_length trace) (length trace) && leb (length trace) longest_trace

-- the settings of a trace: 17 where it ends inside its header or has more than 2^32 bytes, before all else
unfoldable pub settings_at : List ℕ → Result Parameters Refusal
settings_at trace = cond (has_header trace) (settings_of (header_of trace)) (Err TraceLength)

-- the station that is started, or the refusal's number and no station
pub data TraceStart : Type 0 where
  Accepted : Station → TraceStart
  Refused : ℕ → TraceStart

-- a fresh station with these settings and applications, where there are settings
unfoldable pub started_with : Result Parameters Refusal → ℕ → TraceStart
started_with (Ok p) n = Accepted (fresh_station p n)
started_with (Err refusal) n = Refused (refusal_number refusal)

-- the station that a trace starts
unfoldable pub start_of : List ℕ → TraceStart
start_of trace = started_with (settings_at trace) (header_of trace).applications

-- the same of what the code gives: a station, or a refusal
abbrev pub start_in : Result Station Refusal → TraceStart
start_in (Ok s) = Accepted s
start_in (Err refusal) = Refused (refusal_number refusal)

-- a run over entries: the answers given, the station after them, and the number that it ended with
pub record Run : Type 0 where
  pub answers : List Answer
  pub station : Station
  pub ending : ℕ

-- no entry answered any more
abbrev pub ended : Station → ℕ → Run
ended s ending = record { answers = []; station = s; ending = ending }

-- an entry's answer, before those of the run that goes on
abbrev pub answered : Answer → Run → Run
answered a run = record { answers = a ∷ run.answers; station = run.station; ending = run.ending }

-- the run over entries from a station, with room bytes left for answers: 17 where the bytes end inside an entry, then 18 where no 8
-- bytes are left for its answer, else its answer and the run of the rest. There are at most `most` entries (that this never
-- cuts a run short is `run_enough` of theorem_every_trace)
unfoldable pub run_from : ℕ → Station → List ℕ → ℕ → Run
run_from zero s entries room = ended s 0
run_from (suc most) s [] room = ended s 0
run_from (suc most) s (kind ∷ rest) room =
    cond (ltb (length rest) (record_length kind)) (ended s 17)
    (cond (ltb room answer_length) (ended s 18)
    (answered (entry_of s kind (take (record_length kind) rest)).answer
    (run_from most (entry_of s kind (take (record_length kind) rest)).station (drop (record_length kind) rest) (room - answer_length))))

-- the run over entries: there are no more of them than bytes
abbrev pub run_of : Station → List ℕ → ℕ → Run
run_of s entries room = run_from (length entries) s entries room

-- what a replay of a trace comes to: the answers given, and the number that it ended with
pub record Replay : Type 0 where
  pub answers : List Answer
  pub ending : ℕ

-- what a run comes to
abbrev pub came : Run → Replay
came run = record { answers = run.answers; ending = run.ending }

-- the run over what follows a trace's header
unfoldable pub ran_of : Station → List ℕ → ℕ → Replay
ran_of s trace room = came (run_of s (drop (header_length trace) trace) room)

-- a refused header gives no answer; else the run over what follows it
unfoldable pub replay_on : TraceStart → List ℕ → ℕ → Replay
replay_on (Accepted s) trace room = ran_of s trace room
replay_on (Refused n) trace room = record { answers = []; ending = n }

-- the replay of a trace with room bytes for answers
unfoldable pub replay_of : List ℕ → ℕ → Replay
replay_of trace room = replay_on (start_of trace) trace room

-- what the call returns: entries answered × 256 + ending number
unfoldable pub number_of : Replay → ℕ
number_of r = length r.answers * 256 + r.ending

-- the bytes of answers, 8 each, the highest first
unfoldable pub written : List Answer → List ℕ
written [] = []
written (a ∷ rest) = bytes_of (answer_word a) ++ written rest

-- what the call leaves in the buffer: the answers, and past them what was there
unfoldable pub buffer_of : Replay → List ℕ → List ℕ
buffer_of r before = written r.answers ++ drop (8 * length r.answers) before

-- A whole replay: what the calls go over that need no room for answers.

-- room for every answer: no entry has fewer bytes than one
abbrev pub room_for : List ℕ → ℕ
room_for trace = answer_length * length trace

-- the replay of a trace with room for every answer. It ends with 0 or 17 where a station
-- starts (that it does not end with 18 is `every_summary` of theorem_heard)
unfoldable pub whole_replay : List ℕ → Replay
whole_replay trace = replay_of trace (room_for trace)

-- what a call returns that leaves `needed` bytes of a whole replay, and has room for `room`: a refused header's number, then 18 where
-- there is no room, both with no entry; else the entries × 256 + the ending number
unfoldable pub whole_number_on : TraceStart → List ℕ → ℕ → ℕ → ℕ
whole_number_on (Accepted s) trace needed room = cond (ltb room needed) 18 (number_of (whole_replay trace))
whole_number_on (Refused n) trace needed room = n

unfoldable pub whole_number : List ℕ → ℕ → ℕ → ℕ
whole_number trace needed room = whole_number_on (start_of trace) trace needed room
