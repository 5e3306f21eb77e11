-- Demand 1 in one statement: what the replay call returns and leaves for every trace and every buffer. Its proof is `every_trace` in
-- proofs/Theorem.antt. Bytes are numbers here, and any list of them is meant.
use Rattle.std.specs.Prelude.{ℕ, ◌+◌, ◌-◌, ◌*◌, ◌<◌, ◌≤◌, ◌≡◌, List, [], ◌∷◌, ◌++◌, ◌↔◌, ◌⊎◌, length, take, drop}
use Rattle.station.specs.declared.station.Station.{Station}
use Rattle.trace_headers.specs.Headers.{header_length}
use Rattle.trace.specs.Entries.{record_length, entry_of}
use Rattle.trace.specs.Trace.{Accepted, Refused, start_of, Run, ended, answered, replay_of, number_of, written, buffer_of}

-- an entry of a trace: its first byte, and the record that follows it
pub record Entry : Type 0 where
  pub kind : ℕ
  pub bytes : List ℕ

-- entries as a trace has them: each record is as long as its first byte says
abbrev pub Whole : List Entry → Type 0
Whole [] = Unit {0}
Whole (e ∷ es) = (length e.bytes ≡ record_length e.kind) × Whole es

-- their bytes, one entry after the other
abbrev pub laid : List Entry → List ℕ
laid [] = []
laid (e ∷ es) = e.kind ∷ (e.bytes ++ laid es)

-- what they come to, by the station's definitions: each entry is answered from the station that the one before it left
abbrev pub along : Station → List Entry → Run
along s [] = ended s 0
along s (e ∷ es) = answered (entry_of s e.kind e.bytes).answer (along (entry_of s e.kind e.bytes).station es)

-- The three ways in which a run stops, with `room` bytes left for answers: what bytes it leaves, and the number that it ends with.
-- The three exclude each other, so the number tells which it was (`ending_tells` in proofs/Theorem.antt).
pub data Stops (room : ℕ) : List ℕ → ℕ → Type 0 where
  -- no byte is left: 0
  empty : Stops room [] 0
  -- the bytes end inside an entry, fewer than its first byte says: 17
  cut : (kind : ℕ) (bytes : List ℕ) → length bytes < record_length kind → Stops room (kind ∷ bytes) 17
  -- a whole entry (and what may follow it), but no 8 bytes for its answer: 18
  full : (kind : ℕ) (bytes : List ℕ) → record_length kind ≤ length bytes → room < 8 → Stops room (kind ∷ bytes) 18

-- bytes that end inside an entry
abbrev pub Cut : List ℕ → Type 0
Cut [] = ⊥
Cut (kind ∷ bytes) = length bytes < record_length kind

-- bytes that begin with a whole entry
abbrev pub BeginsWhole : List ℕ → Type 0
BeginsWhole [] = ⊥
BeginsWhole (kind ∷ bytes) = record_length kind ≤ length bytes

-- a number that tells why a run stopped: 0 exactly where no byte is left, 17 exactly where the bytes end inside an entry, 18 exactly
-- where a whole entry is left and no room for its answer
pub record Tells (room : ℕ) (rest : List ℕ) (ending : ℕ) : Type 0 where
  pub none_left : (ending ≡ 0) ↔ (rest ≡ [])
  pub cut_short : (ending ≡ 17) ↔ Cut rest
  pub no_room : (ending ≡ 18) ↔ (BeginsWhole rest × (room < 8))

-- A trace whose header starts the station `fresh`, replayed into the buffer `before`: the call returned `returned` and left `left`.
pub record Answered (fresh : Station) (trace before : List ℕ) (returned : ℕ) (left : List ℕ) : Type 0 where
  -- the entries that are answered, and the bytes that are left
  pub entries : List Entry
  pub rest : List ℕ
  -- the trace's bytes are the header's, as many as its edition has, those of the entries, each of them whole, and the rest
  pub header : header_length trace ≤ length trace
  pub whole : Whole entries
  pub bytes : trace ≡ take (header_length trace) trace ++ (laid entries ++ rest)
  -- the entries' answers have room
  pub room : 8 * length entries ≤ length before
  -- the ending is 0, 17 or 18 as the rest says
  pub ending : ℕ
  pub stops : Stops (length before - 8 * length entries) rest ending
  -- the call returns the entries answered × 256 + the ending
  pub number : returned ≡ length entries * 256 + ending
  -- the buffer holds the answers, each by the station's definition from the station before it, and then its old bytes
  pub buffer : left ≡ written (along fresh entries).answers ++ drop (8 * length entries) before

-- a number that a trace may be refused with before its first entry: one of document 01's table, up to 17, or document 02's 25
abbrev pub HeaderNumber : ℕ → Type 0
HeaderNumber n = (n ≤ 17) ⊎ (n ≡ 25)

-- What the call does with any trace and any buffer: the header is refused with such a number, which is returned, and nothing is
-- written; or it starts a station, and the entries after it are answered.
pub data Replayed (trace before : List ℕ) (returned : ℕ) (left : List ℕ) : Type 0 where
  refused : start_of trace ≡ Refused returned → HeaderNumber returned → left ≡ before → Replayed trace before returned left
  ran : (fresh : Station) → start_of trace ≡ Accepted fresh → Answered fresh trace before returned left → Replayed trace before returned left

-- the theorem, over what the call's contract says that it returns and leaves
abbrev pub Theorem : Type 0
Theorem = (trace before : List ℕ) → Replayed trace before (number_of (replay_of trace (length before))) (buffer_of (replay_of trace (length before)) before)
