-- Silence (demand 3) over the bytes of a trace, as a statement. Its proof is `silence_in_trace` in SilentTraceProof.antt.
--
-- In words: Take a trace whose header is not refused. Let the entries so far leave a station that is online and in PassToken, at its
-- first attempt, with no gap question due, and let there be k others in its ring. Let silent polls follow: accepted records that
-- report no telegram, no pending byte and no transmission; and let the buffer have room for the answers. Then the answers to these
-- polls, read from the buffer, say this. Up to the first that says that the token is held, what was sent is three tokens to each
-- other station, in ring order, and one to the station itself, and nothing else. A station is taken out of the ring after its third
-- token, which shows in the next station that the answers name. If 3k + 1 of the polls are counted (they come at least one slot time
-- after known last bus activity), an answer says that the token is held.
--
-- What follows the silent polls in the trace changes nothing of this. The words `Quiet`, `counted_in`, `until`, `gap_due`, `tokens` are
-- those of theorem_silence; `others` are the other stations in a ring, in ring order.
use Rattle.std.specs.Prelude.{ℕ, zero, suc, ◌+◌, ◌-◌, ◌*◌, ◌/◌, ◌≤◌, Bool, true, false, Option, Some, None, cond, ◌≡◌, List, [], ◌∷◌, ◌++◌, length, drop, eqb}
use Rattle.ring.specs.Ring.{others, first_of, next_of, next_number}
use Rattle.codec_answers.specs.declared.Answer.{Answer}
use Rattle.codec_answers.specs.declared.Sent.{Sent}
use Rattle.codec_answers.specs.Answers.{unpack_of}
use Rattle.station.specs.declared.state.PassTokenAttempt.TheVariants.{First}
use Rattle.station.specs.declared.state.State.TheVariants.{PassToken}
use Rattle.station.specs.declared.station.Station.{Station}
use Rattle.trace_headers.specs.Headers.{header_length, header_of}
use Rattle.trace.specs.Trace.{Accepted, start_of, replay_of, buffer_of}
use Rattle.theorem_silence.specs.Silence.{Online, gap_due, AllQuiet, until, told, counted_in, tokens}
use Rattle.theorem_every_trace.specs.Statement.{Entry, Whole, laid, along}
use Rattle.theorem_from_header.specs.AnswersRead.{word_at}

-- What is read off the buffer.

-- n answers of a buffer, from place i on: each word unpacked
abbrev pub answers_from : List ℕ → ℕ → ℕ → List (Option Answer)
answers_from buffer i zero = []
answers_from buffer i (suc n) = unpack_of (word_at buffer i) ∷ answers_from buffer (suc i) n

-- what an answer says was sent, as a list: nothing, or one telegram of any kind
abbrev pub sent_by : Option Answer → List Sent
sent_by (Some answer) = told answer.sent
sent_by None = []

-- whether an answer says that the station holds the token: state 3, UseToken
abbrev pub says_held : Option Answer → Bool
says_held (Some answer) = eqb answer.state 3
says_held None = false

-- all that answers say was sent, in order, up to the first that says that the token is held
abbrev pub sent_by_answers : List (Option Answer) → List Sent
sent_by_answers [] = []
sent_by_answers (u ∷ later) = sent_by u ++ cond (says_held u) [] (sent_by_answers later)

-- whether one of them says that the token is held
abbrev pub held_by_answers : List (Option Answer) → Bool
held_by_answers [] = false
held_by_answers (u ∷ later) = cond (says_held u) true (held_by_answers later)

-- the next station that an answer names, by its number; `last` where there is no answer
abbrev pub next_by : ℕ → Option Answer → ℕ
next_by last (Some answer) = answer.next_station
next_by last None = last

-- the next station that the last of them names, up to the first that says that the token is held
abbrev pub next_by_answers : ℕ → List (Option Answer) → ℕ
next_by_answers last [] = last
next_by_answers last (u ∷ later) = cond (says_held u) (next_by last u) (next_by_answers (next_by last u) later)

-- What is assumed of the trace.

-- polls as entries: each record with its length before it
abbrev pub poll_entries : List (List ℕ) → List Entry
poll_entries [] = []
poll_entries (bytes ∷ later) = record { kind = length bytes; bytes = bytes } ∷ poll_entries later

-- a trace in which a station passes its token into silence, and a buffer for its answers
pub record SilentTrace (trace before : List ℕ) : Type 0 where
  -- its bytes: the header's, as many as its edition has, those of whole entries, those of polls with these records, and whatever follows
  pub header : List ℕ
  pub earlier : List Entry
  pub records : List (List ℕ)
  pub more : List ℕ
  pub whole_header : length header ≡ header_length trace
  pub whole : Whole earlier
  pub bytes : trace ≡ header ++ (laid earlier ++ (laid (poll_entries records) ++ more))
  -- the buffer has room for the answers to these entries and polls
  pub room : 8 * (length earlier + length records) ≤ length before
  -- the header is not refused: it starts the station `fresh`
  pub fresh : Station
  pub starts : start_of trace ≡ Accepted fresh
  -- the station that the entries leave is online, in PassToken at its first attempt, and no gap question is due
  pub not_offline : Online (along fresh earlier).station
  pub gap : Bool
  pub passing : (along fresh earlier).station.state ≡ PassToken gap First
  pub no_question : gap_due (along fresh earlier).station.p (along fresh earlier).station.core (along fresh earlier).station.token_ring gap ≡ false
  -- the records are accepted, for as many applications as the header says, and report nothing
  pub quiet : AllQuiet (header_of trace).applications records

-- the station that the entries before the silent polls leave
abbrev pub passing_station : {trace before : List ℕ} → SilentTrace trace before → Station
passing_station t = (along t.fresh t.earlier).station

-- the answers to the silent polls, read from a buffer
abbrev pub silent_answers : {trace before : List ℕ} → SilentTrace trace before → List ℕ → List (Option Answer)
silent_answers t left = answers_from left (length t.earlier) (length t.records)

-- What is claimed of the buffer that the call leaves: the four parts of theorem_silence's `Silence`, of the answers in it.
pub record SilenceRead {trace before : List ℕ} (t : SilentTrace trace before) (left : List ℕ) : Type 0 where
  -- what is not sent yet
  pub rest : List Sent
  -- what the answers say was sent, from the first on: three tokens to each other station, in ring order, and one to itself, whose
  -- address is the header's
  pub sends : sent_by_answers (silent_answers t left) ++ rest ≡ tokens (others (passing_station t).token_ring) (header_of trace).settings.address
  -- an answer says that the token is held exactly when all of them are sent
  pub all_sent : held_by_answers (silent_answers t left) ≡ true → rest ≡ []
  pub some_left : held_by_answers (silent_answers t left) ≡ false → rest ≡ [] → ⊥
  -- each station is taken out of the ring after its third token, when the next goes out
  pub removes :
      others (until (passing_station t) t.records).token_ring
      ≡ drop ((length (sent_by_answers (silent_answers t left)) - 1) / 3) (others (passing_station t).token_ring)
  -- the answers show it: the last of them names as next station the first that is not taken out, and nobody where all are
  pub names_next :
      next_by_answers (next_number (next_of (passing_station t).token_ring)) (silent_answers t left)
      ≡ next_number (first_of (drop ((length (sent_by_answers (silent_answers t left)) - 1) / 3) (others (passing_station t).token_ring)))
  -- with 3k + 1 counted polls the token is held
  pub bound : 3 * length (others (passing_station t).token_ring) + 1 ≤ counted_in (passing_station t) t.records → held_by_answers (silent_answers t left) ≡ true

-- the theorem, over what the call's contract says that it leaves
abbrev pub SilenceInTrace : Type 0
SilenceInTrace = (trace before : List ℕ) (t : SilentTrace trace before) → SilenceRead t (buffer_of (replay_of trace (length before)) before)
