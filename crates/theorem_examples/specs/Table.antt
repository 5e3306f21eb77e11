-- Document 01, "Proved examples": the rows of the table, what a row says, and the table.
use Rattle.std.specs.Prelude.{ℕ, zero, suc, ◌+◌, ◌*◌, ◌/◌, ◌%◌, ◌^◌, true, false, ◌≡◌, List, [], ◌∷◌, ◌++◌, map, length, Option, Some, None, Result, Ok, Err}
use Rattle.codec_fields.specs.Fields.{bytes_of}
use Rattle.bit_times.specs.declared.micros.Micros.{Micros}
use Rattle.bit_times.specs.declared.baud.Baud.TheVariants.{B500000}
use Rattle.refusals.specs.declared.refusal.Refusal.{Refusal}
use Rattle.refusals.specs.declared.refusal.Refusal.TheVariants.{WatchdogFactors}
use Rattle.bit_times.specs.declared.baud.Baud.{Baud}
use Rattle.bit_times.specs.Times.{time_of, baud_of}
use Rattle.settings_watchdog.specs.Watchdog.{factors_of}
use Rattle.settings.specs.declared.parameters.Parameters.{Parameters}
use Rattle.settings.specs.Settings.{slot_time_of, token_lost_of}
use Rattle.ring.specs.declared.GapState.{GapState}
use Rattle.ring.specs.declared.GapState.TheVariants.{Waiting, DoPoll}
use Rattle.ring_links.specs.Links.{links_of}
use Rattle.ring.specs.Ring.{fresh_of, gap_of}
use Rattle.ring.specs.Worked.{among}
use Rattle.codec_answers.specs.declared.Answer.{Answer}
use Rattle.codec_answers.specs.declared.Sent.{Sent}
use Rattle.codec_answers.specs.declared.Sent.TheVariants as sent
use Rattle.codec_answers.specs.Answers.{answer_word}
use Rattle.station.specs.declared.state.ConnectivityState.TheVariants as connectivity
use Rattle.station.specs.declared.state.PassTokenAttempt.TheVariants.{First}
use Rattle.station.specs.declared.state.State.TheVariants.{Offline, ListenToken, PassToken}
use Rattle.station.specs.declared.parts.Counts.{Counts}
use Rattle.station.specs.declared.station.Station.{Station}
use Rattle.station.specs.Parts.{with_gap, zero_time}
use Rattle.station_answer.specs.Answer.{Polled}
use Rattle.station_poll.specs.Poll.{poll_of}
use Rattle.trace.specs.Entries.{entry_of}
use Rattle.trace.specs.Trace.{TraceStart, Accepted, Refused, start_of, replay_of}

-- A trace, by its header and its entries: each entry's first byte, and its record.
pub record TraceParts : Type 0 where
  pub header : List ℕ
  pub entries : List (ℕ × List ℕ)

-- its bytes
abbrev pub entry_bytes : List (ℕ × List ℕ) → List ℕ
entry_bytes [] = []
entry_bytes ((kind, bytes) ∷ more) = kind ∷ bytes ++ entry_bytes more

abbrev pub trace_bytes : TraceParts → List ℕ
trace_bytes trace = trace.header ++ entry_bytes trace.entries

-- the station that it leaves, entry by entry; none where its header is refused
abbrev pub after_entries : Station → List (ℕ × List ℕ) → Station
after_entries s [] = s
after_entries s ((kind, bytes) ∷ more) = after_entries (entry_of s kind bytes).station more

abbrev pub left_on : TraceStart → List (ℕ × List ℕ) → TraceStart
left_on (Accepted s) entries = Accepted (after_entries s entries)
left_on (Refused n) entries = Refused n

abbrev pub left_by : TraceParts → TraceStart
left_by trace = left_on (start_of (trace_bytes trace)) trace.entries

-- A row, in the order of document 01.
pub data Row : Type 0 where
  -- (1..6) a watchdog time in milliseconds, and its factors or refusal
  factors : ℕ → Result (Option (ℕ × ℕ)) Refusal → Row
  -- (7, as document 02, P3, has it) bits at a baud code, and their microseconds
  time : ℕ → ℕ → ℕ → Row
  -- (the sentence before the list) the slot time and the time after which the token counts as lost, in microseconds
  slot : ℕ → Row
  lost : ℕ → Row
  -- (8) a station alone, HSA 126, walks from an address: what is polled, or that it waits; and the same in a poll: the gap state
  -- before it that walks from there, and what is sent
  walk : ℕ → GapState → GapState → Sent → Row
  -- (9) a trace and the station that it leaves, which is alone and passes the token, from a time on; what each pass sends, and the
  -- gap state after it
  passes : TraceParts → Station → ℕ → List (Sent × GapState) → Row
  -- (10) a trace and the station that it leaves, then polls in silence at these times; what each sends
  silence : TraceParts → Station → List ℕ → List Sent → Row
  -- (11) a trace and the station that it leaves, then a poll; the whole station after it
  collision : TraceParts → Station → List ℕ → Station → Row
  -- (12, as document 02, P5, has it) a trace, and what the replay program prints: the answers, how many there are, and the ending number
  replay : TraceParts → List ℕ → ℕ → ℕ → Row

-- the settings of document 01's examples: address 5, code 6, slot 200, with the header's other fields as in example 12
abbrev pub example : ℕ → Parameters
example wait =
    record { token_rotation_bits = 0x7eb4; slot_bits = 200; address = 5; baudrate = B500000; gap_wait_rotations = wait; highest_station_address = 126; max_retry_limit = 1; min_tsdr_bits = 11; watchdog_factors = None }

-- their header, with this gap wait and number of applications
abbrev pub headed : ℕ → ℕ → List ℕ
headed wait applications = 0x05 ∷ 0x06 ∷ 0x00 ∷ 0xc8 ∷ 0x00 ∷ 0x00 ∷ 0x7e ∷ 0xb4 ∷ wait ∷ 0x7e ∷ 0x01 ∷ 0x0b ∷ applications ∷ 0x00 ∷ 0x00 ∷ 0x00 ∷ []

-- entries: the command online, and a poll of a record
abbrev pub online_entry : ℕ × List ℕ
online_entry = (0, [])

abbrev pub poll_entry : List ℕ → ℕ × List ℕ
poll_entry bytes = (length bytes, bytes)

-- one list after the other
abbrev pub joined : List (List ℕ) → List ℕ
joined [] = []
joined (t ∷ ts) = t ++ joined ts

-- a poll record: the clock, the pending bytes, decisions of 3 bytes each, telegrams of 4
abbrev pub record_bytes : ℕ → ℕ → List (List ℕ) → List (List ℕ) → List ℕ
record_bytes clock pending decisions telegrams = bytes_of (clock * 2 ^ 16 + length telegrams * 2 ^ 11 + pending) ++ joined decisions ++ joined telegrams

-- a decision that declines, and one that sends 9 bytes and expects a reply from 20
abbrev pub declines : List ℕ
declines = 0 ∷ 0 ∷ 0 ∷ []

abbrev pub expects_reply : List ℕ
expects_reply = 0xca ∷ 0x04 ∷ 0x80 ∷ []

-- a token from source to destination
abbrev pub token : ℕ → ℕ → List ℕ
token source destination = destination / 2 ∷ ((destination % 2) * 128 + source) ∷ 0 ∷ 0 ∷ []

-- a poll record for one application that declines: the clock, telegrams, and all else zero
abbrev pub poll_record : ℕ → List (List ℕ) → List ℕ
poll_record clock telegrams = record_bytes clock 0 (declines ∷ declines ∷ []) telegrams

-- the same for two applications
abbrev pub two_record : ℕ → List (List ℕ) → List ℕ
two_record clock telegrams = record_bytes clock 0 (declines ∷ declines ∷ declines ∷ declines ∷ []) telegrams

-- A station alone passes the token n times, from a time on: each pass is a poll, and in the poll 200 µs later the token, which has
-- come back, is used: the application declines.
abbrev pub passes_of : ℕ → ℕ → Station → List (Sent × GapState)
passes_of zero clock s = []
passes_of (suc n) clock s =
    let pass = poll_of s (poll_record clock []) in
    (pass.answer.sent, pass.station.core.gap_state) ∷ passes_of n (clock + 400) (poll_of pass.station (poll_record (clock + 200) [])).station

-- what each of several silent polls sends
abbrev pub sent_along : Station → List ℕ → List Sent
sent_along s [] = []
sent_along s (clock ∷ clocks) = let polled = poll_of s (poll_record clock []) in polled.answer.sent ∷ sent_along polled.station clocks

-- the time of bits at a rate; none at an unknown one
abbrev pub time_at : ℕ → Result Baud Refusal → Micros
time_at bits (Ok baud) = time_of (record { 0 = bits }) baud
time_at bits (Err refusal) = record { 0 = 0 }

-- example 12's trace: the header, online, and five polls
abbrev pub example12 : TraceParts
example12 =
    record { header = headed 10 1; entries = online_entry ∷ poll_entry (poll_record 1000 []) ∷ poll_entry (poll_record 7399 []) ∷ poll_entry (poll_record 7400 []) ∷ poll_entry (poll_record 7532 []) ∷ poll_entry (poll_record 7598 []) ∷ [] }

-- Example 9's trace: example 12's and one poll more, in which the application declines, so that a token pass starts. The station
-- is alone, gap wait 10, count 0.
abbrev pub example9 : TraceParts
example9 = record { header = example12.header; entries = example12.entries ++ (poll_entry (poll_record 7664 []) ∷ []) }

-- what a station has counted: claims, removals, meetings
abbrev pub counts_of : ℕ → ℕ → ℕ → Counts
counts_of claimed removed met = record { claims = claimed; removals = removed; meetings = met }

abbrev pub alone_station : Station
alone_station =
    record {
      state = PassToken true First;
      core = record { last_token_time = record { 0 = 7532 }; end_token_hold_time = record { 0 = 64872 }; last_bus_activity = Some (record { 0 = 7598 }); gap_state = Waiting 0; pending_bytes = 0; next_application = 0; connectivity_state = connectivity.Online };
      token_ring = record { links = links_of (among (5 ∷ [])); own = 5; laps = 0; ready = true };
      p = example 10;
      counts = counts_of 1 0 0;
      applications = 1;
    }

-- it with another gap state (for example 8; a walk begins at our own address when the count has come to 11)
abbrev pub with_gap_state : Station → GapState → Station
with_gap_state s x = record { state = s.state; core = with_gap s.core x; token_ring = s.token_ring; p = s.p; counts = s.counts; applications = s.applications }

-- Example 10's trace: a token from 9 to us is heard, then nothing; the token is claimed, sent twice and used. The station has the
-- neighbour 9 and starts a token pass.
abbrev pub example10 : TraceParts
example10 =
    record { header = headed 10 1; entries = online_entry ∷ poll_entry (poll_record 1000 []) ∷ poll_entry (poll_record 1100 (token 9 5 ∷ [])) ∷ poll_entry (poll_record 7500 []) ∷ poll_entry (poll_record 7700 []) ∷ poll_entry (poll_record 7900 []) ∷ [] }

abbrev pub neighbour_station : Station
neighbour_station =
    record {
      state = PassToken true First;
      core = record { last_token_time = record { 0 = 7700 }; end_token_hold_time = record { 0 = 64872 }; last_bus_activity = Some (record { 0 = 7766 }); gap_state = Waiting 0; pending_bytes = 0; next_application = 0; connectivity_state = connectivity.Online };
      token_ring = record { links = links_of (among (5 ∷ 9 ∷ [])); own = 5; laps = 1; ready = true };
      p = example 10;
      counts = counts_of 1 0 0;
      applications = 1;
    }

-- Example 11's trace, of a station with two applications and gap wait 1. It claims the token, sends it twice, passes it twice to
-- itself and asks 6 in the third pass (8800). Nobody answers, so the token comes back to it (9400); the second application sends and
-- expects a reply (9600). A token comes instead, so it stands back (9900). It sees the token go round twice between 9 and 12, and then
-- two tokens with its own address, so it listens (10000). A third one is the first collision there (10100). Then 7 bytes are pending.
abbrev pub example11 : TraceParts
example11 =
    record {
      header = headed 1 2;
      entries =
          online_entry ∷ poll_entry (two_record 1000 []) ∷ poll_entry (two_record 7400 []) ∷ poll_entry (two_record 7600 []) ∷ poll_entry (two_record 7800 []) ∷ poll_entry (two_record 8000 []) ∷ poll_entry (two_record 8200 [])
          ∷ poll_entry (two_record 8400 []) ∷ poll_entry (two_record 8600 []) ∷ poll_entry (two_record 8800 []) ∷ poll_entry (two_record 9400 [])
          ∷ poll_entry (record_bytes 9600 0 (declines ∷ declines ∷ expects_reply ∷ declines ∷ []) [])
          ∷ poll_entry (two_record 9900 (token 9 12 ∷ []))
          ∷ poll_entry (two_record 10000 (token 9 12 ∷ token 12 9 ∷ token 9 12 ∷ token 12 9 ∷ token 5 3 ∷ token 5 3 ∷ []))
          ∷ poll_entry (two_record 10100 (token 5 3 ∷ []))
          ∷ poll_entry (record_bytes 10200 7 (declines ∷ declines ∷ declines ∷ declines ∷ []) [])
          ∷ [];
    }

-- the station of example 11 before the poll: in ListenToken after one collision, and in nothing as a fresh one. It has claimed once and
-- met its own address three times
abbrev pub collided_once : Station
collided_once =
    record {
      state = ListenToken None 1;
      core = record { last_token_time = record { 0 = 9400 }; end_token_hold_time = record { 0 = 72672 }; last_bus_activity = Some (record { 0 = 10200 }); gap_state = DoPoll 6; pending_bytes = 7; next_application = 1; connectivity_state = connectivity.Online };
      token_ring = record { links = links_of (among (5 ∷ 9 ∷ 12 ∷ [])); own = 5; laps = 2; ready = true };
      p = example 1;
      counts = counts_of 1 0 3;
      applications = 2;
    }

-- and after it: a fresh station, as document 01 has it, but for this activity and for what was counted (document 02, P6): one collision
-- more. The telegram behind it is not counted
abbrev pub fresh_but : Option Micros → Station
fresh_but last =
    record {
      state = Offline;
      core = record { last_token_time = zero_time; end_token_hold_time = zero_time; last_bus_activity = last; gap_state = Waiting 0; pending_bytes = 0; next_application = 0; connectivity_state = connectivity.Offline };
      token_ring = record { links = links_of (among (5 ∷ [])); own = 5; laps = 0; ready = false };
      p = example 1;
      counts = counts_of 1 0 4;
      applications = 2;
    }

-- what a row says; 32,768 bytes are the replay program's buffer
abbrev pub Holds : Row → Type 0
Holds (factors ms expected) = factors_of ms ≡ expected
Holds (time bits code micros) = time_at bits (baud_of code) ≡ record { 0 = micros }
Holds (slot micros) = slot_time_of (example 10) ≡ record { 0 = micros }
Holds (lost micros) = token_lost_of (example 10) ≡ record { 0 = micros }
Holds (walk from before expected sends) = (gap_of (fresh_of 5) from 126 ≡ expected) × (passes_of 1 7800 (with_gap_state alone_station before) ≡ (sends, expected) ∷ [])
Holds (passes trace left clock expected) = (left_by trace ≡ Accepted left) × (passes_of (length expected) clock left ≡ expected)
Holds (silence trace left clocks expected) = (left_by trace ≡ Accepted left) × (sent_along left clocks ≡ expected)
Holds (collision trace left bytes expected) = (left_by trace ≡ Accepted left) × ((poll_of left bytes).station ≡ expected)
Holds (replay trace lines entries ending) = let replayed = replay_of (trace_bytes trace) 32768 in (map answer_word replayed.answers ≡ lines) × (length replayed.answers ≡ entries) × (replayed.ending ≡ ending)

-- all rows of a table hold
abbrev pub AllHold : List Row → Type 0
AllHold [] = Unit {0}
AllHold (row ∷ rows) = Holds row × AllHold rows

-- the table: the times of the sentence before the list (1 bit is 2 µs, slot 400, pause 66, lost 6,400), then examples 1 to 12,
-- 7 as document 02, P3, has it
abbrev pub table : List Row
table =
    time 1 6 2
    ∷ slot 400
    ∷ time 33 6 66
    ∷ lost 6400
    ∷ factors 9 (Ok (Some (1, 0)))
    ∷ factors 2550 (Ok (Some (1, 255)))
    ∷ factors 2560 (Ok (Some (2, 128)))
    ∷ factors 10000 (Ok (Some (4, 250)))
    ∷ factors 650250 (Ok (Some (255, 255)))
    ∷ factors 650260 (Err WatchdogFactors)
    ∷ time 33 10 3
    ∷ walk 5 (Waiting 11) (DoPoll 6) (sent.StatusRequest 6)
    ∷ walk 125 (DoPoll 125) (DoPoll 0) (sent.StatusRequest 0)
    ∷ walk 4 (DoPoll 4) (Waiting 0) (sent.Token 5)
    ∷ passes example9 alone_station 7800
    ((sent.Token 5, Waiting 1) ∷ (sent.Token 5, Waiting 2) ∷ (sent.Token 5, Waiting 3) ∷ (sent.Token 5, Waiting 4) ∷ (sent.Token 5, Waiting 5)
    ∷ (sent.Token 5, Waiting 6) ∷ (sent.Token 5, Waiting 7) ∷ (sent.Token 5, Waiting 8) ∷ (sent.Token 5, Waiting 9) ∷ (sent.Token 5, Waiting 10)
    ∷ (sent.Token 5, Waiting 11) ∷ (sent.StatusRequest 6, DoPoll 6) ∷ [])
    ∷ silence example10 neighbour_station (8000 ∷ 8466 ∷ 8932 ∷ 9398 ∷ []) (sent.Token 9 ∷ sent.Token 9 ∷ sent.Token 9 ∷ sent.Token 5 ∷ [])
    ∷ collision example11 collided_once (two_record 10300 (token 5 3 ∷ [])) (fresh_but None)
    ∷ collision example11 collided_once (two_record 10300 (token 5 3 ∷ token 9 3 ∷ [])) (fresh_but (Some (record { 0 = 10300 })))
    ∷ replay example12 (0x00000000000001fc ∷ 0x03100000000001fc ∷ 0x03100000000001fc ∷ 0x02421400300001fc ∷ 0x02321400300001fc ∷ 0x02300000000001fc ∷ []) 6 0
    ∷ []
