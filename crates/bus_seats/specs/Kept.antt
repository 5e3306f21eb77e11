-- What the code keeps of a simulated bus, and what its turns do to it, in the code's own terms; `Turns` says what that is on the bus.
-- Assumes nothing.
use Rattle.std.specs.Prelude.{ℕ, zero, suc, ◌+◌, ◌*◌, ◌≤◌, ◌≡◌, List, Bool, true, false, cond, length, take, get_or, replicate, eqb, ltb}
use Rattle.codec_fields.specs.Fields.{stored_of}
use Rattle.codec_telegrams.specs.Words.{telegram_word}
use Rattle.codec_answers.specs.declared.Sent.{Sent}
use Rattle.codec_answers.specs.Answers.{sent_bytes, answer_word}
use Rattle.codec_decisions.specs.declared.Decision.TheVariants.{Decline}
use Rattle.codec_records_written.specs.Stored.{head_stored, decision_stored}
use Rattle.settings.specs.declared.parameters.Parameters.{Parameters}
use Rattle.station_poll.specs.Poll.{poll_of}
use Rattle.bus_wire.specs.declared.Waiting.{Waiting}
use Rattle.bus_wire.specs.declared.Wire.{Wire}
use Rattle.bus_wire.specs.Wire.{sent_telegram, bytes_time}
use Rattle.bus_wire.specs.Kept.{later_of, sent_on, arrives_at, joined_of, left_of}
use Rattle.bus_seats.specs.declared.Seat.{Seat}
use Rattle.bus_seats.specs.declared.Record.{Record}
use Rattle.bus_seats.specs.declared.Turn.{Turn}
use Rattle.bus_seats.specs.declared.Place.{Place}
use Rattle.bus_run.specs.Run.{head_at}

-- the telegrams that a record lists
unfoldable pub offered_of : Waiting → Wire → ℕ → ℕ → Waiting
offered_of w heard now place = cond (arrives_at heard now place) (joined_of w heard.word) w

-- the bytes of a record with so many telegrams, 8 at most
unfoldable pub record_length_of : ℕ → ℕ
record_length_of count = cond (ltb 8 count) 46 (14 + 4 * count)

-- a telegram's word; 0 past the eighth
unfoldable pub word_of : Waiting → ℕ → ℕ
word_of w j = cond (ltb j 8) (get_or w.words j 0) 0

-- s with the first k words written behind the head and the decisions
unfoldable pub words_stored : List ℕ → Waiting → ℕ → List ℕ
words_stored s w zero = s
words_stored s w (suc j) = stored_of (words_stored s w j) (14 + 4 * j) 4 (word_of w j)

-- s with a whole record written
unfoldable pub record_stored_of : List ℕ → ℕ → Bool → Waiting → List ℕ
record_stored_of s now transmitting w =
    words_stored (decision_stored (decision_stored (head_stored s (head_at now transmitting w.count)) 1 0 false Decline) 1 0 true Decline) w w.count

-- the record that is written
unfoldable pub record_kept : ℕ → Bool → Waiting → List ℕ
record_kept now transmitting w = record_stored_of (take (record_length_of w.count) (replicate 46 0)) now transmitting w

-- a record that is written
pub record RecordIs (now : ℕ) (transmitting : Bool) (w : Waiting) (r : Record) : Type 0 where
  pub bytes_are : take r.length r.bytes ≡ record_kept now transmitting w
  pub short : r.length ≤ 46
  pub full : length r.bytes ≡ 46

-- what a station's turn makes of its seat, and what it comes to
pub record TurnIs (before : Seat) (heard : Wire) (now place : ℕ) (after : Seat) (r : Turn) : Type 0 where
  pub bytes : take r.given.length r.given.bytes ≡ record_kept now (ltb now before.until) (offered_of before.waiting heard now place)
  pub short : r.given.length ≤ 46
  pub full : length r.given.bytes ≡ 46
  pub station_after :
      after.station ≡ (poll_of before.station (record_kept now (ltb now before.until) (offered_of before.waiting heard now place))).station
  pub answer : r.answer ≡ (poll_of before.station (record_kept now (ltb now before.until) (offered_of before.waiting heard now place))).answer
  pub waiting_after : after.waiting ≡ left_of (offered_of before.waiting heard now place) r.answer.consumed
  pub until_after_lem : after.until ≡ before.until

-- when a telegram that is sent now ends
abbrev pub end_of : ℕ → Sent → Parameters → ℕ
end_of now sent p = now + bytes_time (sent_bytes sent) p.baudrate

-- the bus after a station's turn, by what it sent; and when the last that it sent has ended
unfoldable pub wire_after : Wire → ℕ → ℕ → Sent → Parameters → Wire
wire_after w now place sent p =
    cond (eqb (sent_bytes sent) 0) w (sent_on w now (end_of now sent p) place (telegram_word (sent_telegram sent p.address)))

unfoldable pub until_after : ℕ → ℕ → Sent → Parameters → ℕ
until_after until now sent p = cond (eqb (sent_bytes sent) 0) until (later_of until (end_of now sent p))

-- a station's turn, with what it sends: the seat and the bus after it, and what it comes to
pub record PlaceIs (c : Seat) (heard wire : Wire) (now place : ℕ) (after : Seat) (left : Wire) (r : Place) : Type 0 where
  pub turned : Seat
  pub turn : Turn
  pub is : TurnIs c heard now place turned turn
  pub seat : after ≡ record turned { until = until_after turned.until now turn.answer.sent c.station.p }
  pub wire_after_lem : left ≡ wire_after wire now place turn.answer.sent c.station.p
  pub word : r.word ≡ answer_word turn.answer
  pub given : r.given ≡ turn.given
