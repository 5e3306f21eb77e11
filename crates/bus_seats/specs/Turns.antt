-- A station's turn in the code is its turn on the bus: the record that is written is the one that it is given, and so its answer and what
-- it leaves. Assumes nothing.
use Prim.Native.Nat.{ℕ, zero, suc, ◌+◌, ◌-◌, ◌*◌, ◌<◌, ◌≤◌}
use Rattle.std.specs.Prelude.{◌≡◌, Bool, replicate, ltb}
use Rattle.std.proofs.Math.Path.{refl, sym, ap}
use Rattle.std.proofs.Common.{◌∙◌, subst, arith, add-one, lt-ltb, le-ltb, take_at, get_or-take}
use mathlib.Core.List.{List, [], ◌∷◌, ◌++◌, append-nil}
use Rattle.std.proofs.Math.Bool.{true, false}
use borrow.Table.Steps.{cases}
use borrow.Rule.Slice.PartMut.{mid_of, post_of, put_mid, same_len_mid}
use Rattle.std.proofs.Math.ListN.{length, take, get_or, get_or-map}
use Rattle.std.proofs.lemmas.List.{length-replicate}
use Rattle.std.proofs.Math.Seq.{length-take-le}
use Rattle.bit_times.specs.declared.baud.Baud.{Baud}
use Rattle.bit_times.proofs.Laws.{time_bound}
use Rattle.codec_fields.specs.Fields.{stored_of}
use Rattle.codec_telegrams.specs.Words.{telegram_word}
use Rattle.codec_telegrams.specs.declared.Telegram.{Telegram}
use Rattle.codec_telegrams.specs.declared.Telegram.TheVariants.{ShortConfirmation}
use Rattle.codec_decisions.specs.declared.Decision.TheVariants.{Decline}
use Rattle.codec_records.specs.declared.Head.{Head}
use Rattle.codec_records_written.specs.Stored.{head_stored, decision_stored, telegram_stored}
use Rattle.codec_records_written.specs.Whole.{record_bytes, decisions_stored, telegrams_stored, record_stored}
use Rattle.codec_records_written.proofs.Written.{round_trip}
use Rattle.station.specs.declared.station.Station.{Station}
use Rattle.station_answer.specs.Answer.{Polled}
use Rattle.station_poll.specs.Poll.{poll_of}
use Rattle.bus_wire.specs.declared.Waiting.{Waiting}
use Rattle.bus_wire.specs.declared.Wire.{Wire}
use Rattle.bus_wire.specs.Wire.{bytes_time, heard_at, transmitting_at, newest}
use Rattle.bus_wire.specs.Kept.{listed, arrives_at, left_of}
use Rattle.bus_wire.specs.Waits.{Waits}
use Rattle.bus_wire.proofs.Waits.{waits_count, waits_few, waits_joined, waits_left}
use Rattle.bus_wire.specs.Arrives.{OnWire, Arrival, own_latest}
use Rattle.bus_wire.proofs.ArrivesLaws.{arrival, transmitting_is}
use Rattle.bus_seats.specs.declared.Seat.{Seat as SeatKept}
use Rattle.codec_answers.specs.declared.Answer.{Answer}
use Rattle.bus_seats.specs.declared.Record.{Record}
use Rattle.bus_seats.specs.declared.Turn.{Turn}
use Rattle.bus_run.specs.Run.{Seat, Bus, given, head_at, declines, telegram_in, record_of, record_for, polled_for, answer_for, seat_after}
use Rattle.bus_seats.specs.Kept.{offered_of, record_length_of, word_of, words_stored, record_stored_of, record_kept, RecordIs, TurnIs}

-- The words are written one by one.

pub words_none : (s : List ℕ) (w : Waiting) → s ≡ words_stored s w 0
unfolding words_stored
words_none s w = refl

pub words_more :
    (s before after : List ℕ) (w : Waiting) (j place word : ℕ)
    → before ≡ words_stored s w j
    → place ≡ 14 + 4 * j
    → word ≡ word_of w j
    → after ≡ stored_of before place 4 word
    → after ≡ words_stored s w (j + 1)
unfolding words_stored
words_more s before after w j place word p q r e = rw (add-one j, ← p, ← q, ← r, e)

-- an element that is there, whatever stands for one that is not
get_d_any : (l : List ℕ) (j d e : ℕ) → j < length l → get_or l j d ≡ get_or l j e
get_d_any [] j d e h = absurd (omega arith)
get_d_any (a ∷ l) zero d e h = refl
get_d_any (a ∷ l) (suc j) d e h = get_d_any l j d e (omega arith)

-- the calls in their order are those of a whole record for one application
stores :
    (h : Head) (s : List ℕ) (telegrams : List Telegram)
    → telegrams_stored (decision_stored (decision_stored (head_stored s h) 1 0 false Decline) 1 0 true Decline) 1 (telegram_in telegrams) h.telegrams
    ≡ record_stored s h 1 declines (telegram_in telegrams)
unfolding record_stored decisions_stored
stores h s telegrams = refl

-- the bytes of a record that is still to be written
blank_length : (count : ℕ) → count ≤ 8 → length {A = ℕ} (take (record_length_of count) (replicate 46 0)) ≡ 8 + 6 * 1 + 4 * count
unfolding record_length_of
blank_length count h = rw (le-ltb 8 count h) (length-take-le (14 + 4 * count) (replicate 46 0) (rw (length-replicate {A = ℕ} 46 0) (omega arith)))

module _ {w : Waiting} {telegrams : List Telegram} (g : Waits w telegrams) where
  -- a word that is kept is its telegram's
  word_is : (j : ℕ) → j < length telegrams → word_of w j ≡ telegram_word (telegram_in telegrams j)
  unfolding word_of
  word_is j h =
      let count = waits_count g in
      let few = g.fit.few in
      let long = g.fit.long in
      let many : length (listed w) ≡ w.count = length-take-le w.count w.words (omega arith) in
      let at : get_or w.words j 0 ≡ get_or (listed w) j 0 = sym (get_or-take w.count w.words j 0 (omega arith)) in
      let any : get_or (listed w) j 0 ≡ get_or (listed w) j (telegram_word ShortConfirmation) = get_d_any (listed w) j 0 (telegram_word ShortConfirmation) (omega arith) in
      rw (lt-ltb j 8 (omega arith))
      (at ∙ any ∙ ap (λ (l : List ℕ). get_or l j (telegram_word ShortConfirmation)) g.words ∙ get_or-map telegram_word telegrams j ShortConfirmation)

  words_are : (s : List ℕ) (k : ℕ) → k ≤ length telegrams → words_stored s w k ≡ telegrams_stored s 1 (telegram_in telegrams) k
  unfolding words_stored telegrams_stored telegram_stored
  words_are s zero h = refl
  words_are s (suc j) h = rw (words_are s j (omega arith), word_is j (omega arith))

  -- the record that is written for them
  record_is : (now : ℕ) (transmitting : Bool) → record_kept now transmitting w ≡ record_of now transmitting telegrams
  unfolding record_kept record_stored_of record_of
  record_is now transmitting =
      let count = waits_count g in
      let few = waits_few g in
      ap (λ (n : ℕ). words_stored (decision_stored (decision_stored (head_stored (take (record_length_of n) (replicate 46 0)) (head_at now transmitting n)) 1 0 false Decline) 1 0 true Decline) w n) count
      ∙ words_are (decision_stored (decision_stored (head_stored blank (head_at now transmitting (length telegrams))) 1 0 false Decline) 1 0 true Decline) (length telegrams) (omega arith)
      ∙ stored_is
    where
      blank : List ℕ
      blank = take (record_length_of (length telegrams)) (replicate 46 0)

      stored_is : telegrams_stored (decision_stored (decision_stored (head_stored blank (head_at now transmitting (length telegrams))) 1 0 false Decline) 1 0 true Decline) 1 (telegram_in telegrams) (length telegrams) ≡ record_bytes (head_at now transmitting (length telegrams)) 1 declines (telegram_in telegrams)
      stored_is = stores (head_at now transmitting (length telegrams)) blank telegrams ∙ round_trip.written blank (head_at now transmitting (length telegrams)) 1 declines (telegram_in telegrams) (blank_length (length telegrams) (waits_few g))

-- what is offered is what waits and what arrives
offered_waits :
    (w : Waiting) (waiting heard : List Telegram) (wire : Wire) (now place : ℕ)
    → Waits w waiting
    → Arrival wire now place heard
    → Waits (offered_of w wire now place) (newest (waiting ++ heard))
unfolding offered_of
offered_waits w waiting heard wire now place g a =
    cases (arrives_at wire now place)
    (λ e.
    let x = a.one e in
    rw (e, x.2) (waits_joined g wire.word x.0 x.1))
    (λ e.
    let few = waits_few g in
    let none : length waiting - 8 ≡ 0 = omega arith in
    rw (e, a.none e, append-nil waiting, none) g)

-- a seat of the code holds a seat of the bus; until is when the last that its station sent has ended
pub record SeatIs (s : Seat) (until : ℕ) (c : SeatKept) : Type 0 where
  pub station : c.station ≡ s.station
  pub waits : Waits c.waiting s.waiting
  pub until_is : c.until ≡ until

module _ (tick now place : ℕ) (b : Bus) (heard : Wire) (c left : SeatKept) (r : Turn)
    (w : OnWire b.sent tick now heard)
    (g : SeatIs (b.seats place) (own_latest b.sent place) c)
    (turn : TurnIs c heard now place left r) where
  offers : Waits (offered_of c.waiting heard now place) (given tick b now place)
  offers = offered_waits c.waiting (b.seats place).waiting (heard_at b.sent tick now place) heard now place g.waits (arrival b.sent tick now place heard w)

  -- the record that is written is the one that the station is given
  kept_record : record_kept now (ltb now c.until) (offered_of c.waiting heard now place) ≡ record_for tick b now place
  unfolding record_for
  kept_record =
      rw (g.until_is, ← transmitting_is now place b.sent) (record_is offers now (transmitting_at b.sent now place))

  pub turn_record : take r.given.length r.given.bytes ≡ record_for tick b now place
  turn_record = turn.bytes ∙ kept_record

  kept_poll : poll_of c.station (record_kept now (ltb now c.until) (offered_of c.waiting heard now place)) ≡ polled_for tick b now place
  unfolding polled_for
  kept_poll = rw (kept_record, g.station)

  -- its answer
  pub turn_answer : r.answer ≡ answer_for tick b now place
  turn_answer = turn.answer ∙ ap (λ (p : Polled). p.answer) kept_poll

  -- and the seat that it leaves
  pub turn_seat : SeatIs (seat_after tick b now place) (own_latest b.sent place) left
  unfolding seat_after
  turn_seat =
      record {
        station = turn.station_after ∙ ap (λ (p : Polled). p.station) kept_poll;
        waits = rw (turn.waiting_after, turn_answer) (waits_left offers (answer_for tick b now place).consumed);
        until_is = turn.until_after_lem ∙ g.until_is;
      }

-- A record that is written into the front of an array.
pub part_kept : (n : ℕ) (l part : List ℕ) → n ≤ length l → length part ≡ length (mid_of 0 (n - 0) l) → take n (put_mid 0 (n - 0) l part) ≡ part
part_kept n l part h e =
    let same : n - 0 ≡ n = omega arith in
    let long : length part ≡ n = e ∙ ap (λ (m : ℕ). length (take m l)) same ∙ length-take-le n l h in
    take_at part (post_of 0 (n - 0) l) n long

pub record_made :
    (now : ℕ) (transmitting : Bool) (w : Waiting) (n : ℕ) (part : List ℕ)
    → (n ≡ record_length_of w.count) × (n ≤ 46)
    → part ≡ record_stored_of (mid_of 0 (n - 0) (replicate 46 0)) now transmitting w
    → length part ≡ length (mid_of 0 (n - 0) (replicate {A = ℕ} 46 0))
    → RecordIs now transmitting w (record { bytes = put_mid 0 (n - 0) (replicate 46 0) part; length = n })
unfolding record_kept
record_made now transmitting w n part l e f =
    let same : n - 0 ≡ n = omega arith in
    record {
      bytes_are = part_kept n (replicate 46 0) part l.1 f ∙ e ∙ ap (λ (m : ℕ). record_stored_of (take m (replicate 46 0)) now transmitting w) (same ∙ l.0);
      short = l.1;
      full = same_len_mid 0 (n - 0) (replicate 46 0) part f;
    }

-- the front of an array
pub poll_part : (s : Station) (n : ℕ) (l : List ℕ) (p : Polled) → p ≡ poll_of s (take (n - 0) l) → p ≡ poll_of s (take n l)
poll_part s n l p e = let same : n - 0 ≡ n = omega arith in e ∙ ap (λ (m : ℕ). poll_of s (take m l)) same

-- A turn, from what its calls ensure.
pub turn_taken :
    (before : SeatKept) (offered left : Waiting) (now place : ℕ) (heard : Wire) (given : Record) (s : Station) (answer : Answer)
    → offered ≡ offered_of before.waiting heard now place
    → RecordIs now (ltb now before.until) offered given
    → record { station = s; answer = answer } ≡ poll_of before.station (take given.length given.bytes)
    → left ≡ left_of offered answer.consumed
    → TurnIs before heard now place (record { station = s; waiting = left; until = before.until }) (record { answer = answer; given = given })
turn_taken before offered left now place heard given s answer e m p l =
    let kept : take given.length given.bytes ≡ record_kept now (ltb now before.until) (offered_of before.waiting heard now place) = m.bytes_are ∙ ap (λ (w : Waiting). record_kept now (ltb now before.until) w) e in
    let same = p ∙ ap (λ (l : List ℕ). poll_of before.station l) kept in
    record {
      bytes = kept;
      short = m.short;
      full = m.full;
      station_after = ap (λ (x : Polled). x.station) same;
      answer = ap (λ (x : Polled). x.answer) same;
      waiting_after = l ∙ ap (λ (w : Waiting). left_of w answer.consumed) e;
      until_after_lem = refl;
    }

-- what is sent does not take long
pub bytes_bound : (bytes : ℕ) (baud : Baud) → bytes_time bytes baud ≤ 11 * bytes * 105
unfolding bytes_time
bytes_bound bytes baud = time_bound (record { 0 = 11 * bytes }) baud
