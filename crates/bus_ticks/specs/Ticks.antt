-- A tick of the code is a tick of the bus: where the loop over its stations stands, and what it leaves. Assumes nothing.
use Prim.Native.Nat.{ℕ, zero, suc, ◌+◌, ◌*◌, ◌<◌, ◌≤◌}
use Rattle.std.specs.Prelude.{◌≡◌, List, ◌∷◌, cond, ◌⊎◌, length, take, get_or, set}
use Rattle.std.proofs.Math.Path.{refl, subst}
use Rattle.std.proofs.Common.{sym, ap, ◌∙◌, inl, inr, ⊎_elim, add-one, eq-or-lt_of_le, length-set, get_or-set_same, get_or-set_other}
use Rattle.std.proofs.Math.Bool.{true, false}
use native.Mathlib.Omega.{arith}
use borrow.Author.Tests.{eq-eqb, ne_eqb, lt-ltb, le-ltb, eqb-true, eqb-false}
use borrow.Table.Steps.{cases}
use Rattle.std.proofs.Math.Dec.{eqb}
use Rattle.bit_times.specs.declared.baud.Baud.{Baud}
use Rattle.bit_times.proofs.Laws.{time_some}
use Rattle.codec_telegrams.specs.Words.{telegram_word}
use Rattle.codec_answers.specs.declared.Answer.{Answer}
use Rattle.codec_answers.specs.Answers.{sent_bytes, answer_word}
use Rattle.station.specs.declared.station.Station.{Station}
use Rattle.bus_wire.specs.declared.Wire.{Wire}
use Rattle.bus_wire.specs.Wire.{Transmission, bytes_time, sent_telegram}
use Rattle.bus_wire.specs.Kept.{later_of, sent_on, cleared_at}
use Rattle.bus_wire.specs.Arrives.{OnWire, Before, own_latest}
use Rattle.bus_wire.proofs.ArrivesLaws.{all_map, wire_cleared, wire_sent}
use Rattle.bus_seats.specs.declared.Seat.{Seat as SeatKept}
use Rattle.bus_seats.specs.declared.Record.{Record}
use Rattle.bus_seats.specs.declared.Place.{Place}
use Rattle.bus_ticks.specs.declared.Bus.{Bus as BusKept}
use Rattle.bus_ticks.specs.declared.Ticked.{Ticked}
use Rattle.bus_run.specs.Run.{Bus, record_for, answer_for, bytes_for, seat_after, transmission_for, sent_after, bus_after}
use Rattle.bus_seats.specs.Kept.{end_of, wire_after, until_after, PlaceIs}
use Rattle.bus_seats.specs.Turns.{SeatIs, turn_record, turn_answer, turn_seat}

-- the record of the chosen station: the new one at its own place
unfoldable pub picked_of : Record → Record → ℕ → ℕ → Record
picked_of before new place chosen = cond (eqb place chosen) new before

-- what the code keeps of a bus before a tick
pub record BusIs (tick n : ℕ) (b : Bus) (now : ℕ) (c : BusKept) : Type 0 where
  pub long : length c.seats ≡ 8
  pub seats : (d : SeatKept) (k : ℕ) → k < n → SeatIs (b.seats k) (own_latest b.sent k) (get_or c.seats k d)
  pub wire : OnWire b.sent tick now c.wire

-- what a tick leaves, and what it comes to
pub record TickIs (tick n : ℕ) (b : Bus) (now chosen : ℕ) (left : BusKept) (r : Ticked) : Type 0 where
  pub bus : BusIs tick n (bus_after tick n b now) (now + tick) left
  pub words : (k : ℕ) → k < n → get_or r.words k 0 ≡ answer_word (answer_for tick b now k)
  pub chosen_record : chosen < n → take r.given.length r.given.bytes ≡ record_for tick b now chosen

pub record Ticks (n now chosen : ℕ) (c left : BusKept) (r : Ticked) : Type 0 where
  pub short : r.given.length ≤ 46
  pub full : length r.given.bytes ≡ 46
  pub is : (tick : ℕ) (b : Bus) → 0 < tick → BusIs tick n b now c → TickIs tick n b now chosen left r

-- What is sent takes some time.

time_positive : (bytes : ℕ) (baud : Baud) → (bytes ≡ 0 → ⊥) → 0 < bytes_time bytes baud
unfolding bytes_time
time_positive zero baud h = absurd (h refl)
time_positive (suc bytes) baud h = time_some (11 * suc bytes) baud (omega arith)

-- When the last of a place's transmissions ends.

own_other : (t : Transmission) (l : List Transmission) (place : ℕ) → (t.sender ≡ place → ⊥) → own_latest (t ∷ l) place ≡ own_latest l place
unfolding own_latest
own_other t l place h = rw (ne_eqb t.sender place h)

own_same : (t : Transmission) (l : List Transmission) (place : ℕ) → t.sender ≡ place → own_latest (t ∷ l) place ≡ later_of (own_latest l place) t.ends
unfolding own_latest
own_same t l place h = rw (eq-eqb t.sender place h)

module _ (tick now : ℕ) (b : Bus) where
  abbrev after : ℕ → List Transmission
  after i = sent_after tick b now i

  sent_none : (i : ℕ) → bytes_for tick b now i ≡ 0 → after (suc i) ≡ after i
  unfolding sent_after
  sent_none i e = rw (le-ltb 0 (bytes_for tick b now i) (omega arith))

  sent_one : (i : ℕ) → (bytes_for tick b now i ≡ 0 → ⊥) → after (suc i) ≡ transmission_for tick b now i ∷ after i
  unfolding sent_after
  sent_one i h = rw (lt-ltb 0 (bytes_for tick b now i) (positive (bytes_for tick b now i) h))
    where
      positive : (n : ℕ) → (n ≡ 0 → ⊥) → 0 < n
      positive zero h = absurd (h refl)
      positive (suc n) h = omega arith

  sender_is : (i : ℕ) → (transmission_for tick b now i).sender ≡ i
  unfolding transmission_for
  sender_is i = refl

  -- a place that did not have its turn has sent nothing at this tick
  own_step : (i k : ℕ) → (i ≡ k → ⊥) → own_latest (after (suc i)) k ≡ own_latest (after i) k
  own_step i k h =
      cases (eqb (bytes_for tick b now i) 0)
      (λ e. ap (λ (l : List Transmission). own_latest l k) (sent_none i (eqb-true _ _ e)))
      (λ e.
      ap (λ (l : List Transmission). own_latest l k) (sent_one i (eqb-false _ _ e))
      ∙ own_other (transmission_for tick b now i) (after i) k (λ s. h (sym (sender_is i) ∙ s)))

  own_before : (i k : ℕ) → i ≤ k → own_latest (after i) k ≡ own_latest b.sent k
  unfolding sent_after
  own_before zero k h = refl
  own_before (suc i) k h = own_step i k (λ e. omega arith) ∙ own_before i k (omega arith)

picked_here : (before new : Record) (place chosen : ℕ) → eqb place chosen ≡ true → picked_of before new place chosen ≡ new
unfolding picked_of
picked_here before new place chosen e = rw e

picked_there : (before new : Record) (place chosen : ℕ) → eqb place chosen ≡ false → picked_of before new place chosen ≡ before
unfolding picked_of
picked_there before new place chosen e = rw e

-- Where the loop over the stations stands: the first i have had their turn.
pub record Ticking (tick n : ℕ) (b : Bus) (now chosen i : ℕ) (seats : List SeatKept) (wire : Wire) (words : List ℕ) (given : Record) : Type 0 where
  pub long : length seats ≡ 8
  pub done : (d : SeatKept) (k : ℕ) → k < i → SeatIs (seat_after tick b now k) (own_latest (sent_after tick b now i) k) (get_or seats k d)
  pub rest : (d : SeatKept) (k : ℕ) → i ≤ k → k < n → SeatIs (b.seats k) (own_latest b.sent k) (get_or seats k d)
  pub on : OnWire (sent_after tick b now i) tick (now + tick) wire
  pub before : Before i now (sent_after tick b now i)
  pub many : length words ≡ 8
  pub word : (k : ℕ) → k < i → get_or words k 0 ≡ answer_word (answer_for tick b now k)
  pub chosen_record : chosen < i → take given.length given.bytes ≡ record_for tick b now chosen

-- before the first turn
pub ticking_first :
    (tick n : ℕ) (b : Bus) (now chosen : ℕ) (c : BusKept) (wire : Wire) (words : List ℕ) (given : Record)
    → 0 < tick
    → BusIs tick n b now c
    → wire ≡ cleared_at c.wire now
    → length words ≡ 8
    → Ticking tick n b now chosen 0 c.seats wire words given
unfolding sent_after
ticking_first tick n b now chosen c wire words given some g e many =
    record {
      long = g.long;
      done = λ d k h. absurd (omega arith);
      rest = λ d k l h. g.seats d k h;
      on = rw e (wire_cleared b.sent tick now c.wire g.wire);
      before =
          all_map (λ u. (u.starts < u.ends) × (u.starts + tick ≤ now)) (λ u. (u.sender < 0) ⊎ (u.starts < now))
          (λ u p. let q = p.1 in inr (omega arith)) b.sent g.wire.past;
      many = many;
      word = λ k h. absurd (omega arith);
      chosen_record = λ h. absurd (omega arith);
    }

module _ {tick n : ℕ} {b : Bus} {now chosen i : ℕ} {heard : Wire} {seats : List SeatKept} {wire : Wire} {words : List ℕ} {given : Record}
    (heard_is : OnWire b.sent tick now heard)
    (g : Ticking tick n b now chosen i seats wire words given)
    (here : i < n) (room : n ≤ 8)
    (d seat : SeatKept) (left : Wire) (r : Place) (p : PlaceIs (get_or seats i d) heard wire now i seat left r) where
  seat_before : SeatIs (b.seats i) (own_latest b.sent i) (get_or seats i d)
  seat_before = g.rest d i (omega arith) here

  answers : p.turn.answer ≡ answer_for tick b now i
  answers = turn_answer tick now i b heard (get_or seats i d) p.turned p.turn heard_is seat_before p.is

  settings_are : (get_or seats i d).station.p ≡ (b.seats i).station.p
  settings_are = ap (λ (s : Station). s.p) seat_before.station

  bytes_are : sent_bytes p.turn.answer.sent ≡ bytes_for tick b now i
  bytes_are = ap (λ (a : Answer). sent_bytes a.sent) answers

  ends_are : end_of now p.turn.answer.sent (get_or seats i d).station.p ≡ (transmission_for tick b now i).ends
  unfolding transmission_for
  ends_are = rw (answers, settings_are)

  word_is : telegram_word (sent_telegram p.turn.answer.sent (get_or seats i d).station.p.address) ≡ telegram_word (transmission_for tick b now i).telegram
  unfolding transmission_for
  word_is = rw (answers, settings_are)

  starts_now : (transmission_for tick b now i).starts ≡ now
  unfolding transmission_for
  starts_now = refl

  takes_time : (bytes_for tick b now i ≡ 0 → ⊥) → (transmission_for tick b now i).starts < (transmission_for tick b now i).ends
  unfolding transmission_for
  takes_time h = let t = time_positive (bytes_for tick b now i) (b.seats i).station.p.baudrate h in omega arith

  next_before : Before (suc i) now (sent_after tick b now i)
  next_before =
      all_map (λ u. (u.sender < i) ⊎ (u.starts < now)) (λ u. (u.sender < suc i) ⊎ (u.starts < now))
      (λ u h. ⊎_elim (λ (a : u.sender < i). inl (omega arith)) (λ (a : u.starts < now). inr a) h) (sent_after tick b now i) g.before

  abbrev AfterTurn : Type 0
  AfterTurn =
      OnWire (sent_after tick b now (suc i)) tick (now + tick) left
      × Before (suc i) now (sent_after tick b now (suc i))
      × (until_after p.turned.until now p.turn.answer.sent (get_or seats i d).station.p ≡ own_latest (sent_after tick b now (suc i)) i)

  until_before : p.turned.until ≡ own_latest (sent_after tick b now i) i
  until_before = p.is.until_after_lem ∙ seat_before.until_is ∙ sym (own_before tick now b i i (omega arith))

  -- nothing is sent
  silent : bytes_for tick b now i ≡ 0 → AfterTurn
  unfolding wire_after until_after
  silent e =
      let z : eqb (sent_bytes p.turn.answer.sent) 0 ≡ true = eq-eqb _ _ (bytes_are ∙ e) in
      rw (sent_none tick now b i e, p.wire_after_lem, z) (g.on, next_before, until_before)

  -- it is on the bus then
  on_wire : (bytes_for tick b now i ≡ 0 → ⊥) → OnWire (transmission_for tick b now i ∷ sent_after tick b now i) tick (now + tick) (sent_on wire now (end_of now p.turn.answer.sent (get_or seats i d).station.p) i (telegram_word (sent_telegram p.turn.answer.sent (get_or seats i d).station.p.address)))
  unfolding transmission_for
  on_wire h =
      subst (λ (e : ℕ). OnWire (transmission_for tick b now i ∷ sent_after tick b now i) tick (now + tick) (sent_on wire now e i (telegram_word (sent_telegram p.turn.answer.sent (get_or seats i d).station.p.address)))) (sym ends_are)
      (wire_sent (sent_after tick b now i) tick (transmission_for tick b now i) wire g.on (takes_time h) g.before (telegram_word (sent_telegram p.turn.answer.sent (get_or seats i d).station.p.address)) word_is)

  -- a telegram is sent
  sends : (bytes_for tick b now i ≡ 0 → ⊥) → AfterTurn
  unfolding wire_after until_after
  sends h =
      let z : eqb (sent_bytes p.turn.answer.sent) 0 ≡ false = ne_eqb _ _ (λ e. h (sym bytes_are ∙ e)) in
      let t = transmission_for tick b now i in
      rw (sent_one tick now b i h, p.wire_after_lem, z)
      (on_wire h, (inl (rw (sender_is tick now b i) (omega arith)), next_before), rw (until_before, ends_are) (sym (own_same (transmission_for tick b now i) (sent_after tick b now i) i (sender_is tick now b i))))

  either : AfterTurn
  either = cases (eqb (bytes_for tick b now i) 0) (λ e. silent (eqb-true _ _ e)) (λ e. sends (eqb-false _ _ e))

  seat_after_lem : SeatIs (seat_after tick b now i) (own_latest (sent_after tick b now (suc i)) i) seat
  seat_after_lem =
      let s = turn_seat tick now i b heard (get_or seats i d) p.turned p.turn heard_is seat_before p.is in
      rw p.seat (record { station = s.station; waits = s.waits; until_is = either.2 })

  -- one turn more
  pub ticking_next :
      (picked : Record)
      → picked ≡ picked_of given r.given i chosen
      → Ticking tick n b now chosen (i + 1) (set seats i seat) left (set words i r.word) picked
  ticking_next picked e =
      rw (add-one i)
      (record {
        long = length-set seats i seat ∙ g.long;
        done = λ d' k h. ⊎_elim (λ (s : k ≡ i). done_here d' k s) (λ (l : k < i). done_there d' k l) (eq-or-lt_of_le (omega arith));
        rest = λ d' k l h. rw (get_or-set_other seats i k seat d' (λ s. omega arith)) (g.rest d' k (omega arith) h);
        on = either.0;
        before = either.1;
        many = length-set words i r.word ∙ g.many;
        word = λ k h. ⊎_elim (λ (s : k ≡ i). word_here k s) (λ (l : k < i). rw (get_or-set_other words i k r.word 0 (λ s. omega arith)) (g.word k l)) (eq-or-lt_of_le (omega arith));
        chosen_record = λ h. picks (cases (eqb i chosen) (λ t. inl t) (λ t. inr t)) h;
      })
    where
      done_here : (d' : SeatKept) (k : ℕ) → k ≡ i → SeatIs (seat_after tick b now k) (own_latest (sent_after tick b now (suc i)) k) (get_or (set seats i seat) k d')
      done_here d' k s = rw (s, get_or-set_same seats i seat d' (let long = g.long in omega arith)) seat_after_lem

      done_there : (d' : SeatKept) (k : ℕ) → k < i → SeatIs (seat_after tick b now k) (own_latest (sent_after tick b now (suc i)) k) (get_or (set seats i seat) k d')
      done_there d' k l = rw (get_or-set_other seats i k seat d' (λ s. omega arith), own_step tick now b i k (λ s. omega arith)) (g.done d' k l)

      word_here : (k : ℕ) → k ≡ i → get_or (set words i r.word) k 0 ≡ answer_word (answer_for tick b now k)
      word_here k s = rw (s, get_or-set_same words i r.word 0 (let many = g.many in omega arith)) (p.word ∙ ap answer_word answers)

      picks : (eqb i chosen ≡ true) ⊎ (eqb i chosen ≡ false) → chosen < suc i → take picked.length picked.bytes ≡ record_for tick b now chosen
      picks (inl t) h = rw (e, picked_here given r.given i chosen t, p.given, ← eqb-true i chosen t) (turn_record tick now i b heard (get_or seats i d) p.turned p.turn heard_is seat_before p.is)
      picks (inr t) h = rw (e, picked_there given r.given i chosen t) (g.chosen_record (let f = eqb-false i chosen t in below f))
        where
          below : (i ≡ chosen → ⊥) → chosen < i
          below f = ⊎_elim (λ (s : chosen ≡ i). absurd (f (sym s))) (λ (l : chosen < i). l) (eq-or-lt_of_le (omega arith))

-- after the last turn
pub ticking_last :
    (tick n : ℕ) (b : Bus) (now chosen i : ℕ) (left : BusKept) (words : List ℕ) (given : Record)
    → i ≡ n
    → Ticking tick n b now chosen i left.seats left.wire words given
    → TickIs tick n b now chosen left (record { words = words; given = given })
unfolding bus_after
ticking_last tick n b now chosen i left words given e t =
    let g : Ticking tick n b now chosen n left.seats left.wire words given = subst (λ (m : ℕ). Ticking tick n b now chosen m left.seats left.wire words given) e t in
    record {
      bus = record { long = g.long; seats = λ d k h. g.done d k h; wire = g.on };
      words = g.word;
      chosen_record = g.chosen_record;
    }

-- a picked record is as long as those it is picked of
pub picked_short :
    (before new : Record) (place chosen : ℕ)
    → (before.length ≤ 46) × (length before.bytes ≡ 46)
    → (new.length ≤ 46) × (length new.bytes ≡ 46)
    → ((picked_of before new place chosen).length ≤ 46) × (length (picked_of before new place chosen).bytes ≡ 46)
unfolding picked_of
picked_short before new place chosen a b = cases (eqb place chosen) (λ t. rw t b) (λ t. rw t a)

-- and the record that a place was given is as long
pub place_short : (c : SeatKept) (heard wire : Wire) (now place : ℕ) (after : SeatKept) (left : Wire) (r : Place) → PlaceIs c heard wire now place after left r → (r.given.length ≤ 46) × (length r.given.bytes ≡ 46)
place_short c heard wire now place after left r p = rw p.given (p.is.short, p.is.full)
