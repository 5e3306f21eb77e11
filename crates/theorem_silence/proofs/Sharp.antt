-- The bound of Silence is sharp: 3k polls never lead to the token, and there is a run of 3k polls that are all counted.
use Rattle.std.specs.Prelude.{ℕ, zero, suc, ◌+◌, ◌*◌, ◌^◌, ◌<◌, ◌≤◌, true, false, ◌≡◌, refl, List, [], ◌∷◌, length, Option, Some}
use Rattle.std.proofs.Common.{sym, ap, ◌∙◌, length-append, arith, suc-mul, add-one, one-add, le-leb}
use Rattle.std.proofs.Math.Path.{subst}
use borrow.Table.Steps.{cases}
use Rattle.bit_times.specs.declared.micros.Micros.{Micros}
use Rattle.bit_times.specs.Times.{byte_bits}
use Rattle.bit_times.proofs.Laws.{time_grows}
use Rattle.settings.specs.declared.parameters.Parameters.{Parameters}
use Rattle.settings.specs.Settings.{slot_time_of}
use Rattle.ring.specs.Ring.{Ring, others}
use Rattle.codec_records.specs.Records.{head_of}
use Rattle.codec_answers.specs.declared.Sent.{Sent}
use Rattle.codec_answers.specs.declared.Sent.TheVariants.{Nothing, Token, StatusRequest, StatusResponse, Application}
use Rattle.station.specs.declared.state.PassTokenAttempt.TheVariants.{First}
use Rattle.station.specs.declared.state.State.{State}
use Rattle.station.specs.declared.parts.Core.{Core}
use Rattle.station.specs.declared.parts.Counts.{Counts}
use Rattle.station.specs.declared.station.Station.{Station}
use Rattle.station.specs.Whole.{RingStep}
use Rattle.station.specs.Steps.{sent_at}
use Rattle.station_answer.specs.Counted.{counted_of}
use Rattle.station_answer.specs.Answer.{Polled, polled_of}
use Rattle.station_poll.specs.Poll.{poll_of}
use Rattle.theorem_silence.specs.Silence.{Start, AllQuiet, holds_token, until, told, sent_until, counted, counted_in, slot_after}
use Rattle.theorem_silence.specs.Times.{Slotted, slotted, after_shorter}
use Rattle.theorem_silence.specs.Phases.{Phase, starting, next, next_sent, todo, Under, longest}
use Rattle.theorem_silence.proofs.Phases.{some_under, longest_now, longest_next, todo_next, tokens_length}
use Rattle.theorem_silence.specs.OnePoll.{At, Sends, quiet_step}
use Rattle.theorem_silence.proofs.OnePoll.{turn}
use Rattle.theorem_silence.specs.Theorem.{station_of, clock_of, RunFrom}
use Rattle.theorem_silence.proofs.Theorem.{poll_at, counted_sends, started, run_of, silence}
use Rattle.theorem_silence.specs.SilentRecords.{silent_at, silent_quiet, silent_clock}
use Rattle.theorem_silence.specs.Sharp.{evenly, AllAfter, bytes_time, turn_time, CountedRun, Sharp}

-- a poll sends at most one telegram
told_one : (x : Sent) → length (told x) ≤ 1
told_one Nothing = omega arith
told_one (Token destination) = omega arith
told_one (StatusRequest destination) = omega arith
told_one (StatusResponse destination state) = omega arith
told_one (Application destination application high bytes) = omega arith

sent_at_most : (records : List (List ℕ)) (s : Station) → length (sent_until s records) ≤ length records
unfolding sent_until
sent_at_most [] s = omega arith
sent_at_most (bytes ∷ later) s =
    cases (holds_token s) (λ e. rw e (omega arith))
    (λ e. rw (e, length-append) (omega (arith, told_one (poll_of s bytes).answer.sent, sent_at_most later (poll_of s bytes).station)))

-- from any place: no run of fewer polls than there are telegrams to send, counted or not, leads to the token
pub too_few_from : (ph : Phase) (s : Station) (records : List (List ℕ)) → RunFrom s.p ph s records → suc (length records) ≤ length (todo s.p.address ph) → holds_token (until s records) ≡ false
too_few_from ph s records g l =
    let most = sent_at_most records s in
    let split : length (sent_until s records) + length g.rest ≡ length (todo s.p.address ph) = sym (length-append (sent_until s records) g.rest) ∙ ap length g.sends_of in
    cases (holds_token (until s records))
    (λ e. let none : length g.rest ≡ 0 = ap length (g.all_of e) in absurd (omega arith))
    (λ e. e)

-- so no run of at most 3k polls, counted or not, leads a station that starts a token pass to the token
pub too_few : (s : Station) (records : List (List ℕ)) → Start s → AllQuiet s.applications records → length records ≤ 3 * length (others s.token_ring) → holds_token (until s records) ≡ false
too_few s records h q l = too_few_from (starting First (others s.token_ring)) s records (run_of s records h q) (omega (arith, tokens_length (others s.token_ring) s.p.address))

-- Runs of polls that are as far apart as this.

pub evenly_length : (m n step clock : ℕ) → length (evenly n step m clock) ≡ m
unfolding evenly
evenly_length zero n step clock = refl
evenly_length (suc m) n step clock = ap suc (evenly_length m n step (clock + step))

-- room for one turn more
room_on : (m t clock : ℕ) → clock + suc m * t < 2 ^ 48 → clock + t + m * t < 2 ^ 48
room_on m t clock l = omega (arith, suc-mul m t)

room_here : (m t clock : ℕ) → clock + m * t < 2 ^ 48 → clock < 2 ^ 48
room_here m t clock l = omega arith

pub room_less : (m t clock : ℕ) → clock + (m + 1) * t < 2 ^ 48 → clock + m * t < 2 ^ 48
room_less m t clock l =
    let on : clock + suc m * t < 2 ^ 48 = rw add-one at l in
    omega (arith, room_on m t clock on)

pub evenly_quiet : (m n step clock : ℕ) → clock + m * step < 2 ^ 48 → AllQuiet n (evenly n step m clock)
unfolding evenly
evenly_quiet zero n step clock l = tt
evenly_quiet (suc m) n step clock l = (silent_quiet n clock (room_here (suc m) step clock l), evenly_quiet m n step (clock + step) (room_on m step clock l))

-- this long after a poll that sent, and the time of what it sent, the next poll comes
next_after : (p : Parameters) (a : Option Micros) (now clock bytes most wait step : ℕ) → now ≡ clock → bytes ≤ most → a ≡ sent_at p (record { 0 = now }) bytes → bytes_time p most + wait ≤ step → slot_after a (clock + step) wait ≡ true
unfolding sent_at slot_after
next_after p a now clock bytes most wait step e l is room =
    let shorter = time_grows (byte_bits * bytes) (byte_bits * most) p.baudrate (omega arith) in
    rw is (le-leb (now + bytes_time p bytes + wait) (clock + step) (omega arith))

-- one poll of such a run, and the run from where it leads
module _ (ph : Phase) (p : Parameters) (w : Slotted p) (time : Parameters → Micros) (n step : ℕ) (ks : Counts) (s : State) (c : Core) (r : Ring) (clock : ℕ) (u : Under ph) (g : At ph p s c r) (long : (slot_time_of p).0 ≤ (time p).0) (room : bytes_time p (longest ph) + (time p).0 ≤ step) (on-time : slot_after c.last_bus_activity clock (time p).0 ≡ true) (low : clock < 2 ^ 48) (later : List (List ℕ)) where
  abbrev the_bytes : List ℕ
  the_bytes = silent_at n clock

  abbrev the_step : RingStep
  the_step = quiet_step p s c r (clock_of the_bytes) the_bytes n

  is_after : slot_after c.last_bus_activity (head_of the_bytes).clock (time p).0 ≡ true
  is_after = ap (λ (t : ℕ). slot_after c.last_bus_activity t (time p).0) (silent_clock n clock low) ∙ on-time

  is_sent : Sends p (clock_of the_bytes) (next_sent p.address ph) (next ph) the_step
  is_sent =
      counted_sends p the_bytes ph _ the_step (after_shorter c.last_bus_activity (head_of the_bytes).clock (slot_time_of p).0 (time p).0 long is_after)
      (turn p w s c r (clock_of the_bytes) the_bytes n ph u g)

  is_next : slot_after the_step.step.core.last_bus_activity (clock + step) (time p).0 ≡ true
  is_next = next_after p the_step.step.core.last_bus_activity (head_of the_bytes).clock clock _ (longest ph) (time p).0 step (silent_clock n clock low) (omega (arith, longest_now p.address ph)) is_sent.marks room

  evenly_on : ((ms : Counts) (y : State) (d : Core) (t : Ring) → At (next ph) p y d t → slot_after d.last_bus_activity (clock + step) (time p).0 ≡ true → AllAfter time (station_of p n ms y d t) later) → AllAfter time (station_of p n ks s c r) (the_bytes ∷ later)
  unfolding polled_of
  evenly_on then = (
    is_after,
    subst (λ (y : Polled). AllAfter time y.station later) (sym (poll_at ph p n ks s c r the_bytes (silent_quiet n clock low) g))
        (then (counted_of ks the_step.step.event) the_step.step.state the_step.step.core the_step.ring is_sent.place is_next),
  )

-- while there are m telegrams to send, m polls all come late enough if they are as far apart as the longest telegram and the wait
next_room : (own m : ℕ) (ph : Phase) → suc m ≤ length (todo own ph) → m ≤ length (todo own (next ph))
next_room own m ph l = let e = ap length (todo_next own ph (some_under own ph (omega arith))) in omega arith

step_room : (p : Parameters) (ph : Phase) (wait step : ℕ) → bytes_time p (longest ph) + wait ≤ step → bytes_time p (longest (next ph)) + wait ≤ step
step_room p ph wait step l =
    let shorter = time_grows (byte_bits * longest (next ph)) (byte_bits * longest ph) p.baudrate (omega (arith, longest_next ph)) in
    omega arith

pub evenly_after : (m : ℕ) (ph : Phase) (p : Parameters) → Slotted p → (time : Parameters → Micros) (n step : ℕ) (ks : Counts) (s : State) (c : Core) (r : Ring) (clock : ℕ) → At ph p s c r → m ≤ length (todo p.address ph) → (slot_time_of p).0 ≤ (time p).0 → bytes_time p (longest ph) + (time p).0 ≤ step → slot_after c.last_bus_activity clock (time p).0 ≡ true → clock + m * step < 2 ^ 48 → AllAfter time (station_of p n ks s c r) (evenly n step m clock)
unfolding evenly
evenly_after zero ph p w time n step ks s c r clock g l long far a room = tt
evenly_after (suc m) ph p w time n step ks s c r clock g l long far a room =
    evenly_on ph p w time n step ks s c r clock (some_under p.address ph (omega arith)) g long far a (room_here (suc m) step clock room) (evenly n step m (clock + step))
    (λ ms y d t to b. evenly_after m (next ph) p w time n step ms y d t (clock + step) to (next_room p.address m ph l) long (step_room p ph (time p).0 step far) b (room_on m step clock room))

-- The bound of Silence.

-- polls that all come after a slot are all counted
after_counted : (records : List (List ℕ)) (s : Station) → AllAfter slot_time_of s records → counted_in s records ≡ length records
unfolding counted_in counted
after_counted [] s a = refl
after_counted (bytes ∷ later) s a = rw (a.0, after_counted later (poll_of s bytes).station a.1) (one-add (length later))

-- up to 3k + 1 there is a run of counted polls of every station that starts a token pass with known last bus activity, if the clock has
-- room for as many turns
counted_run : (s : Station) (last : Micros) (m : ℕ) → Start s → s.core.last_bus_activity ≡ Some last → m ≤ 3 * length (others s.token_ring) + 1 → last.0 + (slot_time_of s.p).0 + m * turn_time s.p < 2 ^ 48 → CountedRun s m
unfolding slot_after
counted_run s last m h a l room =
    let os = others s.token_ring in
    let slot = (slot_time_of s.p).0 in
    let clock = last.0 + slot in
    let run = evenly s.applications (turn_time s.p) m clock in
    let late = evenly_after m (starting First os) s.p (slotted s.p h.settings) slot_time_of s.applications (turn_time s.p) s.counts s.state s.core s.token_ring clock (started s h) (omega (arith, tokens_length os s.p.address)) (omega arith) (omega arith) (rw a (le-leb clock clock (omega arith))) room in
    record {
      records = run;
      quiet = evenly_quiet m s.applications (turn_time s.p) clock room;
      long = evenly_length m s.applications (turn_time s.p) clock;
      all_counted = after_counted run s late ∙ evenly_length m s.applications (turn_time s.p) clock;
    }

-- the bound is sharp for every station that starts a token pass so
pub sharp : (s : Station) (last : Micros) → Start s → s.core.last_bus_activity ≡ Some last → last.0 + (slot_time_of s.p).0 + (3 * length (others s.token_ring) + 1) * turn_time s.p < 2 ^ 48 → Sharp s
sharp s last h a room =
    let k = length (others s.token_ring) in
    let short = counted_run s last (3 * k) h a (omega arith) (room_less (3 * k) (turn_time s.p) _ room) in
    let enough = counted_run s last (3 * k + 1) h a (omega arith) room in
    record {
      too_short = short;
      not_held = too_few s short.records h short.quiet (omega (arith, short.long));
      long_enough = enough;
      held = (silence s enough.records h enough.quiet).bound (omega (arith, enough.all_counted));
    }
