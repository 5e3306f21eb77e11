-- The proof of the letter's case: a station that holds a new token asks its applications by the next counted poll.
use Rattle.std.specs.Prelude.{ℕ, zero, suc, ◌+◌, ◌<◌, ◌≤◌, Bool, true, false, cond, not, ◌≡◌, ◌⊎◌, List, [], ◌∷◌, ◌++◌, length, eqb}
use Rattle.std.proofs.Math.Path.{refl, ap}
use Rattle.std.proofs.Common.{sym, subst, ◌∙◌, inl, inr, append-nil, arith}
use borrow.Table.Steps.{cases}
use Rattle.bit_times.specs.declared.micros.Micros.{Micros}
use Rattle.settings.specs.declared.parameters.Parameters.{Parameters}
use Rattle.settings.specs.Settings.{slot_time_of}
use Rattle.ring_addresses.specs.SetLaws.{true≢false}
use Rattle.ring.specs.Ring.{Ring, has, others}
use Rattle.ring.proofs.Laws.{next_other, alone_has}
use Rattle.codec_decisions.specs.declared.Decision.{Decision}
use Rattle.codec_decisions.specs.declared.Decision.TheVariants as decision
use Rattle.codec_records.specs.Records.{head_of, decision_at}
use Rattle.codec_answers.specs.declared.Sent.{Sent}
use Rattle.codec_answers.specs.declared.Sent.TheVariants.{Nothing, Application}
use Rattle.codec_answers.specs.declared.Outcome.TheVariants as outcome
use Rattle.station.specs.declared.state.PassTokenAttempt.TheVariants.{First}
use Rattle.station.specs.declared.state.UseTokenData.{UseTokenData}
use Rattle.station.specs.declared.state.State.{State}
use Rattle.station.specs.declared.parts.Core.{Core}
use Rattle.station.specs.declared.parts.Counts.{Counts}
use Rattle.station.specs.declared.station.Station.{Station}
use Rattle.station.specs.Whole.{RingStep, Step}
use Rattle.station.specs.Parts.{with_activity, with_token_times, with_next_application, state_number}
use Rattle.station.specs.Steps.{with_token_time, to_use_token, marked_at, busy_of, waited_of, pause_of, done_of, transmit_of, ring_step_of}
use Rattle.station_hold.specs.Hold.{Asked, declines_at, use_pass_of, app_transmit_of, asked_from, asked_of, hold_end_of, holds_of, use_apps_after, use_apps_of, use_token_timed, use_token_of}
use Rattle.station_poll.specs.Poll.{dispatch_of, poll_of}
use Rattle.station_answer.specs.Counted.{counted_of}
use Rattle.station_answer.specs.Answer.{Polled, polled_of, step_answer}
use Rattle.theorem_silence.specs.Silence.{AllQuiet, told, sent_until, counted_in, slot_after, tokens}
use Rattle.theorem_silence.specs.Times.{Slotted, slotted, counted_free, counted_paused}
use Rattle.theorem_silence.specs.Phases.{Phase, starting, holding, next, todo, end_ring, Under}
use Rattle.theorem_silence.proofs.Phases.{told_next, under_or_held, todo_next, end_next, tokens_length}
use Rattle.theorem_silence.specs.OnePoll.{At, Turn, sends, stays, quiet_step}
use Rattle.theorem_silence.proofs.OnePoll.{not_counted, not_counted_busy, turn}
use Rattle.theorem_silence.specs.Theorem.{station_of, clock_of}
use Rattle.theorem_silence.proofs.Theorem.{poll_at, counted_on, one_less, started, run_of, silence}
use Rattle.theorem_silence.specs.Letter.{after_polls, sent_in, wanted, asked_sent, in_hold_time, Asks, four_tokens, LetterTheorem}
use Rattle.theorem_silence.specs.Asking.{Found, FoundAt}

-- a step that sends this, leaves this end of hold, and passes the token on if it sends nothing
record Sends (out : Sent) (end : Micros) (x : Step) : Type 0 where
  pub sent : x.sent ≡ out
  pub end_same : x.core.end_token_hold_time ≡ end
  pub on : x.sent ≡ Nothing → state_number x.state ≡ 6

-- a telegram is not nothing
not_nothing : {A : Type 0} (address a : ℕ) (high : Bool) (length : ℕ) → Application address a high length ≡ Nothing → A
not_nothing address a high length e = let z : ◌≡◌ {A = ℕ} 0 1 = cc in absurd (omega arith)

-- what an application's decision leads to is what it wants
transmit_sent : (p : Parameters) (c : Core) (now : Micros) (held : UseTokenData) (d : Decision) (high : Bool) → Sends (wanted d c.next_application high) c.end_token_hold_time (app_transmit_of p c now held d high)
unfolding app_transmit_of use_pass_of done_of transmit_of with_activity
transmit_sent p c now held decision.Decline high = record { sent = refl; end_same = refl; on = λ e. refl }
transmit_sent p c now held (decision.Send length) high = record { sent = refl; end_same = refl; on = λ e. not_nothing _ _ _ _ e }
transmit_sent p c now held (decision.SendExpectReply address length) high = record { sent = refl; end_same = refl; on = λ e. not_nothing _ _ _ _ e }

-- nobody sends
pass_sent : (c : Core) → Sends Nothing c.end_token_hold_time (use_pass_of c)
unfolding use_pass_of done_of
pass_sent c = record { sent = refl; end_same = refl; on = λ e. refl }

-- once the applications were asked
apps_after : (p : Parameters) (c : Core) (now : Micros) (held : UseTokenData) (bytes : List ℕ) (n : ℕ) (high : Bool) (a : Asked) → Sends (cond a.sends (wanted (decision_at bytes n a.application high) a.application high) Nothing) c.end_token_hold_time (use_apps_after p c now held bytes n high a)
unfolding use_apps_after with_next_application
apps_after p c now held bytes n high a =
    cases a.sends (λ e. rw e (transmit_sent p _ now _ (decision_at bytes n a.application high) high)) (λ e. rw e (pass_sent _))

-- a new token: the applications are asked from the one whose turn it is
apps_sent : (p : Parameters) (c : Core) (now since : Micros) (bytes : List ℕ) (n : ℕ) (high : Bool) → Sends (asked_sent bytes n c.next_application high) c.end_token_hold_time (use_apps_of p c now (with_token_time since) bytes n high)
unfolding use_apps_of asked_sent with_token_time
apps_sent p c now since bytes n high = apps_after p c now _ bytes n high _

-- a step that asks the n applications from the one whose turn it is: what Asks says of a poll
record AsksStep (now : Micros) (bytes : List ℕ) (n turn : ℕ) (x : Step) : Type 0 where
  pub high : Bool
  pub when : holds_of now x.core.end_token_hold_time ≡ not high
  pub asks : x.sent ≡ asked_sent bytes n turn high
  pub on : x.sent ≡ Nothing → state_number x.state ≡ 6

asks_step : (now : Micros) (bytes : List ℕ) (n turn : ℕ) (high : Bool) (end : Micros) (x : Step) → holds_of now end ≡ not high → Sends (asked_sent bytes n turn high) end x → AsksStep now bytes n turn x
asks_step now bytes n turn high end x h g =
    record { high = high; when = ap (λ (y : Micros). holds_of now y) g.end_same ∙ h; asks = g.sent; on = g.on }

-- the end of hold is set: all that is looked at here stays
record Same (c d : Core) : Type 0 where
  pub same_on : d.connectivity_state ≡ c.connectivity_state
  pub same_next : d.next_application ≡ c.next_application
  pub same_activity : d.last_bus_activity ≡ c.last_bus_activity

hold_same : (p : Parameters) (c : Core) (token : Micros) → Same c (hold_end_of p c token)
unfolding hold_end_of with_token_times
hold_same p c token =
    cases (eqb c.last_token_time.0 token.0) (λ e. rw e (record { same_on = refl; same_next = refl; same_activity = refl }))
    (λ e. rw e (record { same_on = refl; same_next = refl; same_activity = refl }))

-- once the pause is over the applications are asked, before that the station waits
use_over : (p : Parameters) (c : Core) (now since : Micros) (bytes : List ℕ) (n : ℕ) → (pause_of p c now).over ≡ true → AsksStep now bytes n c.next_application (use_token_timed p c now (with_token_time since) false bytes n)
unfolding use_token_timed pause_of waited_of with_activity
use_over p c now since bytes n e =
    let waited = (pause_of p c now).core in
    cases (holds_of now c.end_token_hold_time)
    (λ h. rw (e, h) (asks_step now bytes n _ false _ _ h (apps_sent p waited now since bytes n false)))
    (λ h. rw (e, h) (asks_step now bytes n _ true _ _ h (apps_sent p waited now since bytes n true)))

use_waits : (p : Parameters) (c : Core) (now since : Micros) (bytes : List ℕ) (n : ℕ) → (pause_of p c now).over ≡ false → use_token_timed p c now (with_token_time since) false bytes n ≡ done_of (to_use_token since) (pause_of p c now).core outcome.Delay
unfolding use_token_timed
use_waits p c now since bytes n e = rw e

-- the pause by the last activity only
pause_by : (p : Parameters) (c d : Core) (now : Micros) → d.last_bus_activity ≡ c.last_bus_activity → (pause_of p d now).over ≡ (pause_of p c now).over
unfolding pause_of waited_of
pause_by p c d now e = rw e

-- waiting for it leaves the station online or not
paused_on : (p : Parameters) (c : Core) (now : Micros) → (pause_of p c now).core.connectivity_state ≡ c.connectivity_state
unfolding pause_of waited_of with_activity
paused_on p c now = refl

-- one silent poll of a station that holds a new token, with whether it is counted
data HoldTurn (os : List ℕ) (p : Parameters) (n : ℕ) (c : Core) (now : Micros) (bytes : List ℕ) (counts : Bool) (x : RingStep) : Type 0 where
  asking : AsksStep now bytes n c.next_application x.step → HoldTurn os p n c now bytes counts x
  waiting : counts ≡ false → x.step.sent ≡ Nothing → At (holding os) p x.step.state x.step.core x.ring → HoldTurn os p n c now bytes counts x

module _ (os : List ℕ) (p : Parameters) (w : Slotted p) (s : State) (c : Core) (r : Ring) (now : Micros) (bytes : List ℕ) (n : ℕ) (a : At (holding os) p s c r) where
  abbrev counts : Bool
  counts = slot_after c.last_bus_activity now.0 (slot_time_of p).0

  -- what a poll with the token comes to
  abbrev used : Step
  used = use_token_of p c now (with_token_time a.1.since) false bytes n

  dispatch_use : dispatch_of p s c r now bytes n 0 ≡ ring_step_of used r
  unfolding dispatch_of
  dispatch_use = ap (λ (x : State). dispatch_of p x c r now bytes n 0) a.1.held

  -- with the token still held and as online as before the station is still at the last place
  still : (x : State) (d : Core) → d.connectivity_state ≡ c.connectivity_state → x ≡ to_use_token a.1.since → At (holding os) p x d r
  still x d on held = (record { on = on ∙ a.0.on; ring_good = a.0.ring_good; are = a.0.are }, record { since = a.1.since; held = held })

  -- the station with the end of hold set
  abbrev timed : Core
  timed = hold_end_of p c a.1.since

  timed_use : used ≡ use_token_timed p timed now (with_token_time a.1.since) false bytes n
  unfolding use_token_of with_token_time
  timed_use = refl

  known_pause : (pause_of p timed now).over ≡ (pause_of p c now).over
  known_pause = pause_by p c timed now (hold_same p c a.1.since).same_activity

  over_hold : (pause_of p timed now).over ≡ true → HoldTurn os p n c now bytes counts (ring_step_of used r)
  over_hold e =
      asking (subst (λ (i : ℕ). AsksStep now bytes n i used) (hold_same p c a.1.since).same_next
      (subst (λ (x : Step). AsksStep now bytes n timed.next_application x) (sym timed_use) (use_over p timed now a.1.since bytes n e)))

  waits_hold : (pause_of p timed now).over ≡ false → HoldTurn os p n c now bytes counts (ring_step_of used r)
  unfolding done_of
  waits_hold e =
      let same = hold_same p c a.1.since in
      let is = timed_use ∙ use_waits p timed now a.1.since bytes n e in
      waiting (not_counted counts (pause_of p c now).over (counted_paused p w c now) (sym known_pause ∙ e)) (ap (λ (x : Step). x.sent) is)
      (still used.state used.core (ap (λ (x : Step). x.core.connectivity_state) is ∙ paused_on p timed now ∙ same.same_on) (ap (λ (x : Step). x.state) is))

  hold_turn : HoldTurn os p n c now bytes counts (quiet_step p s c r now bytes n)
  unfolding quiet_step done_of with_activity
  hold_turn =
      cases (busy_of c.last_bus_activity now)
      (λ b. rw b (waiting (not_counted_busy counts (busy_of c.last_bus_activity now) (counted_free p w c now) b) refl (still s (with_activity c (marked_at c.last_bus_activity now)) refl a.1.held)))
      (λ b. rw (b, dispatch_use) (cases (pause_of p timed now).over over_hold waits_hold))

-- what is found in the polls that follow a first one is found with it, too
polls_on_lem : (p : Parameters) (n : ℕ) (ks : Counts) (s : State) (c : Core) (r : Ring) (bytes : List ℕ) (later : List (List ℕ)) (x : RingStep) → poll_of (station_of p n ks s c r) bytes ≡ polled_of p n ks x → after_polls (station_of p n ks s c r) (bytes ∷ later) ≡ after_polls (station_of p n (counted_of ks x.step.event) x.step.state x.step.core x.ring) later
unfolding after_polls polled_of
polls_on_lem p n ks s c r bytes later x is = ap (λ (y : Polled). after_polls y.station later) is

sent_in_on : (p : Parameters) (n : ℕ) (ks : Counts) (s : State) (c : Core) (r : Ring) (bytes : List ℕ) (later : List (List ℕ)) (x : RingStep) → poll_of (station_of p n ks s c r) bytes ≡ polled_of p n ks x → sent_in (station_of p n ks s c r) (bytes ∷ later) ≡ told x.step.sent ++ sent_in (station_of p n (counted_of ks x.step.event) x.step.state x.step.core x.ring) later
unfolding sent_in polled_of step_answer
sent_in_on p n ks s c r bytes later x is = ap (λ (y : Polled). told y.answer.sent ++ sent_in y.station later) is

pub found_later : (p : Parameters) (n : ℕ) (ks : Counts) (s : State) (c : Core) (r : Ring) (bytes : List ℕ) (later : List (List ℕ)) (x : RingStep) (out : List Sent) (os : List ℕ) → poll_of (station_of p n ks s c r) bytes ≡ polled_of p n ks x → Found p out os (station_of p n (counted_of ks x.step.event) x.step.state x.step.core x.ring) later → Found p (told x.step.sent ++ out) os (station_of p n ks s c r) (bytes ∷ later)
found_later p n ks s c r bytes later x out os is f =
    let on = sym (polls_on_lem p n ks s c r bytes f.before x is) in
    record {
      before = bytes ∷ f.before;
      asking = f.asking;
      rest = f.rest;
      are = ap (λ (l : List (List ℕ)). bytes ∷ l) f.are;
      sent = sent_in_on p n ks s c r bytes f.before x is ∙ ap (λ (l : List Sent). told x.step.sent ++ l) f.sent;
      place = subst (λ (y : Station). At (holding os) p y.state y.core y.token_ring) on f.place;
      asks = subst (λ (y : Station). Asks y f.asking) on f.asks;
    }

-- a poll that leads to a step that asks is one that asks
asks_now : (os : List ℕ) (p : Parameters) (n : ℕ) (ks : Counts) (s : State) (c : Core) (r : Ring) (bytes : List ℕ) (x : RingStep) → At (holding os) p s c r → poll_of (station_of p n ks s c r) bytes ≡ polled_of p n ks x → AsksStep (clock_of bytes) bytes n c.next_application x.step → Asks (station_of p n ks s c r) bytes
unfolding polled_of step_answer
asks_now os p n ks s c r bytes x a is g =
    let sent = ap (λ (y : Polled). y.answer.sent) is in
    let in_hold : in_hold_time (station_of p n ks s c r) bytes ≡ holds_of (clock_of bytes) x.step.core.end_token_hold_time = ap (λ (y : Polled). holds_of (clock_of bytes) y.station.core.end_token_hold_time) is in
    record {
      since = a.1.since;
      holds = a.1.held;
      high = g.high;
      when = in_hold ∙ g.when;
      asks = sent ∙ g.asks;
      on = λ e. ap (λ (y : Polled). state_number y.station.state) is ∙ g.on (sym sent ∙ e);
    }

-- or it is the first
found_now : (os : List ℕ) (p : Parameters) (n : ℕ) (ks : Counts) (s : State) (c : Core) (r : Ring) (bytes : List ℕ) (later : List (List ℕ)) (x : RingStep) → At (holding os) p s c r → poll_of (station_of p n ks s c r) bytes ≡ polled_of p n ks x → AsksStep (clock_of bytes) bytes n c.next_application x.step → Found p [] os (station_of p n ks s c r) (bytes ∷ later)
unfolding after_polls sent_in
found_now os p n ks s c r bytes later x a is g =
    record {
      before = [];
      asking = bytes;
      rest = later;
      are = refl;
      sent = refl;
      place = a;
      asks = asks_now os p n ks s c r bytes x a is g;
    }

-- a poll that is not counted leaves as many to come
pub uncounted : (counts : Bool) (k polls : ℕ) → counts ≡ false → k ≤ cond counts 1 0 + polls → k ≤ polls
uncounted true k polls e l = absurd (true≢false e)
uncounted false k polls e l = omega arith

-- whether a poll is counted
abbrev counts_at : Parameters → Core → List ℕ → Bool
counts_at p c bytes = slot_after c.last_bus_activity (head_of bytes).clock (slot_time_of p).0

-- one poll of a station that holds a new token, and what is found from where it leads
held_poll : (os : List ℕ) (p : Parameters) (n : ℕ) (ks : Counts) (s : State) (c : Core) (r : Ring) (bytes : List ℕ) (later : List (List ℕ)) (x : RingStep) → At (holding os) p s c r → poll_of (station_of p n ks s c r) bytes ≡ polled_of p n ks x → HoldTurn os p n c (clock_of bytes) bytes (counts_at p c bytes) x → 1 ≤ counted_in (station_of p n ks s c r) (bytes ∷ later) → ((ms : Counts) (y : State) (d : Core) (t : Ring) → At (holding os) p y d t → 1 ≤ counted_in (station_of p n ms y d t) later → Found p [] os (station_of p n ms y d t) later) → Found p [] os (station_of p n ks s c r) (bytes ∷ later)
held_poll os p n ks s c r bytes later x a is (asking g) l then = found_now os p n ks s c r bytes later x a is g
held_poll os p n ks s c r bytes later x a is (waiting f e to) l then =
    let left = uncounted (counts_at p c bytes) 1 _ f (rw (counted_on p n ks s c r bytes later x is) at l) in
    subst (λ (y : Sent). Found p (told y ++ []) os (station_of p n ks s c r) (bytes ∷ later)) e
    (found_later p n ks s c r bytes later x [] os is (then (counted_of ks x.step.event) x.step.state x.step.core x.ring to left))

-- from a held token: asked by the next counted poll
found_holding : (records : List (List ℕ)) (os : List ℕ) (p : Parameters) → Slotted p → (n : ℕ) → AllQuiet n records → (ks : Counts) (s : State) (c : Core) (r : Ring) → At (holding os) p s c r → 1 ≤ counted_in (station_of p n ks s c r) records → Found p [] os (station_of p n ks s c r) records
unfolding counted_in
found_holding [] os p w n q ks s c r a l = absurd (omega arith)
found_holding (bytes ∷ later) os p w n q ks s c r a l =
    held_poll os p n ks s c r bytes later (quiet_step p s c r (clock_of bytes) bytes n) a (poll_at (holding os) p n ks s c r bytes q.0 a)
    (hold_turn os p w s c r (clock_of bytes) bytes n a) l (λ ms y d t b k. found_holding later os p w n q.1 ms y d t b k)

-- from any place: what is still to be sent is sent first
turned : (ph : Phase) (p : Parameters) (n : ℕ) (ks : Counts) (s : State) (c : Core) (r : Ring) (bytes : List ℕ) (later : List (List ℕ)) (x : RingStep) → Under ph → poll_of (station_of p n ks s c r) bytes ≡ polled_of p n ks x → Turn p (clock_of bytes) ph (counts_at p c bytes) x → ((to : Phase) (ms : Counts) (y : State) (d : Core) (t : Ring) → At to p y d t → FoundAt p n to ms y d t later) → FoundAt p n ph ks s c r (bytes ∷ later)
turned ph p n ks s c r bytes later x u is (sends g) then l =
    let own = p.address in
    let head = todo_next own ph u in
    let s₀ = station_of p n ks s c r in
    let left = one_less (counts_at p c bytes) (suc (length (todo own (next ph)))) _ (rw (head, counted_on p n ks s c r bytes later x is) at l) in
    let one : told x.step.sent ++ todo own (next ph) ≡ todo own ph = ap (λ (y : Sent). told y ++ todo own (next ph)) g.telegram ∙ ap (λ (y : List Sent). y ++ todo own (next ph)) (told_next own ph) ∙ sym head in
    subst (λ (y : List Sent). Found p y (end_ring ph) s₀ (bytes ∷ later)) one
    (subst (λ (os : List ℕ). Found p (told x.step.sent ++ todo own (next ph)) os s₀ (bytes ∷ later)) (end_next ph)
    (found_later p n ks s c r bytes later x _ _ is (then (next ph) (counted_of ks x.step.event) x.step.state x.step.core x.ring g.place left)))
turned ph p n ks s c r bytes later x u is (stays f g) then l =
    let left = uncounted (counts_at p c bytes) _ _ f (rw (counted_on p n ks s c r bytes later x is) at l) in
    subst (λ (y : Sent). Found p (told y ++ todo p.address ph) (end_ring ph) (station_of p n ks s c r) (bytes ∷ later)) g.nothing
    (found_later p n ks s c r bytes later x _ _ is (then ph (counted_of ks x.step.event) x.step.state x.step.core x.ring g.place left))

found_on_lem : (ph : Phase) (p : Parameters) → Slotted p → (n : ℕ) (bytes : List ℕ) (later : List (List ℕ)) → AllQuiet n (bytes ∷ later) → ((to : Phase) (ms : Counts) (y : State) (d : Core) (t : Ring) → At to p y d t → FoundAt p n to ms y d t later) → (ks : Counts) (s : State) (c : Core) (r : Ring) → At ph p s c r → FoundAt p n ph ks s c r (bytes ∷ later)
found_on_lem ph p w n bytes later q then ks s c r a = go (under_or_held ph) a
  where
    go : Under ph ⊎ (ph ≡ holding (end_ring ph)) → At ph p s c r → FoundAt p n ph ks s c r (bytes ∷ later)
    go (inl u) = λ a. turned ph p n ks s c r bytes later _ u (poll_at ph p n ks s c r bytes q.0 a) (turn p w s c r (clock_of bytes) bytes n ph u a) then
    go (inr e) = subst (λ (x : Phase). At x p s c r → FoundAt p n x ks s c r (bytes ∷ later)) (sym e) (λ a l. found_holding (bytes ∷ later) (end_ring ph) p w n q ks s c r a l)

pub found : (records : List (List ℕ)) (p : Parameters) → Slotted p → (n : ℕ) → AllQuiet n records → (ph : Phase) (ks : Counts) (s : State) (c : Core) (r : Ring) → At ph p s c r → FoundAt p n ph ks s c r records
unfolding counted_in
found [] p w n q ph ks s c r a l = absurd (omega arith)
found (bytes ∷ later) p w n q ph ks s c r a l = found_on_lem ph p w n bytes later q (λ to ms y d t b. found later p w n q.1 to ms y d t b) ks s c r a l

-- who was the only other is no member once the station is alone
gone_from : (p : Parameters) (s : State) (c : Core) (r : Ring) (x : ℕ) → At (holding []) p s c r → x < 126 → (x ≡ p.address → ⊥) → has r x ≡ false
gone_from p s c r x a low other =
    let g = a.0.ring_good in
    cases (has r x) (λ e. absurd (other (alone_has r x g.sound low a.0.are e ∙ g.own))) (λ e. e)

-- the letter's case
pub the_letter : LetterTheorem
the_letter s x records h one q =
    let p = s.p in
    let r = s.token_ring in
    let other = next_other r x [] h.sound.ring_sound one in
    let not_own : x ≡ p.address → ⊥ = λ e. other.not_own (e ∙ sym h.sound.own_is) in
    let g = silence s records h q in
    let size : length (others r) ≡ 1 = ap length one in
    let four : tokens (others r) p.address ≡ four_tokens x p.address = ap (λ (os : List ℕ). tokens os p.address) one in
    record {
      by_four = λ l.
          let held = g.bound (omega arith) in
          record {
            holds = held;
            sent = sym (append-nil _) ∙ ap (λ (rest : List Sent). sent_until s records ++ rest) (sym (g.all_sent held)) ∙ g.sends ∙ four;
            gone = gone_from p _ _ _ x ((run_of s records h q).held_at held) other.low not_own;
          };
      by_five = λ l.
          let f = found records p (slotted p h.settings) s.applications q (starting First (others r)) s.counts s.state s.core r (started s h) (omega (arith, tokens_length (others r) p.address)) in
          record {
            before = f.before;
            asking = f.asking;
            rest = f.rest;
            are = f.are;
            sent = f.sent ∙ four;
            gone = gone_from p _ _ _ x f.place other.low not_own;
            asks = f.asks;
          };
    }

-- the application whose turn it is: if it does not decline, its telegram is what is sent
pub its_turn : (bytes : List ℕ) (n turn : ℕ) (high : Bool) → 1 ≤ n → declines_at bytes n turn high ≡ false → asked_sent bytes n turn high ≡ wanted (decision_at bytes n turn high) turn high
unfolding asked_sent asked_of asked_from
its_turn bytes zero turn high l e = absurd (omega arith)
its_turn bytes (suc k) turn high l e = rw e
