-- The proof of Silence: one poll at a time, over any list of silent polls.
use Rattle.std.specs.Prelude.{ℕ, suc, ◌+◌, ◌≤◌, Bool, true, false, cond, ◌≡◌, refl, ◌⊎◌, List, [], ◌∷◌, ◌++◌, length, eqb}
use Rattle.std.proofs.Common.{sym, ap, subst, ◌∙◌, inl, inr, arith, zero-add, eq-eqb, le-ltb}
use Rattle.bit_times.specs.declared.micros.Micros.{Micros}
use Rattle.settings.specs.declared.parameters.Parameters.{Parameters}
use Rattle.settings.specs.Settings.{slot_time_of}
use Rattle.ring_addresses.specs.SetLaws.{true≢false}
use Rattle.ring.specs.Ring.{Ring, others}
use Rattle.codec_records.specs.Records.{head_of}
use Rattle.codec_answers.specs.declared.Outcome.TheVariants as outcome
use Rattle.codec_answers.specs.declared.Sent.{Sent}
use Rattle.codec_answers.specs.declared.Sent.TheVariants as sent
use Rattle.station.specs.declared.state.ConnectivityState.{ConnectivityState}
use Rattle.station.specs.declared.state.ConnectivityState.TheVariants as connectivity
use Rattle.station.specs.declared.state.PassTokenAttempt.{PassTokenAttempt}
use Rattle.station.specs.declared.state.PassTokenAttempt.TheVariants.{First}
use Rattle.station.specs.declared.state.State.{State}
use Rattle.station.specs.declared.state.State.TheVariants.{PassToken}
use Rattle.station.specs.declared.parts.Core.{Core}
use Rattle.station.specs.declared.parts.Counts.{Counts}
use Rattle.station.specs.declared.station.Station.{Station}
use Rattle.station.specs.Whole.{RingStep}
use Rattle.station.specs.Parts.{is_offline, state_number}
use Rattle.station.specs.Steps.{ongoing_of, bus_activity_of, done_of, ring_step_of}
use Rattle.station_poll.specs.Poll.{connected_of, entered_of, poll_online, poll_inner, accepted_after, accepted_poll, poll_of}
use Rattle.station_answer.specs.Counted.{counted_of}
use Rattle.station_answer.specs.Answer.{Polled, polled_of, step_answer}
use Rattle.theorem_silence.specs.Silence.{Start, Quiet, AllQuiet, holds_token, until, told, sent_until, counted, counted_in, slot_after, Theorem}
use Rattle.theorem_silence.specs.Times.{Slotted, slotted}
use Rattle.theorem_silence.specs.Phases.{Phase, asking, awaiting, starting, checking, claiming, holding, next, next_sent, todo, end_ring, Under, advance}
use Rattle.theorem_silence.proofs.Phases.{told_next, under_or_held, todo_next, todo_some, tokens_length, end_advance, ring_after}
use Rattle.theorem_silence.specs.OnePoll.{At, Sends, Turn, sends, stays, quiet_step}
use Rattle.theorem_silence.proofs.OnePoll.{ready_at, turn}
use Rattle.theorem_silence.specs.Theorem.{station_of, clock_of, RunFrom}

-- an online station leaves Offline and PassiveIdle first
pub inner_online : (p : Parameters) (s : State) (c : Core) (r : Ring) (now : Micros) (transmitting : Bool) (pending : ℕ) (bytes : List ℕ) (n count : ℕ) → c.connectivity_state ≡ connectivity.Online → poll_inner p s c r now transmitting pending bytes n count ≡ poll_online p (connected_of s) c r now transmitting pending bytes n count
unfolding poll_inner is_offline entered_of
inner_online p s c r now transmitting pending bytes n count on =
    ap (λ (v : ConnectivityState). cond (is_offline v) (ring_step_of (done_of s c outcome.Offline) r) (poll_online p (entered_of v s) c r now transmitting pending bytes n count)) on

-- a silent poll of an online station is the silent step
online_quiet : (p : Parameters) (s : State) (c : Core) (r : Ring) (now : Micros) (bytes : List ℕ) (n : ℕ) → poll_online p s c r now false 0 bytes n 0 ≡ quiet_step p s c r now bytes n
unfolding poll_online bus_activity_of ongoing_of quiet_step
online_quiet p s c r now bytes n = rw (le-ltb c.pending_bytes 0 (omega arith))

inner_quiet : (p : Parameters) (s : State) (c : Core) (r : Ring) (now : Micros) (bytes : List ℕ) (n : ℕ) → c.connectivity_state ≡ connectivity.Online → poll_inner p s c r now false 0 bytes n 0 ≡ quiet_step p (connected_of s) c r now bytes n
inner_quiet p s c r now bytes n on = inner_online p s c r now false 0 bytes n 0 on ∙ online_quiet p (connected_of s) c r now bytes n

pub poll_quiet : (p : Parameters) (n : ℕ) (ks : Counts) (s : State) (c : Core) (r : Ring) (bytes : List ℕ) → Quiet n bytes → c.connectivity_state ≡ connectivity.Online → poll_of (station_of p n ks s c r) bytes ≡ polled_of p n ks (quiet_step p (connected_of s) c r (clock_of bytes) bytes n)
unfolding poll_of accepted_poll accepted_after
poll_quiet p n ks s c r bytes q on =
    rw (eq-eqb _ _ q.accepted, q.no_telegram, q.no_pending, q.no_transmission) (ap (polled_of p n ks) (inner_quiet p s c r (clock_of bytes) bytes n on))

pub poll_is : (p : Parameters) (n : ℕ) (ks : Counts) (s : State) (c : Core) (r : Ring) (bytes : List ℕ) → Quiet n bytes → c.connectivity_state ≡ connectivity.Online → connected_of s ≡ s → poll_of (station_of p n ks s c r) bytes ≡ polled_of p n ks (quiet_step p s c r (clock_of bytes) bytes n)
poll_is p n ks s c r bytes q on out = poll_quiet p n ks s c r bytes q on ∙ ap (λ (x : State). polled_of p n ks (quiet_step p x c r (clock_of bytes) bytes n)) out

-- the states of all places have left Offline
pub connected_pass : (s : State) (gap : Bool) (k : PassTokenAttempt) → s ≡ PassToken gap k → connected_of s ≡ s
unfolding connected_of
connected_pass s gap k e = ap connected_of e ∙ sym e

pub connected_at : (ph : Phase) (p : Parameters) (s : State) (c : Core) (r : Ring) → At ph p s c r → connected_of s ≡ s
unfolding connected_of
connected_at (asking a os) p s c r g = connected_pass s true _ g.1.passing
connected_at (awaiting os) p s c r g = ap connected_of g.1.awaiting_it ∙ sym g.1.awaiting_it
connected_at (starting k os) p s c r g = connected_pass s g.1.gap k g.1.passing
connected_at (checking k os) p s c r g = ap connected_of g.1 ∙ sym g.1
connected_at (claiming first os) p s c r g = ap connected_of g.1 ∙ sym g.1
connected_at (holding os) p s c r g = ap connected_of g.1.held ∙ sym g.1.held

-- a silent poll of a station at a place, told by the silent step
pub poll_at : (ph : Phase) (p : Parameters) (n : ℕ) (ks : Counts) (s : State) (c : Core) (r : Ring) (bytes : List ℕ) → Quiet n bytes → At ph p s c r → poll_of (station_of p n ks s c r) bytes ≡ polled_of p n ks (quiet_step p s c r (clock_of bytes) bytes n)
poll_at ph p n ks s c r bytes q g = poll_is p n ks s c r bytes q (ready_at ph p s c r g).on (connected_at ph p s c r g)

-- a turn that is counted sends
pub counted_sends : (p : Parameters) (bytes : List ℕ) (ph : Phase) (counts : Bool) (x : RingStep) → counts ≡ true → Turn p (clock_of bytes) ph counts x → Sends p (clock_of bytes) (next_sent p.address ph) (next ph) x
counted_sends p bytes ph counts x e (sends g) = g
counted_sends p bytes ph counts x e (stays f g) = absurd (true≢false (sym e ∙ f))

-- and leads to the next place
pub counted_moves : (ph : Phase) (s : Station) (bytes : List ℕ) → Slotted s.p → Quiet s.applications bytes → Under ph → At ph s.p s.state s.core s.token_ring → counted s bytes ≡ true → At (next ph) s.p (poll_of s bytes).station.state (poll_of s bytes).station.core (poll_of s bytes).station.token_ring
unfolding counted polled_of
counted_moves ph s bytes w q u g e =
    let p = s.p in
    let moved = counted_sends p bytes ph _ _ e (turn p w s.state s.core s.token_ring (clock_of bytes) bytes s.applications ph u g) in
    subst (λ (y : Polled). At (next ph) p y.station.state y.station.core y.station.token_ring) (sym (poll_at ph p s.applications s.counts s.state s.core s.token_ring bytes q g)) moved.place

-- a station holds the token exactly at the last place
number_not_three : (ph : Phase) (p : Parameters) (s : State) (c : Core) (r : Ring) → Under ph → At ph p s c r → eqb (state_number s) 3 ≡ false
number_not_three (asking a os) p s c r u g = ap (λ (x : State). eqb (state_number x) 3) g.1.passing
number_not_three (awaiting os) p s c r u g = ap (λ (x : State). eqb (state_number x) 3) g.1.awaiting_it
number_not_three (starting k os) p s c r u g = ap (λ (x : State). eqb (state_number x) 3) g.1.passing
number_not_three (checking k os) p s c r u g = ap (λ (x : State). eqb (state_number x) 3) g.1
number_not_three (claiming first os) p s c r u g = ap (λ (x : State). eqb (state_number x) 3) g.1
number_not_three (holding os) p s c r u g = absurd u

not_holding : (ph : Phase) (p : Parameters) (n : ℕ) (ks : Counts) (s : State) (c : Core) (r : Ring) → Under ph → At ph p s c r → holds_token (station_of p n ks s c r) ≡ false
unfolding holds_token
not_holding ph p n ks s c r u g = number_not_three ph p s c r u g

pub is_holding : (os : List ℕ) (p : Parameters) (n : ℕ) (ks : Counts) (s : State) (c : Core) (r : Ring) → At (holding os) p s c r → holds_token (station_of p n ks s c r) ≡ true
unfolding holds_token
is_holding os p n ks s c r a = ap (λ (x : State). eqb (state_number x) 3) a.1.held

-- a poll of a run counts or not
pub counted_on : (p : Parameters) (n : ℕ) (ks : Counts) (s : State) (c : Core) (r : Ring) (bytes : List ℕ) (later : List (List ℕ)) (x : RingStep) → poll_of (station_of p n ks s c r) bytes ≡ polled_of p n ks x → counted_in (station_of p n ks s c r) (bytes ∷ later) ≡ cond (slot_after c.last_bus_activity (head_of bytes).clock (slot_time_of p).0) 1 0 + counted_in (station_of p n (counted_of ks x.step.event) x.step.state x.step.core x.ring) later
unfolding counted_in counted polled_of
counted_on p n ks s c r bytes later x is = rw is

-- a run that does not start with the token held goes on with its first poll
module _ (p : Parameters) (n : ℕ) (ks : Counts) (s : State) (c : Core) (r : Ring) (bytes : List ℕ) (later : List (List ℕ)) (x : RingStep) (out : holds_token (station_of p n ks s c r) ≡ false) (is : poll_of (station_of p n ks s c r) bytes ≡ polled_of p n ks x) where
  pub until_on : until (station_of p n ks s c r) (bytes ∷ later) ≡ until (station_of p n (counted_of ks x.step.event) x.step.state x.step.core x.ring) later
  unfolding until polled_of
  until_on = rw (out, is)

  pub sent_on : sent_until (station_of p n ks s c r) (bytes ∷ later) ≡ told x.step.sent ++ sent_until (station_of p n (counted_of ks x.step.event) x.step.state x.step.core x.ring) later
  unfolding sent_until polled_of step_answer
  sent_on = rw (out, is)

-- once the token is held the run is over
until_held : (s : Station) (records : List (List ℕ)) → holds_token s ≡ true → until s records ≡ s
unfolding until
until_held s [] e = refl
until_held s (bytes ∷ later) e = rw e

sent_held : (s : Station) (records : List (List ℕ)) → holds_token s ≡ true → sent_until s records ≡ []
unfolding sent_until
sent_held s [] e = refl
sent_held s (bytes ∷ later) e = rw e

-- an empty list
empty_length : (l : List Sent) → length l ≤ 0 → l ≡ []
empty_length [] h = refl
empty_length (x ∷ l) h = absurd (omega arith)

-- a poll counts for at most one
pub one_less : (counts : Bool) (left polls : ℕ) → suc left ≤ cond counts 1 0 + polls → left ≤ polls
one_less true left polls l = omega arith
one_less false left polls l = omega arith

-- What a run from a place comes to, by what it sends, the station at its end and the counted polls: as many tokens as it sends it
-- has gone on from place to place; what it sends and what is then still to be sent is what was to be sent; and enough counted polls
-- lead to the token.
record Ran (p : Parameters) (ph : Phase) (out : List Sent) (end : Station) (polls : ℕ) : Type 0 where
  pub reached : At (advance (length out) ph) p end.state end.core end.token_ring
  pub so_far : out ++ todo p.address (advance (length out) ph) ≡ todo p.address ph
  pub in_time : length (todo p.address ph) ≤ polls → holds_token end ≡ true
  pub same_parts : end ≡ station_of p end.applications end.counts end.state end.core end.token_ring

-- the run of a list of records
abbrev RanOn : Parameters → Phase → Station → List (List ℕ) → Type 0
RanOn p ph s records = Ran p ph (sent_until s records) (until s records) (counted_in s records)

ran_holding : (os : List ℕ) (p : Parameters) (n : ℕ) (ks : Counts) (s : State) (c : Core) (r : Ring) (records : List (List ℕ)) → At (holding os) p s c r → RanOn p (holding os) (station_of p n ks s c r) records
unfolding advance
ran_holding os p n ks s c r records a =
    let held = is_holding os p n ks s c r a in
    let s₀ = station_of p n ks s c r in
    rw (until_held s₀ records held, sent_held s₀ records held)
    (record { reached = a; so_far = refl; in_time = λ l. held; same_parts = refl })

-- no poll: nothing is sent
ran_none : (ph : Phase) (p : Parameters) (n : ℕ) (ks : Counts) (s : State) (c : Core) (r : Ring) → Under ph → At ph p s c r → RanOn p ph (station_of p n ks s c r) []
unfolding advance sent_until until counted_in
ran_none ph p n ks s c r u a =
    record {
      reached = a;
      so_far = refl;
      in_time = λ l. absurd (todo_some p.address ph u (empty_length (todo p.address ph) l));
      same_parts = refl;
    }

-- a poll that stays
ran_stays : (p : Parameters) (ph : Phase) (x : Sent) (out : List Sent) (end : Station) (counts : Bool) (polls : ℕ) → x ≡ sent.Nothing → counts ≡ false → Ran p ph out end polls → Ran p ph (told x ++ out) end (cond counts 1 0 + polls)
ran_stays p ph x out end counts polls e f g = rw (e, f, zero-add polls) g

-- a poll that sends the next token
ran_sends : (p : Parameters) (ph : Phase) (x : Sent) (out : List Sent) (end : Station) (counts : Bool) (polls : ℕ) → Under ph → x ≡ next_sent p.address ph → Ran p (next ph) out end polls → Ran p ph (told x ++ out) end (cond counts 1 0 + polls)
unfolding advance
ran_sends p ph x out end counts polls u e g =
    rw (e, told_next p.address ph)
    (record {
      reached = g.reached;
      so_far = ap (λ (l : List Sent). next_sent p.address ph ∷ l) g.so_far ∙ sym (todo_next p.address ph u);
      in_time = λ l. g.in_time (one_less counts (length (todo p.address (next ph))) polls (rw (todo_next p.address ph u) at l));
      same_parts = g.same_parts;
    })

-- one poll, and a run from wherever it leads
module _ (ph : Phase) (p : Parameters) (w : Slotted p) (n : ℕ) (ks : Counts) (s : State) (c : Core) (r : Ring) (bytes : List ℕ) (later : List (List ℕ)) (u : Under ph) (a : At ph p s c r) (q : Quiet n bytes) (then : (to : Phase) (ms : Counts) (y : State) (d : Core) (t : Ring) → At to p y d t → RanOn p to (station_of p n ms y d t) later) where
  -- the step, and whether the poll is counted
  abbrev the_step : RingStep
  the_step = quiet_step p s c r (clock_of bytes) bytes n

  abbrev is_counted : Bool
  is_counted = slot_after c.last_bus_activity (head_of bytes).clock (slot_time_of p).0

  abbrev after_it : Station
  after_it = station_of p n (counted_of ks the_step.step.event) the_step.step.state the_step.step.core the_step.ring

  by_turn : Turn p (clock_of bytes) ph is_counted the_step → Ran p ph (told the_step.step.sent ++ sent_until after_it later) (until after_it later) (cond is_counted 1 0 + counted_in after_it later)
  by_turn (sends g) = ran_sends p ph _ _ _ is_counted _ u g.telegram (then (next ph) _ _ _ _ g.place)
  by_turn (stays f g) = ran_stays p ph _ _ _ is_counted _ g.nothing f (then ph _ _ _ _ g.place)

  ran_poll : RanOn p ph (station_of p n ks s c r) (bytes ∷ later)
  ran_poll =
      let out = not_holding ph p n ks s c r u a in
      let is = poll_at ph p n ks s c r bytes q a in
      rw (sent_on p n ks s c r bytes later the_step out is, until_on p n ks s c r bytes later the_step out is, counted_on p n ks s c r bytes later the_step is)
      (by_turn (turn p w s c r (clock_of bytes) bytes n ph u a))

-- once the token is held the run stays there
ran_held : (ph : Phase) (os : List ℕ) → ph ≡ holding os → (p : Parameters) (n : ℕ) (ks : Counts) (s : State) (c : Core) (r : Ring) (records : List (List ℕ)) → At ph p s c r → RanOn p ph (station_of p n ks s c r) records
ran_held ph os e p n ks s c r records = subst (λ (x : Phase). At x p s c r → RanOn p x (station_of p n ks s c r) records) (sym e) (ran_holding os p n ks s c r records)

-- from any place: no poll, and one poll with a run from wherever it leads
ran_end : (ph : Phase) (p : Parameters) (n : ℕ) (ks : Counts) (s : State) (c : Core) (r : Ring) → At ph p s c r → RanOn p ph (station_of p n ks s c r) []
ran_end ph p n ks s c r a = go (under_or_held ph)
  where
    go : Under ph ⊎ (ph ≡ holding (end_ring ph)) → RanOn p ph (station_of p n ks s c r) []
    go (inl u) = ran_none ph p n ks s c r u a
    go (inr e) = ran_held ph _ e p n ks s c r [] a

ran_on : (ph : Phase) (p : Parameters) → Slotted p → (n : ℕ) (ks : Counts) (s : State) (c : Core) (r : Ring) (bytes : List ℕ) (later : List (List ℕ)) → At ph p s c r → Quiet n bytes → ((to : Phase) (ms : Counts) (y : State) (d : Core) (t : Ring) → At to p y d t → RanOn p to (station_of p n ms y d t) later) → RanOn p ph (station_of p n ks s c r) (bytes ∷ later)
ran_on ph p w n ks s c r bytes later a q then = go (under_or_held ph)
  where
    go : Under ph ⊎ (ph ≡ holding (end_ring ph)) → RanOn p ph (station_of p n ks s c r) (bytes ∷ later)
    go (inl u) = ran_poll ph p w n ks s c r bytes later u a q then
    go (inr e) = ran_held ph _ e p n ks s c r (bytes ∷ later) a

-- any list of silent polls, from any place
ran : (records : List (List ℕ)) (p : Parameters) → Slotted p → (n : ℕ) → AllQuiet n records → (ph : Phase) (ks : Counts) (s : State) (c : Core) (r : Ring) → At ph p s c r → RanOn p ph (station_of p n ks s c r) records
ran [] p w n q ph ks s c r a = ran_end ph p n ks s c r a
ran (bytes ∷ later) p w n q ph ks s c r a = ran_on ph p w n ks s c r bytes later a q.0 (λ to ms y d t b. ran later p w n q.1 to ms y d t b)

-- the token is held exactly where nothing is still to be sent, and then the station is at the last place
module _ (ph : Phase) (p : Parameters) (n : ℕ) (ks : Counts) (s : State) (c : Core) (r : Ring) (a : At ph p s c r) where
  held_there : holds_token (station_of p n ks s c r) ≡ true → ph ≡ holding (end_ring ph)
  held_there e = go (under_or_held ph)
    where
      go : Under ph ⊎ (ph ≡ holding (end_ring ph)) → ph ≡ holding (end_ring ph)
      go (inl u) = absurd (true≢false (sym e ∙ not_holding ph p n ks s c r u a))
      go (inr i) = i

  none_left : holds_token (station_of p n ks s c r) ≡ true → todo p.address ph ≡ []
  none_left e = ap (todo p.address) (held_there e)

  at_holding : holds_token (station_of p n ks s c r) ≡ true → At (holding (end_ring ph)) p s c r
  at_holding e = subst (λ (x : Phase). At x p s c r) (held_there e) a

  some_left_there : holds_token (station_of p n ks s c r) ≡ false → todo p.address ph ≡ [] → ⊥
  some_left_there e = go (under_or_held ph)
    where
      go : Under ph ⊎ (ph ≡ holding (end_ring ph)) → todo p.address ph ≡ [] → ⊥
      go (inl u) z = todo_some p.address ph u z
      go (inr i) z = true≢false (sym (is_holding (end_ring ph) p n ks s c r (subst (λ (x : Phase). At x p s c r) i a)) ∙ e)

pub run_from_lem : (ph : Phase) (s : Station) (records : List (List ℕ)) → Slotted s.p → AllQuiet s.applications records → At ph s.p s.state s.core s.token_ring → RunFrom s.p ph s records
run_from_lem ph s records w q a =
    let p = s.p in
    let g = ran records p w s.applications q ph s.counts s.state s.core s.token_ring a in
    let end = until s records in
    let to = advance (length (sent_until s records)) ph in
    let here : (b : Bool) → holds_token end ≡ b → holds_token (station_of p end.applications end.counts end.state end.core end.token_ring) ≡ b = λ b. subst (λ (x : Station). holds_token x ≡ b) g.same_parts in
    record {
      rest = todo p.address to;
      sends_of = g.so_far;
      all_of = λ e. none_left to p end.applications end.counts end.state end.core end.token_ring g.reached (here true e);
      some_of = λ e. some_left_there to p end.applications end.counts end.state end.core end.token_ring g.reached (here false e);
      bound_of = g.in_time;
      left_of = (ready_at to p end.state end.core end.token_ring g.reached).are;
      held_at = λ e. subst (λ (os : List ℕ). At (holding os) p end.state end.core end.token_ring) (end_advance (length (sent_until s records)) ph)
          (at_holding to p end.applications end.counts end.state end.core end.token_ring g.reached (here true e));
    }

-- a station that starts a token pass is at the first place of one
pub started : (s : Station) → Start s → At (starting First (others s.token_ring)) s.p s.state s.core s.token_ring
started s h = (
  record { on = h.not_offline; ring_good = record { sound = h.sound.ring_sound; own = h.sound.own_is }; are = refl },
  record { gap = h.gap; passing = h.passing; no_question = h.no_question },
)

-- its run
pub run_of : (s : Station) (records : List (List ℕ)) → Start s → AllQuiet s.applications records → RunFrom s.p (starting First (others s.token_ring)) s records
run_of s records h q = run_from_lem _ s records (slotted s.p h.settings) q (started s h)

-- the theorem
pub silence : Theorem
silence s records h q =
    let os = others s.token_ring in
    let g = run_of s records h q in
    record {
      rest = g.rest;
      sends = g.sends_of;
      all_sent = g.all_of;
      some_left = g.some_of;
      removes = g.left_of ∙ ring_after os (length (sent_until s records));
      bound = λ l. g.bound_of (rw (tokens_length os s.p.address) l);
    }
