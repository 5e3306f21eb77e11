-- One silent poll at each place: the station stays where it is, or sends the one telegram that is next.
use Rattle.std.specs.Prelude.{ℕ, Bool, true, false, ◌≡◌, List, [], ◌∷◌, Option}
use Rattle.std.proofs.Math.Path.{refl, ap}
use Rattle.std.proofs.Common.{sym, ◌∙◌}
use borrow.Table.Steps.{cases}
use Rattle.bit_times.specs.declared.micros.Micros.{Micros}
use Rattle.settings.specs.declared.parameters.Parameters.{Parameters}
use Rattle.settings.specs.Settings.{slot_time_of}
use Rattle.ring_addresses.specs.Set.{head_or}
use Rattle.ring_addresses.specs.SetLaws.{true≢false}
use Rattle.ring.specs.declared.GapState.{GapState}
use Rattle.ring.specs.declared.GapState.TheVariants.{Waiting, DoPoll}
use Rattle.ring.specs.Ring.{Ring, others, next_of, witness_of, remove_of, claim_of}
use Rattle.ring.proofs.Laws.{next_is, next_alone, others_witness, others_remove, others_claim}
use Rattle.codec_answers.specs.declared.Sent.{Sent}
use Rattle.codec_answers.specs.declared.Sent.TheVariants as sent
use Rattle.station.specs.declared.state.PassTokenAttempt.{PassTokenAttempt}
use Rattle.station.specs.declared.state.PassTokenAttempt.TheVariants.{First, Second, Third}
use Rattle.station.specs.declared.state.State.{State}
use Rattle.station.specs.declared.state.State.TheVariants.{ClaimToken, PassToken, CheckTokenPass, AwaitStatusResponse}
use Rattle.station.specs.declared.parts.Core.{Core}
use Rattle.station.specs.declared.done.Event.{Event}
use Rattle.station.specs.Whole.{RingStep}
use Rattle.station.specs.Parts.{with_activity, with_gap}
use Rattle.station.specs.Steps.{busy_of, waited_of, pause_of, slot_expired_of, done_of, transmit_of, with_event}
use Rattle.station_claim.specs.Claim.{claim_next, claim_token_of}
use Rattle.station_pass.specs.Pass.{gap_advanced, destination_of, pass_sent_on, pass_send, pass_poll_on, pass_poll, pass_token_of}
use Rattle.station_pass.specs.Laws.{destination_is, removed_alone}
use Rattle.station_await_status.specs.AwaitStatus.{await_status_of}
use Rattle.station_check_pass.specs.CheckPass.{resend_of, check_received, check_token_pass_of}
use Rattle.station_poll.specs.Poll.{dispatch_of}
use Rattle.theorem_sound.specs.Keeps.{witness_good, remove_good, claim_good}
use Rattle.theorem_silence.specs.Silence.{asks_on, gap_due, slot_after}
use Rattle.theorem_silence.specs.Times.{Slotted, counted_free, counted_paused, counted_expired, expired_paused}
use Rattle.theorem_silence.specs.Phases.{Phase, asking, awaiting, starting, checking, claiming, holding, sent_to, behind, next, next_sent, in_ring, Under}
use Rattle.theorem_silence.specs.OnePoll.{Ready, Asking, Passing, At, Sends, Stays, Turn, sends, stays, Due, quiet_step}

pub ready_at : (ph : Phase) (p : Parameters) (s : State) (c : Core) (r : Ring) → At ph p s c r → Ready p c r (in_ring ph)
ready_at (asking a os) p s c r g = g.0
ready_at (awaiting os) p s c r g = g.0
ready_at (starting attempt os) p s c r g = g.0
ready_at (checking attempt os) p s c r g = g.0
ready_at (claiming first os) p s c r g = g.0
ready_at (holding os) p s c r g = g.0

-- whom the token is passed to: the first of the others, ourselves if there is none
goes_to : (p : Parameters) (c : Core) (r : Ring) (os : List ℕ) → Ready p c r os → destination_of p.address (next_of r) ≡ head_or p.address os
goes_to p c r os w =
    let g = w.ring_good in
    destination_is r p.address g.sound g.own ∙ ap (λ (o : ℕ). head_or o (others r)) g.own ∙ ap (head_or p.address) w.are

-- a pass that the ring has witnessed: if there is then nobody else the token is held, else the pass is checked
held_now : (p : Parameters) (c : Core) (now : Micros) (k : PassTokenAttempt) (to own : ℕ) (seen : Ring) → to ≡ own → Ready p c seen [] → Sends p now (sent.Token own) (holding []) (pass_sent_on (next_of seen) p c now k to seen)
unfolding pass_sent_on transmit_of with_activity
held_now p c now k to own seen e w =
    let g = w.ring_good in
    rw (next_alone seen g.sound w.are)
    (record { telegram = ap sent.Token e; marks = refl; place = (record { on = w.on; ring_good = g; are = w.are }, record { since = now; held = refl }) })

checked_now : (p : Parameters) (c : Core) (now : Micros) (k : PassTokenAttempt) (to x : ℕ) (more : List ℕ) (seen : Ring) → to ≡ x → Ready p c seen (x ∷ more) → Sends p now (sent.Token x) (checking k (x ∷ more)) (pass_sent_on (next_of seen) p c now k to seen)
unfolding pass_sent_on transmit_of with_activity
checked_now p c now k to x more seen e w =
    let g = w.ring_good in
    rw (next_is seen x more g.sound w.are)
    (record { telegram = ap sent.Token e; marks = refl; place = (record { on = w.on; ring_good = g; are = w.are }, refl) })

-- the ring once it has witnessed the pass: the others stay
seen_ready : (p : Parameters) (c : Core) (r : Ring) (os : List ℕ) → Ready p c r os → Ready p c (witness_of r p.address (destination_of p.address (next_of r))) os
seen_ready p c r os w =
    let g = w.ring_good in
    let to = destination_of p.address (next_of r) in
    record {
      on = w.on;
      ring_good = witness_good p r p.address to g;
      are =
          ap (λ (a : ℕ). others (witness_of r a to)) (sym g.own)
          ∙ ap (λ (a : ℕ). others (witness_of r r.own a)) (destination_is r p.address g.sound g.own)
          ∙ others_witness r g.sound
          ∙ w.are;
    }

-- a token that is sent goes to the first of the others; with none it goes to ourselves and is held
first_sent : (p : Parameters) (c : Core) (r : Ring) (now : Micros) (k : PassTokenAttempt) (os : List ℕ) → Ready p c r os → Sends p now (sent.Token (head_or p.address os)) (sent_to k os) (pass_send p c r now k)
unfolding pass_send
first_sent p c r now k [] w = held_now p c now k _ p.address _ (goes_to p c r [] w) (seen_ready p c r [] w)
first_sent p c r now k (x ∷ more) w = checked_now p c now k _ x more _ (goes_to p c r (x ∷ more) w) (seen_ready p c r (x ∷ more) w)

-- parts of the station that these places do not look at
pub active_ready : (p : Parameters) (c : Core) (r : Ring) (os : List ℕ) (a : Option Micros) → Ready p c r os → Ready p (with_activity c a) r os
unfolding with_activity
active_ready p c r os a w = record { on = w.on; ring_good = w.ring_good; are = w.are }

gap_ready : (p : Parameters) (c : Core) (r : Ring) (os : List ℕ) (g : GapState) → Ready p c r os → Ready p (with_gap c g) r os
unfolding with_gap
gap_ready p c r os g w = record { on = w.on; ring_good = w.ring_good; are = w.are }

claim_ready : (p : Parameters) (c : Core) (r : Ring) (os : List ℕ) → Ready p c r os → Ready p c (claim_of r) os
claim_ready p c r os w = record { on = w.on; ring_good = claim_good p r w.ring_good; are = others_claim r ∙ w.are }

-- so also once the last activity is known
pub known_ready : (p : Parameters) (c : Core) (r : Ring) (os : List ℕ) (now time : Micros) → Ready p c r os → Ready p (waited_of c now time).core r os
unfolding waited_of
known_ready p c r os now time w = active_ready p c r os _ w

-- a station at a place is there whatever its last activity
pub active_at : (ph : Phase) (p : Parameters) (s : State) (c : Core) (r : Ring) (a : Option Micros) → At ph p s c r → At ph p s (with_activity c a) r
unfolding with_activity gap_due
active_at (asking x os) p s c r a g = (active_ready p c r os a g.0, record { attempt = g.1.attempt; passing = g.1.passing; question = g.1.question })
active_at (awaiting os) p s c r a g = (active_ready p c r os a g.0, g.1)
active_at (starting k os) p s c r a g = (active_ready p c r os a g.0, record { gap = g.1.gap; passing = g.1.passing; no_question = g.1.no_question })
active_at (checking k os) p s c r a g = (active_ready p c r os a g.0, g.1)
active_at (claiming first os) p s c r a g = (active_ready p c r os a g.0, g.1)
active_at (holding os) p s c r a g = (active_ready p c r os a g.0, g.1)

-- with no question due the token is sent
unasked : (g : GapState) (p : Parameters) (c : Core) (r : Ring) (now : Micros) (k : PassTokenAttempt) → asks_on g ≡ false → pass_poll_on g p c r now k ≡ pass_send p c r now k
unfolding pass_poll_on
unasked (Waiting count) p c r now k e = refl
unasked (DoPoll current) p c r now k e = absurd (true≢false e)

-- a pass whose pause is over: the token is sent
paused_sent : (p : Parameters) (c : Core) (r : Ring) (now : Micros) (gap : Bool) (k : PassTokenAttempt) (os : List ℕ) → Ready p c r os → gap_due p c r gap ≡ false → (pause_of p c now).over ≡ true → Sends p now (sent.Token (head_or p.address os)) (sent_to k os) (pass_token_of p c r now gap k)
unfolding pass_token_of pause_of pass_poll gap_due with_gap
paused_sent p c r now true k os w due e =
    let advanced = gap_advanced p r c.gap_state in
    let waited = (pause_of p c now).core in
    rw (e, unasked advanced p (with_gap waited advanced) r now k due) (first_sent p _ r now k os (gap_ready p _ r os _ (known_ready p c r os now _ w)))
paused_sent p c r now false k os w due e = rw e (first_sent p _ r now k os (known_ready p c r os now _ w))

-- or the question, where one is due
pub asked_step : (p : Parameters) (c : Core) (r : Ring) (now : Micros) (k : PassTokenAttempt) (a : ℕ) → gap_advanced p r c.gap_state ≡ DoPoll a → (pause_of p c now).over ≡ true → pass_token_of p c r now true k ≡ pass_poll_on (DoPoll a) p (with_gap (pause_of p c now).core (DoPoll a)) r now k
unfolding pass_token_of pass_poll with_gap
asked_step p c r now k a due e = rw (e, due)

asked_now : (p : Parameters) (c : Core) (r : Ring) (now : Micros) (k : PassTokenAttempt) (a : ℕ) (os : List ℕ) → Ready p c r os → Sends p now (sent.StatusRequest a) (awaiting os) (pass_poll_on (DoPoll a) p c r now k)
unfolding pass_poll_on transmit_of with_activity
asked_now p c r now k a os w = record { telegram = refl; marks = refl; place = (active_ready p c r os _ w, record { address = a; awaiting_it = refl }) }

paused_asked : (p : Parameters) (c : Core) (r : Ring) (now : Micros) (k : PassTokenAttempt) (a : ℕ) (os : List ℕ) → Ready p c r os → gap_advanced p r c.gap_state ≡ DoPoll a → (pause_of p c now).over ≡ true → Sends p now (sent.StatusRequest a) (awaiting os) (pass_token_of p c r now true k)
unfolding pause_of
paused_asked p c r now k a os w due e =
    rw (asked_step p c r now k a due e) (asked_now p _ r now k a os (gap_ready p _ r os _ (known_ready p c r os now _ w)))

pub due_whom : (p : Parameters) (c : Core) (r : Ring) (gap : Bool) → gap_due p c r gap ≡ true → Due p c r gap
unfolding gap_due
due_whom p c r true e = go (gap_advanced p r c.gap_state) refl e
  where
    go : (g : GapState) → gap_advanced p r c.gap_state ≡ g → asks_on g ≡ true → Due p c r true
    go (Waiting count) i e = absurd (true≢false (sym e))
    go (DoPoll a) i e = record { whom = a; looks = refl; is_due = i }
due_whom p c r false e = absurd (true≢false (sym e))

-- a pass whose pause is not over: nothing is sent and the station stays
unpaused : (p : Parameters) (c : Core) (r : Ring) (now : Micros) (gap : Bool) (k : PassTokenAttempt) (ph : Phase) → At ph p (PassToken gap k) c r → (pause_of p c now).over ≡ false → Stays p ph (pass_token_of p c r now gap k)
unfolding pass_token_of pause_of waited_of done_of
unpaused p c r now gap k ph g e = rw e (record { nothing = refl; place = active_at ph p (PassToken gap k) c r _ g })

-- a claim whose pause is over: the token goes to ourselves
pub claim_sent : (p : Parameters) (c : Core) (r : Ring) (now : Micros) (first : Bool) (os : List ℕ) → Ready p c r os → (pause_of p c now).over ≡ true → Sends p now (sent.Token p.address) (next (claiming first os)) (claim_token_of p c r now first)
unfolding claim_token_of claim_next pause_of transmit_of with_activity
claim_sent p c r now true os w e =
    rw e (record { telegram = refl; marks = refl; place = (active_ready p _ _ os _ (claim_ready p _ r os (known_ready p c r os now _ w)), refl) })
claim_sent p c r now false os w e =
    rw e (record { telegram = refl; marks = refl; place = (active_ready p _ _ os _ (claim_ready p _ r os (known_ready p c r os now _ w)), record { since = now; held = refl }) })

claim_waits : (p : Parameters) (c : Core) (r : Ring) (now : Micros) (first : Bool) (os : List ℕ) → Ready p c r os → (pause_of p c now).over ≡ false → Stays p (claiming first os) (claim_token_of p c r now first)
unfolding claim_token_of pause_of done_of
claim_waits p c r now first os w e = rw e (record { nothing = refl; place = (known_ready p c r os now _ w, refl) })

-- a pass without a look at the gap has no question due
pub no_gap : (p : Parameters) (c : Core) (r : Ring) → gap_due p c r false ≡ false
unfolding gap_due
no_gap p c r = refl

-- a token that is sent again, or, after the third, to the next station behind the one that is taken out: the pause is over
pub again : (p : Parameters) (c : Core) (r : Ring) (now : Micros) (k : PassTokenAttempt) (os : List ℕ) → Ready p c r os → (pause_of p c now).over ≡ true → Sends p now (sent.Token (head_or p.address os)) (sent_to k os) (pass_token_of p c r now false k)
again p c r now k os w e = paused_sent p c r now false k os w (no_gap p c r) e

-- the first of the others is taken out, nobody if there is none
without_first : (p : Parameters) (c : Core) (r : Ring) (os : List ℕ) → Ready p c r os → others (remove_of r (destination_of p.address (next_of r))) ≡ behind os
without_first p c r [] w =
    let g = w.ring_good in
    ap others (removed_alone r p.address g.sound g.own w.are) ∙ w.are
without_first p c r (x ∷ more) w =
    ap (λ (a : ℕ). others (remove_of r a)) (goes_to p c r (x ∷ more) w) ∙ others_remove r x more w.ring_good.sound w.are

taken_out : (p : Parameters) (c : Core) (r : Ring) (os : List ℕ) → Ready p c r os → Ready p c (remove_of r (destination_of p.address (next_of r))) (behind os)
taken_out p c r os w = record { on = w.on; ring_good = remove_good p r _ w.ring_good; are = without_first p c r os w }

-- what is counted of a step changes nothing of what it sends and where it leads
pub counted_too : {p : Parameters} {now : Micros} {out : Sent} {ph : Phase} (x : RingStep) (e : Event) → Sends p now out ph x → Sends p now out ph (with_event x e)
unfolding with_event
counted_too x e g = record { telegram = g.telegram; marks = g.marks; place = g.place }

pub resent : (k : PassTokenAttempt) (p : Parameters) (c : Core) (r : Ring) (now : Micros) (os : List ℕ) → Ready p c r os → (pause_of p c now).over ≡ true → Sends p now (next_sent p.address (checking k os)) (next (checking k os)) (resend_of p c r now k)
unfolding resend_of
resent First p c r now os w e = again p c r now Second os w e
resent Second p c r now os w e = again p c r now Third os w e
resent Third p c r now os w e = counted_too _ _ (again p c _ now First (behind os) (taken_out p c r os w) e)

-- What a silent poll comes to.

-- a test that would be true of a counted poll is false: the poll is not counted
pub not_counted : (counts test : Bool) → (counts ≡ true → test ≡ true) → test ≡ false → counts ≡ false
not_counted true test h e = absurd (true≢false (sym (h refl) ∙ e))
not_counted false test h e = refl

-- the same of a test that would be false
pub not_counted_busy : (counts test : Bool) → (counts ≡ true → test ≡ false) → test ≡ true → counts ≡ false
not_counted_busy true test h e = absurd (true≢false (sym e ∙ h refl))
not_counted_busy false test h e = refl

-- the state asks for a token pass
pub dispatch_pass : (p : Parameters) (s : State) (c : Core) (r : Ring) (now : Micros) (bytes : List ℕ) (n : ℕ) (gap : Bool) (k : PassTokenAttempt) → s ≡ PassToken gap k → dispatch_of p s c r now bytes n 0 ≡ pass_token_of p c r now gap k
unfolding dispatch_of
dispatch_pass p s c r now bytes n gap k e = ap (λ (x : State). dispatch_of p x c r now bytes n 0) e

module _ (p : Parameters) (w : Slotted p) (s : State) (c : Core) (r : Ring) (now : Micros) (bytes : List ℕ) (n : ℕ) where
  -- is the poll counted
  abbrev counts_here : Bool
  counts_here = slot_after c.last_bus_activity now.0 (slot_time_of p).0

  -- the state asks for a claim, whether the pass was taken up, whether the question was answered
  dispatch_claim : (first : Bool) → s ≡ ClaimToken first → dispatch_of p s c r now bytes n 0 ≡ claim_token_of p c r now first
  unfolding dispatch_of
  dispatch_claim first e = ap (λ (x : State). dispatch_of p x c r now bytes n 0) e

  dispatch_check : (k : PassTokenAttempt) → s ≡ CheckTokenPass k → dispatch_of p s c r now bytes n 0 ≡ check_token_pass_of p c r now k bytes n 0
  unfolding dispatch_of
  dispatch_check k e = ap (λ (x : State). dispatch_of p x c r now bytes n 0) e

  dispatch_await : (a : ℕ) → s ≡ AwaitStatusResponse a → dispatch_of p s c r now bytes n 0 ≡ await_status_of p c r now a bytes n 0
  unfolding dispatch_of
  dispatch_await a e = ap (λ (x : State). dispatch_of p x c r now bytes n 0) e

  -- what waits for the pause, or for the slot: with it over the next telegram is sent, before that nothing happens
  at_pause : (ph : Phase) (x : RingStep) → ((pause_of p c now).over ≡ true → Sends p now (next_sent p.address ph) (next ph) x) → ((pause_of p c now).over ≡ false → Stays p ph x) → Turn p now ph counts_here x
  at_pause ph x over not_yet = cases (pause_of p c now).over (λ e. sends (over e)) (λ e. stays (not_counted counts_here (pause_of p c now).over (counted_paused p w c now) e) (not_yet e))

  at_slot : (ph : Phase) (x : RingStep) → ((slot_expired_of p c now).over ≡ true → Sends p now (next_sent p.address ph) (next ph) x) → ((slot_expired_of p c now).over ≡ false → Stays p ph x) → Turn p now ph counts_here x
  at_slot ph x over not_yet = cases (slot_expired_of p c now).over (λ e. sends (over e)) (λ e. stays (not_counted counts_here (slot_expired_of p c now).over (counted_expired p w c now) e) (not_yet e))

  -- a pass is being checked: once the slot has expired the next token is sent, before that nothing happens
  expired : (k : PassTokenAttempt) (os : List ℕ) → Ready p c r os → (slot_expired_of p c now).over ≡ true → Sends p now (next_sent p.address (checking k os)) (next (checking k os)) (check_token_pass_of p c r now k bytes n 0)
  unfolding check_token_pass_of slot_expired_of
  expired k os g e = rw e (resent k p _ r now os (known_ready p c r os now _ g) (expired_paused p w c now e))

  unexpired : (k : PassTokenAttempt) (os : List ℕ) → Ready p c r os → (slot_expired_of p c now).over ≡ false → Stays p (checking k os) (check_token_pass_of p c r now k bytes n 0)
  unfolding check_token_pass_of slot_expired_of check_received done_of
  unexpired k os g e = rw e (record { nothing = refl; place = (known_ready p c r os now _ g, refl) })

  -- an answer is awaited: once the slot has expired the token is passed on, before that nothing happens
  unanswered : (a : ℕ) (os : List ℕ) → Ready p c r os → (slot_expired_of p c now).over ≡ true → Sends p now (next_sent p.address (awaiting os)) (next (awaiting os)) (await_status_of p c r now a bytes n 0)
  unfolding await_status_of slot_expired_of
  unanswered a os g e = rw e (again p _ r now First os (known_ready p c r os now _ g) (expired_paused p w c now e))

  still_awaited : (a : ℕ) (os : List ℕ) → Ready p c r os → (slot_expired_of p c now).over ≡ false → Stays p (awaiting os) (await_status_of p c r now a bytes n 0)
  unfolding await_status_of slot_expired_of done_of
  still_awaited a os g e = rw e (record { nothing = refl; place = (known_ready p c r os now _ g, record { address = a; awaiting_it = refl }) })

  -- no transmission goes on: what the state asks for
  free_turn : (ph : Phase) → Under ph → At ph p s c r → Turn p now ph counts_here (dispatch_of p s c r now bytes n 0)
  free_turn (asking a os) u g =
      let k = g.1.attempt in
      let here : Asking p a (PassToken true k) c r = record { attempt = k; passing = refl; question = g.1.question } in
      rw (dispatch_pass p s c r now bytes n true k g.1.passing)
      (at_pause (asking a os) _ (λ e. paused_asked p c r now k a os g.0 g.1.question e) (λ e. unpaused p c r now true k (asking a os) (g.0, here) e))
  free_turn (awaiting os) u g =
      rw (dispatch_await g.1.address g.1.awaiting_it) (at_slot (awaiting os) _ (λ e. unanswered g.1.address os g.0 e) (λ e. still_awaited g.1.address os g.0 e))
  free_turn (starting k os) u g =
      let gap = g.1.gap in
      let here : Passing p k (PassToken gap k) c r = record { gap = gap; passing = refl; no_question = g.1.no_question } in
      rw (dispatch_pass p s c r now bytes n gap k g.1.passing)
      (at_pause (starting k os) _ (λ e. paused_sent p c r now gap k os g.0 g.1.no_question e) (λ e. unpaused p c r now gap k (starting k os) (g.0, here) e))
  free_turn (checking k os) u g = rw (dispatch_check k g.1) (at_slot (checking k os) _ (λ e. expired k os g.0 e) (λ e. unexpired k os g.0 e))
  free_turn (claiming first os) u g =
      rw (dispatch_claim first g.1) (at_pause (claiming first os) _ (λ e. claim_sent p c r now first os g.0 e) (λ e. claim_waits p c r now first os g.0 e))
  free_turn (holding os) u g = absurd u

  -- while a transmission goes on the station stays where it is
  busy_turn : (ph : Phase) → At ph p s c r → busy_of c.last_bus_activity now ≡ true → Turn p now ph counts_here (quiet_step p s c r now bytes n)
  unfolding quiet_step done_of
  busy_turn ph g e =
      rw e
      (stays (not_counted_busy counts_here (busy_of c.last_bus_activity now) (counted_free p w c now) e)
      (record { nothing = refl; place = active_at ph p s c r _ g }))

  -- one silent poll at any place where the token is not held yet
  pub turn : (ph : Phase) → Under ph → At ph p s c r → Turn p now ph counts_here (quiet_step p s c r now bytes n)
  unfolding quiet_step
  turn ph u g = cases (busy_of c.last_bus_activity now) (λ e. busy_turn ph g e) (λ e. rw e (free_turn ph u g))
