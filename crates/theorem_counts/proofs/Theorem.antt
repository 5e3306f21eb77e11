-- The proof of request P6's statement: one step says what happened in it, and a run over entries counts it to the largest value.
use Rattle.std.specs.Prelude.{ℕ, zero, suc, ◌+◌, ◌-◌, ◌*◌, ◌<◌, ◌≤◌, min, Bool, cond, ◌≡◌, ◌⊎◌, length, take, drop, ltb, eqb, Option, Some, None}
use Rattle.std.proofs.Math.Bool.{true, false}
use Rattle.std.proofs.Math.Path.{refl, sym, ap, subst}
use Rattle.std.proofs.Common.{◌∙◌, inl, inr, arith, zero-add, length-append, length-drop, take-append-drop}
use mathlib.Core.List.{List, [], ◌∷◌, ◌++◌}
use borrow.Author.Tests.{eqb-true, eqb-false, ltb-true, lt-ltb, le-ltb, ne_eqb}
use borrow.Table.Steps.{cases}
use Rattle.std.proofs.Math.Dec.{lit≤}
use Rattle.bit_times.specs.declared.micros.Micros.{Micros}
use Rattle.settings.specs.declared.parameters.Parameters.{Parameters}
use Rattle.ring.specs.Ring.{Ring, next_of}
use Rattle.ring.specs.Laws.{SoundRing}
use Rattle.codec_records.specs.Records.{head_of, record_refusal}
use Rattle.codec_answers.specs.declared.Outcome.{Outcome}
use Rattle.codec_answers.specs.declared.Outcome.TheVariants as outcome
use Rattle.codec_answers.specs.Answers.{refused_answer}
use Rattle.station.specs.declared.state.PassTokenAttempt.{PassTokenAttempt}
use Rattle.station.specs.declared.state.PassTokenAttempt.TheVariants.{First, Second, Third}
use Rattle.station.specs.declared.state.ConnectivityState.{ConnectivityState}
use Rattle.station.specs.declared.state.ConnectivityState.TheVariants as connectivity
use Rattle.station.specs.declared.state.State.{State}
use Rattle.station.specs.declared.state.State.TheVariants.{Offline, ListenToken, ActiveIdle, UseToken, ClaimToken, AwaitDataResponse, PassToken, CheckTokenPass, AwaitStatusResponse, PassiveIdle}
use Rattle.station.specs.declared.parts.Core.{Core}
use Rattle.station.specs.declared.parts.Counts.{Counts}
use Rattle.station.specs.declared.done.Event.{Event}
use Rattle.station.specs.declared.done.Event.TheVariants.{Nothing, Claim, Removal, Meetings}
use Rattle.station.specs.declared.station.Station.{Station}
use Rattle.station.specs.Whole.{RingStep, Heard}
use Rattle.station.specs.Parts.{is_offline, state_number, no_counts, fresh_station}
use Rattle.station.specs.Steps.{to_active_idle, ongoing_of, bus_activity_of, pause_of, slot_expired_of, token_lost_wait_of, done_of, transmit_of, with_event, ring_step_of, heard_of}
use Rattle.station_claim.specs.Claim.{claim_next, claim_token_of}
use Rattle.station_listen.specs.Listen.{handle_lost_token, met_in, received_all, meetings_of, consumed_all, listen_token_on, listen_token_of, active_idle_on, active_idle_of}
use Rattle.station_check_pass.specs.CheckPass.{removal_of, resend_of, check_received, check_token_pass_of}
use Rattle.station_passive.specs.Passive.{passive_idle_of}
use Rattle.station_poll.specs.Poll.{connected_of, passivated_of, entered_of, dispatch_of, poll_online, poll_inner, accepted_after, accepted_poll, poll_of}
use Rattle.station_answer.specs.Counted.{largest_count, raised_by, counted_of}
use Rattle.station_answer.specs.Answer.{Polled, step_answer, polled_of, refused_poll}
use Rattle.station_command.specs.Command.{connect_of, online_of, offline_of, passive_of}
use Rattle.amsulfezd.proofs.amsulfezd_trace_counts.Reads as reads
use Rattle.trace_headers.specs.Headers.{header_length}
use Rattle.trace.specs.Entries.{entry_of}
use Rattle.trace.specs.Trace.{Accepted, start_of, run_of, ran_of, number_of, room_for, whole_replay, whole_number, whole_number_on}
use Rattle.trace.proofs.Laws.{replay_started}
use Rattle.trace_counts.specs.TraceCounts.{counts_length, counts_bytes, counts_over, counted_after, counts_number, counts_into, counts_into_on}
use Rattle.theorem_sound.specs.Keeps.{either}
use Rattle.theorem_sound.specs.Sound.{SoundStation}
use Rattle.theorem_sound.proofs.Sound.{call_sound}
use Rattle.theorem_every_trace.specs.Statement.{Entry, laid, along}
use Rattle.theorem_every_trace.specs.Theorem.{Taken}
use Rattle.theorem_every_trace.proofs.Theorem.{taken, along_length}
use Rattle.theorem_from_header.specs.FromHeader.{header_starts, call_of, entry_leaves, from_header}
use Rattle.theorem_heard.proofs.Theorem.{laid_long, enough}
use Rattle.theorem_counts.specs.Events.{enters_claim, claims_at, in_third, removes, removals_in, removals_at, met_along, met_from, meets, meetings_in, meetings_at, times}
use Rattle.theorem_counts.specs.Statement.{happened, Told, Theorem}
use Rattle.theorem_counts.specs.Plain.{Elsewhere, Plain, Calm}
use Rattle.theorem_counts.proofs.Plain.{use_token_plain, await_data_plain, response_calm, active_response_calm, passive_response_calm, pass_calm, await_status_plain}
use Rattle.theorem_counts.proofs.Meetings.{all_elsewhere, met_is}
use Rattle.theorem_counts.specs.Removals.{goes}
use Rattle.theorem_counts.proofs.Removals.{same_missing, third_missing}
use Rattle.theorem_counts.specs.Theorem.{InBits, Raised}

-- What a step says, as three numbers.
abbrev claims_said : Event → ℕ
claims_said Nothing = 0
claims_said Claim = 1
claims_said Removal = 0
claims_said (Meetings met) = 0

abbrev removals_said : Event → ℕ
removals_said Nothing = 0
removals_said Claim = 0
removals_said Removal = 1
removals_said (Meetings met) = 0

abbrev meetings_said : Event → ℕ
meetings_said Nothing = 0
meetings_said Claim = 0
meetings_said Removal = 0
meetings_said (Meetings met) = met

-- A step from a state and a ring says what happens in it; `met` is how many meetings there are if it consumes telegrams.
record Says (before : State) (ring : Ring) (met : ℕ) (x : RingStep) : Type 0 where
  pub claims_said_lem : claims_said x.step.event ≡ enters_claim before x.step.state
  pub removals_said_lem : removals_said x.step.event ≡ removes before ring x.ring x.step.consumed
  pub meetings_said_lem : meetings_said x.step.event ≡ cond (eqb x.step.consumed 0) 0 met

-- a choice of 0 and 0
zero_either : (b : Bool) → ◌≡◌ {A = ℕ} (cond b 0 0) 0
zero_either true = refl
zero_either false = refl

-- nobody enters ClaimToken who ends elsewhere, or begins there
enters_elsewhere : (before after : State) → Elsewhere after → enters_claim before after ≡ 0
unfolding enters_claim
enters_elsewhere before after e = rw e (zero_either (eqb (state_number before) 4))

-- a plain step, where no third attempt is pending and no telegram would be a meeting
plain_says : (before : State) (ring : Ring) (x : RingStep) → in_third before ≡ false → Plain x.step → Says before ring 0 x
unfolding removes
plain_says before ring x third g =
    record {
      claims_said_lem = ap claims_said g.nothing ∙ sym (enters_elsewhere before x.step.state g.elsewhere);
      removals_said_lem = ap removals_said g.nothing ∙ rw third refl;
      meetings_said_lem = ap meetings_said g.nothing ∙ sym (zero_either (eqb x.step.consumed 0));
    }

-- a plain step that consumes nothing
calm_says : (before : State) (ring : Ring) (met : ℕ) (x : RingStep) → in_third before ≡ false → Calm x.step → Says before ring met x
unfolding removes
calm_says before ring met x third g =
    record {
      claims_said_lem = ap claims_said g.plain.nothing ∙ sym (enters_elsewhere before x.step.state g.plain.elsewhere);
      removals_said_lem = ap removals_said g.plain.nothing ∙ rw third refl;
      meetings_said_lem = ap meetings_said g.plain.nothing ∙ rw g.none refl;
    }

-- a step that does nothing: whatever state it stays in
stays_says : (before : State) (ring : Ring) (met : ℕ) (c : Core) (o : Outcome) → SoundRing ring → Says before ring met (ring_step_of (done_of before c o) ring)
unfolding done_of removes enters_claim
stays_says before ring met c o s =
    record {
      claims_said_lem = cases (eqb (state_number before) 4) (λ e. rw e) (λ e. rw e);
      removals_said_lem = rw (same_missing ring s) (sym (zero_either (in_third before)));
      meetings_said_lem = refl;
    }

-- a claim
claim_says : (before : State) (p : Parameters) (c : Core) (ring : Ring) (now : Micros) (met : ℕ) → Elsewhere before → in_third before ≡ false → Says before ring met (with_event (claim_token_of p c ring now true) Claim)
unfolding claim_token_of claim_next with_event done_of transmit_of enters_claim removes
claim_says before p c ring now met out third =
    cases (pause_of p c now).over
    (λ e. rw e (record { claims_said_lem = rw out refl; removals_said_lem = rw third refl; meetings_said_lem = refl }))
    (λ e. rw e (record { claims_said_lem = rw out refl; removals_said_lem = rw third refl; meetings_said_lem = refl }))

-- what is said of a poll with so many collisions
meetings_claims : (met : ℕ) → claims_said (meetings_of met) ≡ 0
unfolding meetings_of
meetings_claims met = cases (eqb met 0) (λ e. rw e) (λ e. rw e)

meetings_removals : (met : ℕ) → removals_said (meetings_of met) ≡ 0
unfolding meetings_of
meetings_removals met = cases (eqb met 0) (λ e. rw e) (λ e. rw e)

meetings_meetings : (met : ℕ) → meetings_said (meetings_of met) ≡ met
unfolding meetings_of
meetings_meetings met = cases (eqb met 0) (λ e. rw e (sym (eqb-true met 0 e))) (λ e. rw e)

-- telegrams heard from a state: none is met where there is none
none_along : (p : Parameters) (h : Heard) (now : Micros) (listening : Bool) (bytes : List ℕ) (n count : ℕ) → cond (eqb count 0) 0 (met_along p h now listening bytes n count count) ≡ met_along p h now listening bytes n count count
unfolding met_along
none_along p h now listening bytes n count = cases (eqb count 0) (λ e. rw (e, eqb-true count 0 e)) (λ e. rw e)

-- a third attempt is over once a telegram is consumed
consumed_third : (before : State) (ring after : Ring) (count : ℕ) → (in_third before ≡ false) ⊎ (ltb 0 count ≡ true) → removes before ring after count ≡ 0
unfolding removes
consumed_third before ring after count (inl third) = rw third refl
consumed_third before ring after count (inr some) =
    let l = ltb-true 0 count some in
    rw (ne_eqb count 0 (λ e. omega (arith, l, e))) (zero_either (in_third before))

received_says :
    (before : State) (p : Parameters) (x : State) (c : Core) (ring : Ring) (now : Micros) (listening : Bool) (bytes : List ℕ) (n count : ℕ)
    → Elsewhere x
    → (in_third before ≡ false) ⊎ (ltb 0 count ≡ true)
    → Says before ring (met_along p (heard_of x c ring outcome.Bus) now listening bytes n count count) (consumed_all (received_all p x c ring now listening bytes n count) count)
unfolding consumed_all received_all
received_says before p x c ring now listening bytes n count out third =
    let h = heard_of x c ring outcome.Bus in
    let began : Elsewhere h.state = unfold heard_of in out in
    record {
      claims_said_lem = meetings_claims (met_in p h now listening bytes n count count) ∙ sym (enters_elsewhere before _ (all_elsewhere p h now listening bytes n count began count));
      removals_said_lem = meetings_removals (met_in p h now listening bytes n count count) ∙ sym (consumed_third before ring _ count third);
      meetings_said_lem =
          meetings_meetings (met_in p h now listening bytes n count count)
          ∙ met_is p h now listening bytes n count began count
          ∙ sym (none_along p h now listening bytes n count);
    }

-- do_listen_token, do_active_idle, do_check_token_pass
module _ (p : Parameters) (ring : Ring) (now : Micros) (bytes : List ℕ) (n count : ℕ) where
  lost_says : (before : State) (c : Core) (met : ℕ) (rest : Core → RingStep) → Elsewhere before → in_third before ≡ false → Says before ring met (rest (token_lost_wait_of p c now).core) → Says before ring met (handle_lost_token p c ring now rest)
  unfolding handle_lost_token
  lost_says before c met rest out third g = either (Says before ring met) (token_lost_wait_of p c now).over _ _ (claim_says before p _ ring now met out third) g

  listen_says : (q : Option ℕ) (k : ℕ) (c : Core) → Says (ListenToken q k) ring (met_from p (ListenToken q k) c ring now bytes n count) (listen_token_of p c ring now q k bytes n count)
  unfolding listen_token_of listen_token_on met_from in_third
  listen_says None k c =
      lost_says (ListenToken None k) c _ _ refl refl (received_says (ListenToken None k) p (ListenToken None k) _ ring now true bytes n count refl (inl refl))
  listen_says (Some source) k c =
      lost_says (ListenToken (Some source) k) c _ _ refl refl (calm_says _ ring _ _ refl (response_calm p n bytes count now _ ring source k))

  idle_says : (q m : Option ℕ) (k : ℕ) (c : Core) → Says (ActiveIdle q m k) ring (met_from p (ActiveIdle q m k) c ring now bytes n count) (active_idle_of p c ring now q m k bytes n count)
  unfolding active_idle_of active_idle_on met_from in_third
  idle_says None m k c =
      lost_says (ActiveIdle None m k) c _ _ refl refl (received_says (ActiveIdle None m k) p (ActiveIdle None m k) _ ring now false bytes n count refl (inl refl))
  idle_says (Some source) m k c =
      lost_says (ActiveIdle (Some source) m k) c _ _ refl refl (calm_says _ ring _ _ refl (active_response_calm p n bytes count now _ ring source m k))

  -- the removal that is said
  removal_claims : (x : Option ℕ) → claims_said (removal_of x) ≡ 0
  unfolding removal_of
  removal_claims None = refl
  removal_claims (Some a) = refl

  removal_removals : (x : Option ℕ) → removals_said (removal_of x) ≡ goes x
  unfolding removal_of
  removal_removals None = refl
  removal_removals (Some a) = refl

  removal_meetings : (x : Option ℕ) → meetings_said (removal_of x) ≡ 0
  unfolding removal_of
  removal_meetings None = refl
  removal_meetings (Some a) = refl

  module _ (s : SoundRing ring) (is : ring.own ≡ p.address) where
    resend_says : (k : PassTokenAttempt) (c : Core) (met : ℕ) → Says (CheckTokenPass k) ring met (resend_of p c ring now k)
    unfolding resend_of in_third with_event removes
    resend_says First c met = calm_says (CheckTokenPass First) ring met _ refl (pass_calm p n bytes count now c ring false Second)
    resend_says Second c met = calm_says (CheckTokenPass Second) ring met _ refl (pass_calm p n bytes count now c ring false Third)
    resend_says Third c met =
        let g = pass_calm p n bytes count now c _ false First in
        record {
          claims_said_lem = removal_claims (next_of ring) ∙ sym (enters_elsewhere (CheckTokenPass Third) _ g.plain.elsewhere);
          removals_said_lem = removal_removals (next_of ring) ∙ sym (third_missing p c ring now First s is) ∙ rw g.none refl;
          meetings_said_lem = removal_meetings (next_of ring) ∙ rw g.none refl;
        }

    check_received_says : (k : PassTokenAttempt) (c : Core) → Says (CheckTokenPass k) ring (met_along p (heard_of to_active_idle c ring outcome.Bus) now false bytes n count count) (check_received p c ring now k bytes n count)
    unfolding check_received
    check_received_says k c =
        cases (ltb 0 count) (λ e. rw e (received_says (CheckTokenPass k) p to_active_idle c ring now false bytes n count refl (inr e)))
        (λ e. rw e (stays_says (CheckTokenPass k) ring _ c outcome.Bus s))

    check_says : (k : PassTokenAttempt) (c : Core) → Says (CheckTokenPass k) ring (met_from p (CheckTokenPass k) c ring now bytes n count) (check_token_pass_of p c ring now k bytes n count)
    unfolding check_token_pass_of met_from
    check_says k c = either (Says (CheckTokenPass k) ring _) (slot_expired_of p c now).over _ _ (resend_says k _ _) (check_received_says k _)

    -- ClaimToken: no entry
    claiming_says : (first : Bool) (c : Core) → Says (ClaimToken first) ring 0 (claim_token_of p c ring now first)
    unfolding claim_token_of done_of transmit_of enters_claim removes in_third
    claiming_says first c =
        cases (pause_of p c now).over (λ e. rw e (record { claims_said_lem = refl; removals_said_lem = refl; meetings_said_lem = refl }))
        (λ e. rw e (record { claims_said_lem = refl; removals_said_lem = refl; meetings_said_lem = refl }))

    -- PassiveIdle
    passive_says : (q : Option ℕ) (c : Core) → Says (PassiveIdle q) ring (met_from p (PassiveIdle q) c ring now bytes n count) (passive_idle_of p c ring now q bytes n count)
    unfolding passive_idle_of met_from in_third
    passive_says None c = received_says (PassiveIdle None) p (PassiveIdle None) c ring now true bytes n count refl (inl refl)
    passive_says (Some source) c = calm_says (PassiveIdle (Some source)) ring _ _ refl (passive_response_calm p n bytes count now c ring source)

    -- poll_inner
    dispatch_says : (x : State) (c : Core) → Says x ring (met_from p x c ring now bytes n count) (dispatch_of p x c ring now bytes n count)
    unfolding dispatch_of met_from in_third
    dispatch_says Offline c = stays_says Offline ring 0 c outcome.Offline s
    dispatch_says (ListenToken q k) c = listen_says q k c
    dispatch_says (ActiveIdle q m k) c = idle_says q m k c
    dispatch_says (UseToken k d) c = plain_says (UseToken k d) ring _ refl (use_token_plain p n bytes count now c d k)
    dispatch_says (ClaimToken f) c = claiming_says f c
    dispatch_says (AwaitDataResponse a d) c = plain_says (AwaitDataResponse a d) ring _ refl (await_data_plain p n bytes count now c a d)
    dispatch_says (PassToken g k) c = plain_says (PassToken g k) ring _ refl (pass_calm p n bytes count now c ring g k).plain
    dispatch_says (CheckTokenPass k) c = check_says k c
    dispatch_says (AwaitStatusResponse a) c = plain_says (AwaitStatusResponse a) ring _ refl (await_status_plain p n bytes count now c ring a)
    dispatch_says (PassiveIdle q) c = passive_says q c

    -- from Offline and PassiveIdle a poll of an online station goes on as from ListenToken, and one of a passive station from Offline, ListenToken
    -- and ActiveIdle as from PassiveIdle: none of them is ClaimToken or a third attempt
    connected_says : (x : State) (met : ℕ) (y : RingStep) → Says (connected_of x) ring met y → Says x ring met y
    unfolding connected_of enters_claim removes in_third
    connected_says Offline met y g = record { claims_said_lem = g.claims_said_lem; removals_said_lem = g.removals_said_lem; meetings_said_lem = g.meetings_said_lem }
    connected_says (ListenToken q k) met y g = g
    connected_says (ActiveIdle q m k) met y g = g
    connected_says (UseToken k d) met y g = g
    connected_says (ClaimToken f) met y g = g
    connected_says (AwaitDataResponse a d) met y g = g
    connected_says (PassToken h k) met y g = g
    connected_says (CheckTokenPass k) met y g = g
    connected_says (AwaitStatusResponse a) met y g = g
    connected_says (PassiveIdle q) met y g = record { claims_said_lem = g.claims_said_lem; removals_said_lem = g.removals_said_lem; meetings_said_lem = g.meetings_said_lem }

    passivated_says : (x : State) (met : ℕ) (y : RingStep) → Says (passivated_of x) ring met y → Says x ring met y
    unfolding passivated_of enters_claim removes in_third
    passivated_says Offline met y g = record { claims_said_lem = g.claims_said_lem; removals_said_lem = g.removals_said_lem; meetings_said_lem = g.meetings_said_lem }
    passivated_says (ListenToken q k) met y g = record { claims_said_lem = g.claims_said_lem; removals_said_lem = g.removals_said_lem; meetings_said_lem = g.meetings_said_lem }
    passivated_says (ActiveIdle q m k) met y g = record { claims_said_lem = g.claims_said_lem; removals_said_lem = g.removals_said_lem; meetings_said_lem = g.meetings_said_lem }
    passivated_says (UseToken k d) met y g = g
    passivated_says (ClaimToken f) met y g = g
    passivated_says (AwaitDataResponse a d) met y g = g
    passivated_says (PassToken h k) met y g = g
    passivated_says (CheckTokenPass k) met y g = g
    passivated_says (AwaitStatusResponse a) met y g = g
    passivated_says (PassiveIdle q) met y g = g

    entered_says : (v : ConnectivityState) (x : State) (met : ℕ) (y : RingStep) → Says (entered_of v x) ring met y → Says x ring met y
    unfolding entered_of
    entered_says connectivity.Offline x met y g = g
    entered_says connectivity.Passive x met y g = passivated_says x met y g
    entered_says connectivity.Online x met y g = connected_says x met y g

    inner_says : (x : State) (c : Core) (t : Bool) (pending : ℕ) → Says x ring (met_from p (entered_of c.connectivity_state x) (bus_activity_of c now pending) ring now bytes n count) (poll_inner p x c ring now t pending bytes n count)
    unfolding poll_inner poll_online
    inner_says x c t pending =
        let v = c.connectivity_state in
        either (Says x ring _) (is_offline v) _ _ (stays_says x ring _ c outcome.Offline s)
        (entered_says v x _ _
        (either (Says (entered_of v x) ring _) (ongoing_of c.last_bus_activity now t) _ _ (stays_says (entered_of v x) ring _ _ outcome.Transmission s)
        (dispatch_says (entered_of v x) _)))

-- From a step to the counts.

-- none more, so many and then so many, and what is raised fits
raised_none : (k : ℕ) → k ≤ largest_count → k ≡ raised_by k 0
unfolding raised_by
raised_none k l = omega (arith, l)

raised_twice : (k a b : ℕ) → raised_by (raised_by k a) b ≡ raised_by k (a + b)
unfolding raised_by
raised_twice k a b = omega arith

raised_low : (k a : ℕ) → raised_by k a ≤ largest_count
unfolding raised_by
raised_low k a = omega arith

raised_in_bits : {k j : Counts} {a b c : ℕ} → Raised k j a b c → InBits j
raised_in_bits g =
    record {
      claims_fit = subst (λ (x : ℕ). x ≤ largest_count) (sym g.claims_raised) (raised_low _ _);
      removals_fit = subst (λ (x : ℕ). x ≤ largest_count) (sym g.removals_raised) (raised_low _ _);
      meetings_fit = subst (λ (x : ℕ). x ≤ largest_count) (sym g.meetings_raised) (raised_low _ _);
    }

still : (k : Counts) → InBits k → Raised k k 0 0 0
still k f =
    record { claims_raised = raised_none _ f.claims_fit; removals_raised = raised_none _ f.removals_fit; meetings_raised = raised_none _ f.meetings_fit }

-- what a step says is what the counts are raised by
counted_raised : (k : Counts) (e : Event) → InBits k → Raised k (counted_of k e) (claims_said e) (removals_said e) (meetings_said e)
unfolding counted_of
counted_raised k Nothing f = still k f
counted_raised k Claim f = record { claims_raised = refl; removals_raised = raised_none _ f.removals_fit; meetings_raised = raised_none _ f.meetings_fit }
counted_raised k Removal f = record { claims_raised = raised_none _ f.claims_fit; removals_raised = refl; meetings_raised = raised_none _ f.meetings_fit }
counted_raised k (Meetings met) f = record { claims_raised = raised_none _ f.claims_fit; removals_raised = raised_none _ f.removals_fit; meetings_raised = refl }

-- the same by other numbers
raised_by_lem : {k j : Counts} {a b c x y z : ℕ} → a ≡ x → b ≡ y → c ≡ z → Raised k j a b c → Raised k j x y z
raised_by_lem {k} ea eb ec g =
    record {
      claims_raised = g.claims_raised ∙ ap (raised_by k.claims) ea;
      removals_raised = g.removals_raised ∙ ap (raised_by k.removals) eb;
      meetings_raised = g.meetings_raised ∙ ap (raised_by k.meetings) ec;
    }

-- a state is not entered by staying in it
stays_out : (x : State) → enters_claim x x ≡ 0
unfolding enters_claim
stays_out x = cases (eqb (state_number x) 4) (λ e. rw e) (λ e. rw e)

-- a poll's three events
abbrev HappensIn : Station → List ℕ → Polled → Type 0
HappensIn s bytes done = Raised s.counts done.station.counts (enters_claim s.state done.station.state) (removals_in s done) (meetings_in s bytes done)

accepted_happens : (s : Station) (bytes : List ℕ) → SoundStation s → InBits s.counts → HappensIn s bytes (accepted_poll s bytes)
unfolding accepted_poll accepted_after polled_of step_answer meets
accepted_happens s bytes w f =
    let head = head_of bytes in
    let now : Micros = record { 0 = head.clock } in
    let g = inner_says s.p s.token_ring now bytes s.applications head.telegrams w.ring_sound w.own_is s.state s.core head.transmitting head.pending in
    raised_by_lem g.claims_said_lem g.removals_said_lem g.meetings_said_lem (counted_raised s.counts _ f)

refused_happens : (s : Station) (bytes : List ℕ) (refusal : ℕ) → SoundStation s → InBits s.counts → HappensIn s bytes (refused_poll s refusal)
unfolding refused_poll refused_answer meets removes
refused_happens s bytes refusal w f =
    raised_by_lem (sym (stays_out s.state)) (sym (rw (same_missing s.token_ring w.ring_sound) (zero_either (in_third s.state)))) refl (still s.counts f)

poll_happens : (s : Station) (bytes : List ℕ) → SoundStation s → InBits s.counts → HappensIn s bytes (poll_of s bytes)
unfolding poll_of
poll_happens s bytes w f = either (HappensIn s bytes) (eqb (record_refusal bytes s.applications) 0) _ _ (accepted_happens s bytes w f) (refused_happens s bytes _ w f)

-- a command's: nothing happens
abbrev NothingIn : Station → Polled → Type 0
NothingIn s done = Raised s.counts done.station.counts (enters_claim s.state done.station.state) 0 0

online_happens : (s : Station) → InBits s.counts → NothingIn s (online_of s)
unfolding online_of connect_of polled_of done_of counted_of
online_happens s f = raised_by_lem (sym (stays_out s.state)) refl refl (still s.counts f)

offline_happens : (s : Station) → InBits s.counts → NothingIn s (offline_of s)
unfolding offline_of polled_of done_of counted_of
offline_happens s f = raised_by_lem (sym (enters_elsewhere s.state Offline refl)) refl refl (still s.counts f)

passive_happens : (s : Station) → InBits s.counts → NothingIn s (passive_of s)
unfolding passive_of connect_of polled_of done_of counted_of
passive_happens s f = raised_by_lem (sym (stays_out s.state)) refl refl (still s.counts f)

-- an entry's
abbrev Happens : Station → Entry → Type 0
Happens s e = Raised s.counts (entry_of s e.kind e.bytes).station.counts (claims_at s e) (removals_at s e) (meetings_at s e)

entry_happens : (s : Station) (e : Entry) → SoundStation s → InBits s.counts → Happens s e
unfolding entry_of
entry_happens s e w f =
    cases (eqb e.kind 0) (λ a. let l : e.kind < 3 = (let z = eqb-true e.kind 0 a in omega (arith, z)) in rw (a, lt-ltb e.kind 3 l) (online_happens s f))
    (λ a. cases (eqb e.kind 1) (λ b. let l : e.kind < 3 = (let z = eqb-true e.kind 1 b in omega (arith, z)) in rw (a, b, lt-ltb e.kind 3 l) (offline_happens s f))
    (λ b. cases (eqb e.kind 2) (λ c. let l : e.kind < 3 = (let z = eqb-true e.kind 2 c in omega (arith, z)) in rw (a, b, c, lt-ltb e.kind 3 l) (passive_happens s f))
    (λ c. let l : 3 ≤ e.kind = above e.kind (eqb-false e.kind 0 a) (eqb-false e.kind 1 b) (eqb-false e.kind 2 c) in rw (a, b, c, le-ltb e.kind 3 l) (poll_happens s e.bytes w f))))
  where
    above : (k : ℕ) → (k ≡ 0 → ⊥) → (k ≡ 1 → ⊥) → (k ≡ 2 → ⊥) → 3 ≤ k
    above zero x y z = absurd (x refl)
    above (suc zero) x y z = absurd (y refl)
    above (suc (suc zero)) x y z = absurd (z refl)
    above (suc (suc (suc k))) x y z = omega arith

-- Over entries, from any sound station whose counts fit: each count is raised by how often it happens, to the largest value.
pub run_happens :
    (es : List Entry) (s : Station)
    → SoundStation s
    → InBits s.counts
    → Raised s.counts (along s es).station.counts (times claims_at s es) (times removals_at s es) (times meetings_at s es)
unfolding times
run_happens [] s w f = still s.counts f
run_happens (e ∷ es) s w f =
    let one = entry_happens s e w f in
    let next = (entry_of s e.kind e.bytes).station in
    let rest = run_happens es next (subst SoundStation (sym (entry_leaves s e)) (call_sound s (call_of e) w)) (raised_in_bits one) in
    record {
      claims_raised = rest.claims_raised ∙ ap (λ (k : ℕ). raised_by k (times claims_at next es)) one.claims_raised ∙ raised_twice _ _ _;
      removals_raised = rest.removals_raised ∙ ap (λ (k : ℕ). raised_by k (times removals_at next es)) one.removals_raised ∙ raised_twice _ _ _;
      meetings_raised = rest.meetings_raised ∙ ap (λ (k : ℕ). raised_by k (times meetings_at next es)) one.meetings_raised ∙ raised_twice _ _ _;
    }

-- A trace.

-- a station that a header starts has counted nothing
fresh_none : (p : Parameters) (n : ℕ) → (fresh_station p n).counts ≡ no_counts
unfolding fresh_station
fresh_none p n = refl

-- so what is raised from nothing is the number itself, to the largest value
from_none : (k a : ℕ) → k ≡ raised_by 0 a → k ≡ min largest_count a
unfolding raised_by
from_none k a e = e ∙ ap (min largest_count) (zero-add a)

same_counts : (k j : Counts) → k.claims ≡ j.claims → k.removals ≡ j.removals → k.meetings ≡ j.meetings → k ≡ j
same_counts k j a b c = λ i. record { claims = a i; removals = b i; meetings = c i }

module _ (trace before : List ℕ) (fresh : Station) (e : start_of trace ≡ Accepted fresh) (room : counts_length ≤ length before) where
  abbrev behind : List ℕ
  behind = drop (header_length trace) trace

  parts : Taken fresh behind (room_for trace) (run_of fresh behind (room_for trace))
  parts = taken fresh behind (room_for trace)

  none : fresh.counts ≡ no_counts
  none =
      let h = header_starts trace fresh e in
      ap (λ (s : Station). s.counts) (sym h.is_new) ∙ fresh_none _ _

  -- what is counted is what happened
  counted_is : counted_after fresh trace ≡ happened fresh parts.entries
  unfolding counted_after
  counted_is =
      let bits : InBits fresh.counts = subst InBits (sym none) (record { claims_fit = lit≤ tt; removals_fit = lit≤ tt; meetings_fit = lit≤ tt }) in
      let es = parts.entries in
      let g = subst (λ (k : Counts). Raised k (along fresh es).station.counts (times claims_at fresh es) (times removals_at fresh es) (times meetings_at fresh es)) none (run_happens es fresh (from_header trace fresh [] e).is_sound bits) in
      ap (λ (s : Station). s.counts) parts.reached
      ∙ same_counts _ _ (from_none _ _ g.claims_raised) (from_none _ _ g.removals_raised) (from_none _ _ g.meetings_raised)

  -- the call's number is the run's
  returns : counts_number trace (length before) ≡ length (run_of fresh behind (room_for trace)).answers * 256 + (run_of fresh behind (room_for trace)).ending
  unfolding counts_number whole_number whole_number_on whole_replay ran_of number_of
  returns = rw (e, le-ltb (length before) counts_length room, replay_started trace (room_for trace) fresh e)

  -- what is left
  leaves : counts_into trace before ≡ counts_bytes (counted_after fresh trace) ++ drop counts_length before
  unfolding counts_into counts_into_on counts_over
  leaves = rw (e, le-ltb (length before) counts_length room)

  -- the rest is shorter than the room that is left for answers
  rest_short : 8 * length parts.rest ≤ room_for trace - 8 * length parts.entries
  rest_short =
      omega (arith, ap length parts.bytes, length-append (laid parts.entries) parts.rest, laid_long parts.entries, length-drop (header_length trace) trace)

  told_so : Told fresh trace before (counts_number trace (length before)) (counts_into trace before)
  told_so =
      record {
        entries = parts.entries;
        rest = parts.rest;
        whole = parts.whole;
        bytes = sym (take-append-drop (header_length trace) trace) ∙ ap (λ (l : List ℕ). take (header_length trace) trace ++ l) parts.bytes;
        ending = (run_of fresh behind (room_for trace)).ending;
        stops = enough _ _ _ rest_short parts.stops;
        number = returns ∙ rw (parts.given, along_length fresh parts.entries);
        told = leaves ∙ ap (λ (k : Counts). counts_bytes k ++ drop counts_length before) counted_is;
      }

-- every trace that starts a station: the counts are how often each happened in its run, to the largest value
pub every_count : Theorem
every_count trace before fresh e room = told_so trace before fresh e room

-- The same of the hosts' call, `amsulfezd_trace_counts(trace, counts)`: of whatever its contract allows it to return and to leave. `Post` is
-- the contract as the checker reads it, of lifetimes, arguments (`a.0` the trace, `a.1.0` the slice), result and the parameters at exit
-- (`s.1.0` the slice); that the code meets it is proved of the call.
pub host_call_counts :
    (κs : _) (a : _) (returned : _) (s : _)
    → reads.Post κs a returned s
    → (fresh : Station)
    → start_of a.0.now ≡ Accepted fresh
    → counts_length ≤ length a.1.0.now
    → Told fresh a.0.now a.1.0.now returned s.1.0.now
host_call_counts κs a returned s post fresh e room =
    subst (λ (l : List ℕ). Told fresh a.0.now a.1.0.now returned l) (sym post.1)
    (subst (λ (k : ℕ). Told fresh a.0.now a.1.0.now k (counts_into a.0.now a.1.0.now)) (sym post.0) (every_count a.0.now a.1.0.now fresh e room))
