-- An answer fits its 64 bits: every answer of a sound station lies within document 01's ranges (Fits), so `pack` cuts nothing off, and
-- what `unpack` reads from the answer's word is the answer.
use Rattle.std.specs.Prelude.{ℕ, zero, suc, ◌^◌, ◌*◌, ◌<◌, ◌≤◌, Bool, cond, List, [], ◌∷◌, ◌≡◌, length, ltb, leb, eqb, Option, Some, None}
use Rattle.std.proofs.Math.Bool.{true, false}
use Rattle.std.proofs.Math.Path.{refl}
use Rattle.std.proofs.Common.{arith, eqb-true, lit<}
use borrow.Table.Steps.{cases}
use Rattle.std.proofs.Math.Dec.{lit≤}
use Rattle.codec_fields.specs.Fields.{field_of, bit_at, zeros_or14}
use Rattle.bit_times.specs.declared.micros.Micros.{Micros}
use Rattle.settings.specs.declared.parameters.Parameters.{Parameters}
use Rattle.ring.specs.Ring.{Ring}
use Rattle.ring.specs.declared.GapState.{GapState}
use Rattle.ring.specs.declared.GapState.TheVariants.{Waiting, DoPoll}
use Rattle.ring.proofs.Laws.{next_number_low}
use Rattle.codec_decisions.specs.declared.Decision.{Decision}
use Rattle.codec_decisions.specs.declared.Decision.TheVariants as decision
use Rattle.codec_telegrams.specs.declared.ResponseState.{ResponseState}
use Rattle.codec_telegrams.specs.declared.Telegram.{Telegram}
use Rattle.codec_telegrams.specs.declared.Telegram.TheVariants as telegram
use Rattle.codec_decisions.specs.Decisions.{DecisionFits, length_refusal, decision_refusal}
use Rattle.codec_telegrams.specs.Words.{telegram_refusal}
use Rattle.codec_records.specs.Records.{head_of, count_of, decision_at, entry_refusal, words_refusal, record_refusal}
use Rattle.codec_records.specs.Laws.{good, good_decision}
use Rattle.codec_answers.specs.declared.Outcome.{Outcome}
use Rattle.codec_answers.specs.declared.Outcome.TheVariants as outcome
use Rattle.codec_answers.specs.declared.Sent.{Sent}
use Rattle.codec_answers.specs.declared.Notice.{Notice}
use Rattle.codec_answers.specs.Answers.{last_state, answer_word, refusal_known, unpack_of, SentFits, NoticeFits, Fits}
use Rattle.codec_answers.specs.Laws.{refused_fits, answer_unpacks}
use Rattle.station.specs.declared.state.PassTokenAttempt.{PassTokenAttempt}
use Rattle.station.specs.declared.state.PassTokenAttempt.TheVariants.{First, Second, Third}
use Rattle.station.specs.declared.state.UseTokenData.{UseTokenData}
use Rattle.station.specs.declared.state.ConnectivityState.{ConnectivityState}
use Rattle.station.specs.declared.state.ConnectivityState.TheVariants as connectivity
use Rattle.station.specs.declared.state.State.{State}
use Rattle.station.specs.declared.state.State.TheVariants.{Offline, ListenToken, ActiveIdle, UseToken, ClaimToken, AwaitDataResponse, PassToken, CheckTokenPass, AwaitStatusResponse, PassiveIdle}
use Rattle.station.specs.declared.parts.Core.{Core}
use Rattle.station.specs.declared.parts.Counts.{Counts}
use Rattle.station.specs.declared.done.Event.{Event}
use Rattle.station.specs.declared.station.Station.{Station}
use Rattle.station.specs.Whole.{RingStep, Heard, Step}
use Rattle.station.specs.Parts.{with_activity, with_gap, with_next_application, with_connectivity, fresh_core, is_offline, state_number}
use Rattle.station.specs.Steps.{ongoing_of, bus_activity_of, waited_of, pause_of, slot_expired_of, token_lost_wait_of, done_of, transmit_of, with_event, ring_step_of}
use Rattle.station_claim.specs.Claim.{claim_token_of}
use Rattle.station_hold.specs.Hold.{Asked, valid_response, holds_of, asked_of, app_transmit_of, use_pass_of, use_apps_after, use_apps_of, use_token_timed, use_token_of, received_of, with_notice, timeout_of, await_data_of}
use Rattle.station_listen.specs.Listen.{handle_lost_token, respond_of, listen_response, consumed_all, listen_token_on, listen_token_of, active_response, active_idle_on, active_idle_of}
use Rattle.station_passive.specs.Passive.{passive_idle_of}
use Rattle.station_pass.specs.Pass.{pass_sent_on, pass_send, pass_poll_on, pass_poll, pass_token_of}
use Rattle.station_pass.specs.Laws.{destination_low}
use Rattle.station_await_status.specs.AwaitStatus.{status_answered, status_unexpected, status_received, await_status_of}
use Rattle.station_check_pass.specs.CheckPass.{resend_of, check_received, check_token_pass_of}
use Rattle.station_poll.specs.Poll.{entered_of, dispatch_of, poll_online, poll_inner, accepted_after, accepted_poll, poll_of}
use Rattle.station_answer.specs.Answer.{step_answer, polled_of, refused_poll}
use Rattle.station_command.specs.Command.{connect_of, online_of, offline_of, passive_of}
use Rattle.theorem_sound.specs.Moves.{Low, Clock, GapAddressed}
use Rattle.theorem_sound.specs.Lines.{Addressed, SoundCore}
use Rattle.theorem_sound.proofs.Kept.{other_low, hold_next, moves_keep}
use Rattle.theorem_sound.specs.Keeps.{RingGood, either, again_good, remove_good}
use Rattle.theorem_sound.specs.Hold.{AskedGood}
use Rattle.theorem_sound.proofs.Hold.{asked_good}
use Rattle.theorem_sound.proofs.Pass.{advanced_good}
use Rattle.theorem_sound.specs.Sound.{SoundStation, Call, poll, online, offline, passive}
use Rattle.theorem_sound.proofs.Sound.{clock_fits, dispatched, few_pending, inner_made, part_ring}
use Rattle.theorem_sound.specs.Fits.{answer_to}

-- what a step sends, consumes and tells fits
record StepFits (s : Step) : Type 0 where
  pub sent_fits : SentFits s.sent
  pub consumed_fits : s.consumed ≤ 8
  pub notice_fits : NoticeFits s.notice

-- the same of a step with a ring
record Fit (x : RingStep) : Type 0 where
  pub step_fits : StepFits x.step

-- what is counted of a step stands in no answer
event_fits : (x : RingStep) (e : Event) → Fit x → Fit (with_event x e)
unfolding with_event
event_fits x e f = record { step_fits = record { sent_fits = f.step_fits.sent_fits; consumed_fits = f.step_fits.consumed_fits; notice_fits = f.step_fits.notice_fits } }

-- a step that sends and tells nothing, and one that sends
done_fits : (x : State) (c : Core) (o : Outcome) → StepFits (done_of x c o)
unfolding done_of
done_fits x c o = record { sent_fits = tt; consumed_fits = lit≤ tt; notice_fits = tt }

transmit_fits : (p : Parameters) (y : State) (c : Core) (now : Micros) (x : Sent) → SentFits x → StepFits (transmit_of p y c now x)
unfolding transmit_of
transmit_fits p y c now x f = record { sent_fits = f; consumed_fits = lit≤ tt; notice_fits = tt }

-- What is known in a poll whose record is not refused: an address of settings, at most 8 applications and telegrams, and decisions
-- that fit.
record Given (p : Parameters) (n : ℕ) (bytes : List ℕ) (count : ℕ) : Type 0 where
  pub own_low : p.address < 126
  pub eight : n ≤ 8
  pub telegrams : count ≤ 8
  pub decisions : (a : ℕ) (high : Bool) → a < n → DecisionFits (decision_at bytes n a high)

module _ (p : Parameters) (n : ℕ) (bytes : List ℕ) (count : ℕ) (now : Micros) (k : Given p n bytes count) where
  -- the next application has three bits
  next_fits : (c : Core) → c.next_application < n → c.next_application < 2 ^ 3
  next_fits c b = omega (arith, b, k.eight)

  -- do_claim_token
  claim_fits : (c : Core) (r : Ring) (first : Bool) → Fit (claim_token_of p c r now first)
  unfolding claim_token_of
  claim_fits c r first =
      either Fit (pause_of p c now).over _ _
      (record { step_fits = transmit_fits p _ _ now _ (omega (arith, k.own_low)) })
      (record { step_fits = done_fits _ _ _ })

  -- do_use_token
  use_pass_fits : (c : Core) → StepFits (use_pass_of c)
  unfolding use_pass_of
  use_pass_fits c = done_fits _ _ _

  app_fits : (c : Core) (held : UseTokenData) (d : Decision) (high : Bool) → DecisionFits d → c.next_application < n → StepFits (app_transmit_of p c now held d high)
  unfolding app_transmit_of
  app_fits c held decision.Decline high f l = use_pass_fits c
  app_fits c held (decision.Send size) high f l = transmit_fits p _ c now _ (lit< tt, omega (arith, k.eight), f.0, f.1)
  app_fits c held (decision.SendExpectReply a size) high f l = transmit_fits p _ _ now _ (f.0, omega (arith, k.eight), f.1, f.2)

  apps_after_fits : (c : Core) (held : UseTokenData) (high : Bool) (a : Asked) → AskedGood n a → StepFits (use_apps_after p c now held bytes n high a)
  unfolding use_apps_after with_next_application
  apps_after_fits c held high a g =
      either StepFits a.sends _ _ (app_fits _ _ _ high (k.decisions _ high g.asked) g.asked) (use_pass_fits _)

  apps_fits : (c : Core) (held : UseTokenData) (high : Bool) → c.next_application < n → StepFits (use_apps_of p c now held bytes n high)
  unfolding use_apps_of asked_of
  apps_fits c held high b = apps_after_fits c held high _ (asked_good n bytes n _ _ high (b))

  use_timed_fits : (c : Core) (held : UseTokenData) (cycled : Bool) → c.next_application < n → StepFits (use_token_timed p c now held cycled bytes n)
  unfolding use_token_timed pause_of waited_of with_activity
  use_timed_fits c held cycled b =
      either StepFits (pause_of p c now).over _ _
      (either StepFits (holds_of now c.end_token_hold_time) _ _ (apps_fits _ held false b)
      (either StepFits cycled _ _ (use_pass_fits _) (apps_fits _ held true b)))
      (done_fits _ _ _)

  use_token_fits : (c : Core) (held : UseTokenData) (cycled : Bool) → c.next_application < n → StepFits (use_token_of p c now held cycled bytes n)
  unfolding use_token_of
  use_token_fits c held cycled b = use_timed_fits _ held cycled (rw hold_next b)

  -- do_await_data_response
  received_fits : (c : Core) (a : ℕ) (held : UseTokenData) (t : Telegram) → a < 128 → c.next_application < n → StepFits (received_of p c now a held t)
  unfolding received_of
  received_fits c a held t l b =
      either StepFits (valid_response t a p.address) _ _ (record { sent_fits = tt; consumed_fits = lit≤ tt; notice_fits = (next_fits c b, l) })
      (record { sent_fits = tt; consumed_fits = lit≤ tt; notice_fits = tt })

  noticed_fits : (s : Step) (x : Notice) → NoticeFits x → StepFits s → StepFits (with_notice s x)
  unfolding with_notice
  noticed_fits s x f g = record { sent_fits = g.sent_fits; consumed_fits = g.consumed_fits; notice_fits = f }

  timeout_fits : (c : Core) (a : ℕ) (held : UseTokenData) → a < 128 → c.next_application < n → StepFits (timeout_of p c now a held bytes n)
  unfolding timeout_of
  timeout_fits c a held l b = noticed_fits _ _ (next_fits c b, l) (use_token_fits _ held true b)

  await_data_fits : (c : Core) (a : ℕ) (held : UseTokenData) → a < 128 → c.next_application < n → StepFits (await_data_of p c now a held bytes n count)
  unfolding await_data_of slot_expired_of waited_of with_activity
  await_data_fits c a held l b =
      either StepFits (ltb 0 count) _ _ (received_fits c a held _ l b)
      (either StepFits (slot_expired_of p c now).over _ _ (timeout_fits _ a held l b) (done_fits _ _ _))

  -- do_listen_token
  lost_fits : (c : Core) (r : Ring) (rest : Core → RingStep) → ((d : Core) → Fit (rest d)) → Fit (handle_lost_token p c r now rest)
  unfolding handle_lost_token
  lost_fits c r rest f = either Fit (token_lost_wait_of p c now).over _ _ (event_fits _ _ (claim_fits _ r true)) (f _)

  all_fits : (h : Heard) → Fit (consumed_all h count)
  unfolding consumed_all
  all_fits h = record { step_fits = record { sent_fits = tt; consumed_fits = k.telegrams; notice_fits = tt } }

  respond_fits : (x y : State) (c : Core) (r : Ring) (source : ℕ) (type : ResponseState) → source < 128 → Fit (respond_of p x y c r now source type)
  unfolding respond_of
  respond_fits x y c r source type l =
      either Fit (pause_of p c now).over _ _ (record { step_fits = transmit_fits p _ _ now _ l }) (record { step_fits = done_fits _ _ _ })

  listen_on_fits : (q : Option ℕ) (c : Core) (r : Ring) (collisions : ℕ) → Low q → Fit (listen_token_on q p c r now collisions bytes n count)
  unfolding listen_token_on listen_response
  listen_on_fits None c r collisions l = all_fits _
  listen_on_fits (Some source) c r collisions l = respond_fits _ _ c r source _ l

  listen_fits : (c : Core) (r : Ring) (q : Option ℕ) (collisions : ℕ) → Low q → Fit (listen_token_of p c r now q collisions bytes n count)
  unfolding listen_token_of
  listen_fits c r q collisions l = lost_fits c r _ (λ d. listen_on_fits q d r collisions l)

  -- do_active_idle
  active_on_fits : (q : Option ℕ) (c : Core) (r : Ring) (m : Option ℕ) (collisions : ℕ) → Low q → Fit (active_idle_on q p c r now m collisions bytes n count)
  unfolding active_idle_on active_response
  active_on_fits None c r m collisions l = all_fits _
  active_on_fits (Some source) c r m collisions l = respond_fits _ _ c r source _ l

  active_fits : (c : Core) (r : Ring) (q m : Option ℕ) (collisions : ℕ) → Low q → Fit (active_idle_of p c r now q m collisions bytes n count)
  unfolding active_idle_of
  active_fits c r q m collisions l = lost_fits c r _ (λ d. active_on_fits q d r m collisions l)

  -- do_passive_idle
  passive_fits_on : (q : Option ℕ) (c : Core) (r : Ring) → Low q → Fit (passive_idle_of p c r now q bytes n count)
  unfolding passive_idle_of
  passive_fits_on None c r l = all_fits _
  passive_fits_on (Some source) c r l = respond_fits _ _ c r source _ l

  -- do_pass_token
  pass_sent_fits : (x : Option ℕ) (c : Core) (a : PassTokenAttempt) (to : ℕ) (r : Ring) → to < 126 → Fit (pass_sent_on x p c now a to r)
  unfolding pass_sent_on
  pass_sent_fits None c a to r l = record { step_fits = transmit_fits p _ _ now _ (omega arith) }
  pass_sent_fits (Some next) c a to r l = record { step_fits = transmit_fits p _ _ now _ (omega arith) }

  pass_send_fits : (c : Core) (r : Ring) (a : PassTokenAttempt) → RingGood p r → Fit (pass_send p c r now a)
  unfolding pass_send
  pass_send_fits c r a g = pass_sent_fits _ c a _ _ (destination_low r p.address g.sound g.own)

  pass_poll_fits : (s : GapState) (c : Core) (r : Ring) (a : PassTokenAttempt) → GapAddressed p s → RingGood p r → Fit (pass_poll_on s p c r now a)
  unfolding pass_poll_on
  pass_poll_fits (Waiting count) c r a l g = pass_send_fits c r a g
  pass_poll_fits (DoPoll current) c r a l g = record { step_fits = transmit_fits p _ _ now _ (omega (arith, l.low)) }

  pass_fits : (c : Core) (r : Ring) (gap : Bool) (a : PassTokenAttempt) → RingGood p r → Fit (pass_token_of p c r now gap a)
  unfolding pass_token_of pass_poll with_gap
  pass_fits c r gap a g =
      either Fit (pause_of p c now).over _ _
      (either Fit gap _ _ (pass_poll_fits _ _ r a (advanced_good p r c.gap_state g) g) (pass_send_fits _ r a g))
      (record { step_fits = done_fits _ _ _ })

  -- do_await_status_response
  answered_fits : (c : Core) (r : Ring) → Fit (status_answered c r)
  unfolding status_answered
  answered_fits c r = record { step_fits = record { sent_fits = tt; consumed_fits = lit≤ tt; notice_fits = tt } }

  unexpected_fits : (c : Core) (r : Ring) → Fit (status_unexpected c r)
  unfolding status_unexpected
  unexpected_fits c r = record { step_fits = record { sent_fits = tt; consumed_fits = lit≤ tt; notice_fits = tt } }

  status_fits : (c : Core) (r : Ring) (a : ℕ) (t : Telegram) → Fit (status_received p c r a t)
  unfolding status_received
  status_fits c r a (telegram.Token destination source) = unexpected_fits c r
  status_fits c r a telegram.ShortConfirmation = unexpected_fits c r
  status_fits c r a (telegram.Request destination source asks) = unexpected_fits c r
  status_fits c r a (telegram.Response destination source state status) =
      either Fit (eqb source a) _ _ (either Fit (eqb destination p.address) _ _ (answered_fits c _) (unexpected_fits c r)) (unexpected_fits c r)

  await_status_fits : (c : Core) (r : Ring) (a : ℕ) → RingGood p r → Fit (await_status_of p c r now a bytes n count)
  unfolding await_status_of
  await_status_fits c r a g =
      either Fit (ltb 0 count) _ _ (status_fits _ r a _)
      (either Fit (slot_expired_of p c now).over _ _ (pass_fits _ r false First g) (record { step_fits = done_fits _ _ _ }))

  -- do_check_token_pass
  resend_fits : (c : Core) (r : Ring) (a : PassTokenAttempt) → RingGood p r → Fit (resend_of p c r now a)
  unfolding resend_of
  resend_fits c r First g = pass_fits _ r false Second g
  resend_fits c r Second g = pass_fits _ r false Third g
  resend_fits c r Third g = event_fits _ _ (pass_fits _ _ false First (remove_good p r _ g))

  check_fits : (c : Core) (r : Ring) (a : PassTokenAttempt) → RingGood p r → Fit (check_token_pass_of p c r now a bytes n count)
  unfolding check_token_pass_of check_received
  check_fits c r a g =
      either Fit (slot_expired_of p c now).over _ _ (resend_fits _ r a g)
      (either Fit (ltb 0 count) _ _ (all_fits _) (record { step_fits = done_fits _ _ _ }))

  -- poll_inner
  dispatch_fits : (x : State) (c : Core) (r : Ring) → Addressed p.address x → c.next_application < n → RingGood p r → Fit (dispatch_of p x c r now bytes n count)
  unfolding dispatch_of
  dispatch_fits Offline c r l b g = record { step_fits = done_fits _ _ _ }
  dispatch_fits (ListenToken q m) c r l b g = listen_fits c r q m (other_low p.address q l)
  dispatch_fits (ActiveIdle q m i) c r l b g = active_fits c r q m i l.0
  dispatch_fits (UseToken i d) c r l b g = record { step_fits = use_token_fits c d i b }
  dispatch_fits (ClaimToken f) c r l b g = claim_fits c r f
  dispatch_fits (AwaitDataResponse a d) c r l b g = record { step_fits = await_data_fits c a d l b }
  dispatch_fits (PassToken x a) c r l b g = pass_fits c r x a g
  dispatch_fits (CheckTokenPass a) c r l b g = check_fits c r a g
  dispatch_fits (AwaitStatusResponse a) c r l b g = await_status_fits c r a g
  dispatch_fits (PassiveIdle q) c r l b g = passive_fits_on q c r (other_low p.address q l)

  poll_online_fits : (x : State) (c : Core) (r : Ring) (t : Bool) (pending : ℕ) → SoundCore p n x (bus_activity_of c now pending) → RingGood p r → Fit (poll_online p x c r now t pending bytes n count)
  unfolding poll_online
  poll_online_fits x c r t pending w g =
      either Fit (ongoing_of c.last_bus_activity now t) _ _ (record { step_fits = done_fits _ _ _ }) (dispatch_fits x _ r w.addresses w.next_one g)

  poll_inner_fits : (x : State) (c : Core) (r : Ring) (t : Bool) (pending : ℕ) → pending < 2 ^ 11 → Clock now → SoundCore p n x c → RingGood p r → Fit (poll_inner p x c r now t pending bytes n count)
  unfolding poll_inner
  poll_inner_fits x c r t pending few l w g = go (is_offline c.connectivity_state) refl
    where
      go : (b : Bool) → is_offline c.connectivity_state ≡ b → Fit (cond b (ring_step_of (done_of x c outcome.Offline) r) (poll_online p (entered_of c.connectivity_state x) c r now t pending bytes n count))
      go true o = record { step_fits = done_fits _ _ _ }
      go false o = poll_online_fits _ _ r t pending (dispatched p n now x c pending few l o w) g

-- a state's number is one of document 01's
state_known : (x : State) → state_number x ≤ last_state
state_known Offline = lit≤ tt
state_known (ListenToken q k) = lit≤ tt
state_known (ActiveIdle q m k) = lit≤ tt
state_known (UseToken k d) = lit≤ tt
state_known (ClaimToken f) = lit≤ tt
state_known (AwaitDataResponse a d) = lit≤ tt
state_known (PassToken x a) = lit≤ tt
state_known (CheckTokenPass a) = lit≤ tt
state_known (AwaitStatusResponse a) = lit≤ tt
state_known (PassiveIdle q) = lit≤ tt

-- the answer of an entry that is not refused
polled_fits : (p : Parameters) (n : ℕ) (k : Counts) (x : RingStep) → n ≤ 8 → x.step.core.next_application < n → RingGood p x.ring → Fit x → Fits (polled_of p n k x).answer
unfolding polled_of step_answer refusal_known
polled_fits p n k x e l g f =
    record {
      refusal = refl;
      plain = λ z. absurd (z refl);
      state = state_known x.step.state;
      sent = f.step_fits.sent_fits;
      consumed = f.step_fits.consumed_fits;
      notice = f.step_fits.notice_fits;
      application = omega arith;
      station = next_number_low x.ring g.sound;
    }

-- the answer of a refused entry
refused_poll_fits : (s : Station) (k : ℕ) → SoundStation s → refusal_known k ≡ true → Fits (refused_poll s k).answer
unfolding refused_poll
refused_poll_fits s k w e =
    refused_fits k _ _ _ e (state_known s.state) (omega (arith, w.core_sound.next_one, w.eight)) (next_number_low s.token_ring w.ring_sound)

-- a record's refusal is none or one of a record's: 12 to 15
abbrev Known : ℕ → Type 0
Known k = refusal_known k ≡ true

none_known : Known 0
unfolding refusal_known
none_known = refl

known_12 : Known 12
unfolding refusal_known
known_12 = refl

known_13 : Known 13
unfolding refusal_known
known_13 = refl

known_14 : Known 14
unfolding refusal_known
known_14 = refl

known_15 : Known 15
unfolding refusal_known
known_15 = refl

zeros_known : (vs : List ℕ) → Known (zeros_or14 vs)
unfolding zeros_or14
zeros_known [] = none_known
zeros_known (v ∷ vs) = either Known (eqb v 0) _ _ (zeros_known vs) known_14

length_known : (l : ℕ) → Known (length_refusal l)
unfolding length_refusal
length_known l = either Known (eqb l 0) _ _ known_15 none_known

telegram_known : (w : ℕ) → Known (telegram_refusal w)
unfolding telegram_refusal
telegram_known w =
    either Known (leb (2 ^ 32) w) _ _ known_14
    (either Known (eqb (field_of w 30 2) 0) _ _ (zeros_known (field_of w 15 1 ∷ field_of w 13 2 ∷ field_of w 9 4 ∷ field_of w 0 9 ∷ []))
    (either Known (eqb (field_of w 30 2) 1) _ _ (zeros_known (field_of w 23 7 ∷ field_of w 16 7 ∷ field_of w 15 1 ∷ field_of w 13 2 ∷ field_of w 9 4 ∷ field_of w 0 9 ∷ []))
    (either Known (eqb (field_of w 30 2) 2) _ _ (zeros_known (field_of w 13 2 ∷ field_of w 9 4 ∷ field_of w 0 9 ∷ []))
    (zeros_known (field_of w 15 1 ∷ field_of w 0 9 ∷ [])))))

decision_known : (w : ℕ) → Known (decision_refusal w)
unfolding decision_refusal
decision_known w =
    either Known (leb (2 ^ 24) w) _ _ known_14
    (either Known (bit_at w 23) _ _
    (either Known (eqb (field_of w 0 7) 0) _ _
    (either Known (bit_at w 22) _ _ (length_known _) (either Known (eqb (field_of w 15 7) 0) _ _ (length_known _) known_14))
    known_14)
    (zeros_known (field_of w 22 1 ∷ field_of w 15 7 ∷ field_of w 7 8 ∷ field_of w 0 7 ∷ [])))

entry_known : (bytes : List ℕ) (n i : ℕ) → Known (entry_refusal bytes n i)
unfolding entry_refusal
entry_known bytes n i = either Known (ltb i (2 * n)) _ _ (decision_known _) (telegram_known _)

first_known : (g : ℕ → ℕ) → ((i : ℕ) → Known (g i)) → (k : ℕ) → Known (words_refusal g k)
unfolding words_refusal
first_known g h zero = none_known
first_known g h (suc k) = either Known (eqb (words_refusal g k) 0) _ _ (h k) (first_known g h k)

record_known : (bytes : List ℕ) (n : ℕ) → Known (record_refusal bytes n)
unfolding record_refusal
record_known bytes n =
    either Known (ltb (length bytes) 8) _ _ known_12
    (either Known (ltb 8 (count_of bytes)) _ _ known_13
    (either Known (eqb (length bytes) _) _ _ (first_known _ (entry_known bytes n) _) known_12))

-- what is known of a sound station's poll whose record is not refused
given : (s : Station) (bytes : List ℕ) → SoundStation s → record_refusal bytes s.applications ≡ 0 → Given s.p s.applications bytes (head_of bytes).telegrams
given s bytes w z =
    let g = good bytes s.applications z in
    record {
      own_low = rw w.own_is at w.ring_sound.own_low;
      eight = w.eight;
      telegrams = g.telegrams;
      decisions = λ a high l. (good_decision g a high l).1;
    }

accepted_fits : (s : Station) (bytes : List ℕ) → SoundStation s → record_refusal bytes s.applications ≡ 0 → Fits (accepted_poll s bytes).answer
unfolding accepted_poll accepted_after
accepted_fits s bytes w z =
    let g = part_ring s w in
    let l = clock_fits bytes in
    let m = inner_made s bytes _ _ _ (few_pending bytes) w in
    polled_fits s.p s.applications s.counts _ w.eight (moves_keep l m.made_step.moves w.core_sound).next_one m.made_ring
    (poll_inner_fits s.p s.applications bytes _ _ (given s bytes w z) s.state s.core s.token_ring _ _ (few_pending bytes) l w.core_sound g)

-- The theorem, call by call: the answers of a sound station fit.
pub poll_fits : (s : Station) (bytes : List ℕ) → SoundStation s → Fits (poll_of s bytes).answer
unfolding poll_of
poll_fits s bytes w =
    cases (eqb (record_refusal bytes s.applications) 0)
    (λ e. rw e (accepted_fits s bytes w (eqb-true (record_refusal bytes s.applications) 0 e)))
    (λ e. rw e (refused_poll_fits s (record_refusal bytes s.applications) w (record_known bytes s.applications)))

connect_fits : (s : Station) (v : ConnectivityState) → SoundStation s → Fits (connect_of s v).answer
unfolding connect_of with_connectivity done_of
connect_fits s v w =
    polled_fits s.p s.applications s.counts _ w.eight w.core_sound.next_one (part_ring s w) (record { step_fits = done_fits _ _ _ })

pub online_fits : (s : Station) → SoundStation s → Fits (online_of s).answer
unfolding online_of
online_fits s w = connect_fits s connectivity.Online w

pub offline_fits : (s : Station) → SoundStation s → Fits (offline_of s).answer
unfolding offline_of fresh_core done_of
offline_fits s w =
    polled_fits s.p s.applications s.counts _ w.eight (omega (arith, w.some)) (again_good s.p s.token_ring (part_ring s w)) (record { step_fits = done_fits _ _ _ })

pub passive_fits : (s : Station) → SoundStation s → Fits (passive_of s).answer
unfolding passive_of
passive_fits s w = connect_fits s connectivity.Passive w

-- the answer of a sound station to any call fits
pub every_answer_fits : (s : Station) (c : Call) → SoundStation s → Fits (answer_to s c)
every_answer_fits s (poll bytes) w = poll_fits s bytes w
every_answer_fits s online w = online_fits s w
every_answer_fits s offline w = offline_fits s w
every_answer_fits s passive w = passive_fits s w

-- so what is read from its 64 bits is the answer itself
pub every_answer_reads_back : (s : Station) (c : Call) → SoundStation s → unpack_of (answer_word (answer_to s c)) ≡ Some (answer_to s c)
every_answer_reads_back s c w = answer_unpacks (answer_to s c) (every_answer_fits s c w)
