-- A poll of an online station whose record lists no telegram from our own address, and whose applications decline: the station stays
-- online and in a state other than Offline, nothing is counted as a meeting, and no application's telegram is sent. One law for each step.
-- Assumes nothing.
use Prim.Native.Nat.{ℕ, zero, suc, ◌<◌, ◌≤◌}
use Rattle.std.specs.Prelude.{Bool, ◌≡◌, List, ltb, eqb, Option, Some, None}
use Rattle.std.proofs.Math.Bool.{true, false}
use Rattle.std.proofs.Math.Path.{refl}
use Rattle.std.proofs.Common.{sym, ◌∙◌, subst, arith}
use Rattle.bit_times.specs.declared.micros.Micros.{Micros}
use Rattle.settings.specs.declared.parameters.Parameters.{Parameters}
use Rattle.ring.specs.declared.GapState.{GapState}
use Rattle.ring.specs.declared.GapState.TheVariants.{Waiting, DoPoll}
use Rattle.ring.specs.Ring.{Ring, prev_of}
use Rattle.codec_telegrams.specs.declared.Telegram.{Telegram}
use Rattle.codec_telegrams.specs.declared.Telegram.TheVariants as telegram
use Rattle.codec_decisions.specs.declared.Decision.{Decision}
use Rattle.codec_decisions.specs.declared.Decision.TheVariants as decision
use Rattle.codec_records.specs.Records.{telegram_at, decision_at}
use Rattle.codec_answers.specs.declared.Outcome.{Outcome}
use Rattle.codec_answers.specs.declared.Outcome.TheVariants as outcome
use Rattle.codec_answers.specs.declared.Sent.{Sent}
use Rattle.codec_answers.specs.declared.Sent.TheVariants as sent
use Rattle.station.specs.declared.state.ConnectivityState.{ConnectivityState}
use Rattle.station.specs.declared.state.PassTokenAttempt.{PassTokenAttempt}
use Rattle.station.specs.declared.state.PassTokenAttempt.TheVariants.{First, Second, Third}
use Rattle.station.specs.declared.state.UseTokenData.{UseTokenData}
use Rattle.station.specs.declared.state.State.{State}
use Rattle.station.specs.declared.state.State.TheVariants.{Offline, ListenToken, ActiveIdle, UseToken, ClaimToken, AwaitDataResponse, PassToken, CheckTokenPass, AwaitStatusResponse, PassiveIdle}
use Rattle.station.specs.declared.parts.Core.{Core}
use Rattle.station.specs.declared.done.Event.{Event}
use Rattle.station.specs.declared.done.Event.TheVariants as event
use Rattle.station.specs.Whole.{Step, RingStep, Heard}
use Rattle.station.specs.Parts.{with_activity, with_pending, with_gap, with_next_application}
use Rattle.station.specs.Steps.{ongoing_of, waited_of, pause_of, slot_expired_of, token_lost_wait_of, rx_of, bus_activity_of, done_of, transmit_of, with_event, heard_of}
use Rattle.station_claim.specs.Claim.{claim_next, claim_token_of}
use Rattle.station_hold.specs.Hold.{Asked, use_pass_of, app_transmit_of, use_apps_after, use_apps_of, holds_of, use_token_timed, use_token_of, valid_response, received_of, with_notice, timeout_of, await_data_of}
use Rattle.station_hear_active.specs.HearActive.{remembers, accepted_of, token_to_us, token_witnessed, token_heard, active_requested, active_heard, handle_telegram}
use Rattle.station_hear_listen.specs.HearListen.{sent_by_us, listen_heard, passive_heard, listen_telegram}
use Rattle.station_listen.specs.Listen.{handle_lost_token, listen_answered, respond_of, listen_response, heard_telegram, heard_all, met_too, met_in, received_all, meetings_of, consumed_all, listen_token_on, listen_token_of, active_response, active_idle_on, active_idle_of}
use Rattle.station_pass.specs.Pass.{pass_sent_on, pass_send, pass_poll_on, pass_poll, pass_token_of}
use Rattle.station_await_status.specs.AwaitStatus.{status_answered, status_unexpected, status_received, await_status_of}
use Rattle.station_check_pass.specs.CheckPass.{removal_of, resend_of, check_received, check_token_pass_of}
use Rattle.station_poll.specs.Poll.{connected_of, dispatch_of, poll_online}
use Rattle.theorem_sound.specs.Keeps.{either}
use Rattle.theorem_sound.proofs.Kept.{hold_online}

-- any state but Offline
abbrev pub There : State → Type 0
There Offline = ⊥
There (ListenToken request collisions) = Unit {0}
There (ActiveIdle request newPreviousStation collisions) = Unit {0}
There (UseToken cycled held) = Unit {0}
There (ClaimToken first) = Unit {0}
There (AwaitDataResponse address held) = Unit {0}
There (PassToken gap attempt) = Unit {0}
There (CheckTokenPass attempt) = Unit {0}
There (AwaitStatusResponse address) = Unit {0}
There (PassiveIdle request) = Unit {0}

-- no meeting of our own address
abbrev pub Unmet : Event → Type 0
Unmet event.Nothing = Unit {0}
Unmet event.Claim = Unit {0}
Unmet event.Removal = Unit {0}
Unmet (event.Meetings met) = ⊥

-- no application's telegram
abbrev pub NotAsked : Sent → Type 0
NotAsked sent.Nothing = Unit {0}
NotAsked (sent.Token destination) = Unit {0}
NotAsked (sent.StatusRequest destination) = Unit {0}
NotAsked (sent.StatusResponse destination state) = Unit {0}
NotAsked (sent.Application destination application high bytes) = ⊥

-- what is kept by a step, and by telegrams
pub record Steady (v : ConnectivityState) (s : Step) : Type 0 where
  pub same : s.core.connectivity_state ≡ v
  pub there : There s.state
  pub unmet : Unmet s.event
  pub not_asked : NotAsked s.sent

record SteadyHeard (v : ConnectivityState) (h : Heard) : Type 0 where
  pub heard_same : h.core.connectivity_state ≡ v
  pub heard_there : There h.state
  pub heard_unmet : h.met ≡ 0

module _ (p : Parameters) (now : Micros) (v : ConnectivityState) (bytes : List ℕ) (n : ℕ) (declines : (a : ℕ) (high : Bool) → decision_at bytes n a high ≡ decision.Decline) where
  abbrev On : Core → Type 0
  On c = c.connectivity_state ≡ v

  abbrev S : RingStep → Type 0
  S x = Steady v x.step

  done_steady : (x : State) (c : Core) (o : Outcome) → On c → There x → Steady v (done_of x c o)
  unfolding done_of
  done_steady x c o e k = record { same = e; there = k; unmet = tt; not_asked = tt }

  transmit_steady : (x : State) (c : Core) (s : Sent) → On c → There x → NotAsked s → Steady v (transmit_of p x c now s)
  unfolding transmit_of with_activity
  transmit_steady x c s e k a = record { same = e; there = k; unmet = tt; not_asked = a }

  event_steady : (x : RingStep) (k : Event) → Unmet k → S x → S (with_event x k)
  unfolding with_event
  event_steady x k o u = record { same = u.same; there = u.there; unmet = o; not_asked = u.not_asked }

  -- do_claim_token
  next_there : (first : Bool) → There (claim_next now first)
  unfolding claim_next
  next_there first = either There first _ _ tt tt

  claim_steady : (c : Core) (r : Ring) (first : Bool) → On c → S (claim_token_of p c r now first)
  unfolding claim_token_of pause_of waited_of with_activity
  claim_steady c r first e = either S (pause_of p c now).over _ _ (transmit_steady _ _ _ e (next_there first) tt) (done_steady _ _ _ e tt)

  -- do_use_token
  use_pass_steady : (c : Core) → On c → Steady v (use_pass_of c)
  unfolding use_pass_of
  use_pass_steady c e = done_steady _ _ _ e tt

  app_steady : (c : Core) (held : UseTokenData) (high : Bool) → On c → Steady v (app_transmit_of p c now held decision.Decline high)
  unfolding app_transmit_of
  app_steady c held high e = use_pass_steady c e

  apps_after_steady : (c : Core) (held : UseTokenData) (high : Bool) (a : Asked) → On c → Steady v (use_apps_after p c now held bytes n high a)
  unfolding use_apps_after with_next_application
  apps_after_steady c held high a e =
      either (Steady v) a.sends _ _
      (subst (λ (d : Decision). Steady v (app_transmit_of p (with_next_application c a.application) now (record { token_time = held.token_time; first_app = a.first_app }) d high)) (sym (declines a.application high)) (app_steady _ _ high e))
      (use_pass_steady _ e)

  apps_steady : (c : Core) (held : UseTokenData) (high : Bool) → On c → Steady v (use_apps_of p c now held bytes n high)
  unfolding use_apps_of
  apps_steady c held high e = apps_after_steady c held high _ e

  use_timed_steady : (c : Core) (held : UseTokenData) (cycled : Bool) → On c → Steady v (use_token_timed p c now held cycled bytes n)
  unfolding use_token_timed pause_of waited_of with_activity
  use_timed_steady c held cycled e =
      either (Steady v) (pause_of p c now).over _ _
      (either (Steady v) (holds_of now c.end_token_hold_time) _ _ (apps_steady _ held false e)
      (either (Steady v) cycled _ _ (use_pass_steady _ e) (apps_steady _ held true e)))
      (done_steady _ _ _ e tt)

  use_steady : (c : Core) (held : UseTokenData) (cycled : Bool) → On c → Steady v (use_token_of p c now held cycled bytes n)
  unfolding use_token_of
  use_steady c held cycled e = use_timed_steady _ held cycled (hold_online p c held.token_time ∙ e)

  -- do_await_data_response
  received_steady : (c : Core) (a : ℕ) (held : UseTokenData) (t : Telegram) → On c → Steady v (received_of p c now a held t)
  unfolding received_of rx_of with_activity with_pending
  received_steady c a held t e =
      either (Steady v) (valid_response t a p.address) _ _ (record { same = e; there = tt; unmet = tt; not_asked = tt }) (record { same = e; there = tt; unmet = tt; not_asked = tt })

  timeout_steady : (c : Core) (a : ℕ) (held : UseTokenData) → On c → Steady v (timeout_of p c now a held bytes n)
  unfolding timeout_of with_notice
  timeout_steady c a held e = let u = use_steady c held true e in record { same = u.same; there = u.there; unmet = u.unmet; not_asked = u.not_asked }

  await_data_steady : (c : Core) (a : ℕ) (held : UseTokenData) (count : ℕ) → On c → Steady v (await_data_of p c now a held bytes n count)
  unfolding await_data_of slot_expired_of waited_of with_activity
  await_data_steady c a held count e =
      either (Steady v) (ltb 0 count) _ _ (received_steady c a held _ e)
      (either (Steady v) (slot_expired_of p c now).over _ _ (timeout_steady _ a held e) (done_steady _ _ _ e tt))

  -- do_pass_token
  pass_sent_steady : (x : Option ℕ) (c : Core) (a : PassTokenAttempt) (to : ℕ) (r : Ring) → On c → S (pass_sent_on x p c now a to r)
  unfolding pass_sent_on
  pass_sent_steady None c a to r e = transmit_steady _ c _ e tt tt
  pass_sent_steady (Some next) c a to r e = transmit_steady _ c _ e tt tt

  pass_send_steady : (c : Core) (r : Ring) (a : PassTokenAttempt) → On c → S (pass_send p c r now a)
  unfolding pass_send
  pass_send_steady c r a e = pass_sent_steady _ c a _ _ e

  pass_poll_steady : (g : GapState) (c : Core) (r : Ring) (a : PassTokenAttempt) → On c → S (pass_poll_on g p c r now a)
  unfolding pass_poll_on
  pass_poll_steady (Waiting count) c r a e = pass_send_steady c r a e
  pass_poll_steady (DoPoll current) c r a e = transmit_steady _ c _ e tt tt

  pass_steady : (c : Core) (r : Ring) (gap : Bool) (a : PassTokenAttempt) → On c → S (pass_token_of p c r now gap a)
  unfolding pass_token_of pass_poll with_gap pause_of waited_of with_activity
  pass_steady c r gap a e =
      either S (pause_of p c now).over _ _ (either S gap _ _ (pass_poll_steady _ _ r a e) (pass_send_steady _ r a e)) (done_steady _ _ _ e tt)

  -- do_await_status_response
  unexpected_steady : (c : Core) (r : Ring) → On c → S (status_unexpected c r)
  unfolding status_unexpected
  unexpected_steady c r e = record { same = e; there = tt; unmet = tt; not_asked = tt }

  answered_steady : (c : Core) (r : Ring) → On c → S (status_answered c r)
  unfolding status_answered
  answered_steady c r e = record { same = e; there = tt; unmet = tt; not_asked = tt }

  status_steady : (c : Core) (r : Ring) (a : ℕ) (t : Telegram) → On c → S (status_received p c r a t)
  unfolding status_received
  status_steady c r a (telegram.Token destination source) e = unexpected_steady c r e
  status_steady c r a telegram.ShortConfirmation e = unexpected_steady c r e
  status_steady c r a (telegram.Request destination source asks) e = unexpected_steady c r e
  status_steady c r a (telegram.Response destination source state status) e =
      either S (eqb source a) _ _ (either S (eqb destination p.address) _ _ (answered_steady c _ e) (unexpected_steady c r e)) (unexpected_steady c r e)

  await_status_steady : (c : Core) (r : Ring) (a : ℕ) (count : ℕ) → On c → S (await_status_of p c r now a bytes n count)
  unfolding await_status_of rx_of slot_expired_of waited_of with_activity with_pending
  await_status_steady c r a count e =
      either S (ltb 0 count) _ _ (status_steady _ r a _ e)
      (either S (slot_expired_of p c now).over _ _ (pass_steady _ r false First e) (done_steady _ _ _ e tt))

  -- What telegrams of other stations lead to.
  abbrev H : Heard → Type 0
  H h = SteadyHeard v h

  heard_steady : (x : State) (c : Core) (r : Ring) (o : Outcome) → On c → There x → H (heard_of x c r o)
  unfolding heard_of
  heard_steady x c r o e k = record { heard_same = e; heard_there = k; heard_unmet = refl }

  accepted_steady : (c : Core) (r : Ring) → On c → H (accepted_of c r now)
  unfolding accepted_of
  accepted_steady c r e = heard_steady _ c r _ e tt

  to_us_steady : (c : Core) (r : Ring) (q m : Option ℕ) (destination source : ℕ) → On c → H (token_to_us c r now q m destination source)
  unfolding token_to_us
  to_us_steady c r q m destination source e =
      either H (eqb source (prev_of r)) _ _ (accepted_steady c r e)
      (either H (remembers m source) _ _ (accepted_steady c _ e) (heard_steady _ c _ _ e tt))

  witnessed_steady : (c : Core) (r : Ring) (q m : Option ℕ) (destination source : ℕ) → On c → H (token_witnessed c r q m destination source)
  unfolding token_witnessed
  witnessed_steady c r q m destination source e = heard_steady _ c _ _ e tt

  token_steady : (c : Core) (r : Ring) (q m : Option ℕ) (k destination source : ℕ) (last : Bool) → eqb source p.address ≡ false → On c → H (token_heard p c r now q m k destination source last)
  unfolding token_heard
  token_steady c r q m k destination source last other e =
      rw other
      (either H (eqb destination p.address) _ _ (either H last _ _ (to_us_steady c r q m destination source e) (witnessed_steady c r q m destination source e))
      (witnessed_steady c r q m destination source e))

  requested_steady : (c : Core) (r : Ring) (q m : Option ℕ) (k source : ℕ) (noted : Bool) → On c → H (active_requested c r q m k source noted)
  unfolding active_requested
  requested_steady c r q m k source noted e = either H noted _ _ (heard_steady _ c r _ e tt) (heard_steady _ c r _ e tt)

  active_steady : (c : Core) (r : Ring) (q m : Option ℕ) (k : ℕ) (t : Telegram) (last : Bool) → sent_by_us p.address t ≡ false → On c → H (active_heard p c r now q m k t last)
  unfolding active_heard sent_by_us
  active_steady c r q m k (telegram.Token destination source) last other e = token_steady c r q m k destination source last other e
  active_steady c r q m k telegram.ShortConfirmation last other e = heard_steady _ c r _ e tt
  active_steady c r q m k (telegram.Request destination source asks) last other e = requested_steady c r q m k source _ e
  active_steady c r q m k (telegram.Response destination source state status) last other e = heard_steady _ c r _ e tt

  handle_steady : (x : State) (c : Core) (r : Ring) (t : Telegram) (last : Bool) → sent_by_us p.address t ≡ false → On c → There x → H (handle_telegram p x c r now t last)
  unfolding handle_telegram
  handle_steady Offline c r t last other e k = heard_steady _ c r _ e k
  handle_steady (ListenToken q i) c r t last other e k = heard_steady _ c r _ e k
  handle_steady (ActiveIdle q m i) c r t last other e k = active_steady c r q m i t last other e
  handle_steady (UseToken i d) c r t last other e k = heard_steady _ c r _ e k
  handle_steady (ClaimToken f) c r t last other e k = heard_steady _ c r _ e k
  handle_steady (AwaitDataResponse a d) c r t last other e k = heard_steady _ c r _ e k
  handle_steady (PassToken g a) c r t last other e k = heard_steady _ c r _ e k
  handle_steady (CheckTokenPass a) c r t last other e k = heard_steady _ c r _ e k
  handle_steady (AwaitStatusResponse a) c r t last other e k = heard_steady _ c r _ e k
  handle_steady (PassiveIdle q) c r t last other e k = heard_steady _ c r _ e k

  listen_heard_steady : (c : Core) (r : Ring) (q : Option ℕ) (k : ℕ) (t : Telegram) (last : Bool) → sent_by_us p.address t ≡ false → On c → H (listen_heard p c r q k t last)
  unfolding listen_heard
  listen_heard_steady c r q k t last other e = rw other (heard_steady _ c _ _ e tt)

  passive_heard_steady : (c : Core) (r : Ring) (q : Option ℕ) (t : Telegram) (last : Bool) → sent_by_us p.address t ≡ false → On c → H (passive_heard p c r q t last)
  unfolding passive_heard
  passive_heard_steady c r q t last other e = rw other (heard_steady _ c _ _ e tt)

  listen_telegram_steady : (x : State) (c : Core) (r : Ring) (t : Telegram) (last : Bool) → sent_by_us p.address t ≡ false → On c → There x → H (listen_telegram p x c r t last)
  unfolding listen_telegram
  listen_telegram_steady Offline c r t last other e k = heard_steady _ c r _ e k
  listen_telegram_steady (ListenToken q i) c r t last other e k = listen_heard_steady c r q i t last other e
  listen_telegram_steady (ActiveIdle q m i) c r t last other e k = heard_steady _ c r _ e k
  listen_telegram_steady (UseToken i d) c r t last other e k = heard_steady _ c r _ e k
  listen_telegram_steady (ClaimToken f) c r t last other e k = heard_steady _ c r _ e k
  listen_telegram_steady (AwaitDataResponse a d) c r t last other e k = heard_steady _ c r _ e k
  listen_telegram_steady (PassToken g a) c r t last other e k = heard_steady _ c r _ e k
  listen_telegram_steady (CheckTokenPass a) c r t last other e k = heard_steady _ c r _ e k
  listen_telegram_steady (AwaitStatusResponse a) c r t last other e k = heard_steady _ c r _ e k
  listen_telegram_steady (PassiveIdle q) c r t last other e k = passive_heard_steady c r q t last other e

  -- no telegram of the record has our own address as source
  abbrev Others : ℕ → Type 0
  Others count = (j : ℕ) → j < count → sent_by_us p.address (telegram_at bytes n j) ≡ false

  one_steady : (h : Heard) (listening : Bool) (t : Telegram) (last : Bool) → sent_by_us p.address t ≡ false → H h → H (heard_telegram p h now listening t last)
  unfolding heard_telegram rx_of with_activity with_pending
  one_steady h listening t last other b =
      either H listening _ _ (listen_telegram_steady _ _ _ t last other b.heard_same b.heard_there) (handle_steady _ _ _ t last other b.heard_same b.heard_there)

  all_steady : (h : Heard) (listening : Bool) (count i : ℕ) → Others count → i ≤ count → H h → H (heard_all p h now listening bytes n count i)
  unfolding heard_all
  all_steady h listening count zero others l b = b
  all_steady h listening count (suc i) others l b = one_steady _ listening _ _ (others i (omega arith)) (all_steady h listening count i others (omega arith) b)

  not_met : (met here : ℕ) → met ≡ 0 → here ≡ 0 → met_too met here ≡ 0
  unfolding met_too
  not_met met here a b = rw (b, a) refl

  none_met : (h : Heard) (listening : Bool) (count i : ℕ) → Others count → i ≤ count → H h → met_in p h now listening bytes n count i ≡ 0
  unfolding met_in
  none_met h listening count zero others l b = refl
  none_met h listening count (suc i) others l b = not_met _ _ (none_met h listening count i others (omega arith) b) (all_steady h listening count (suc i) others l b).heard_unmet

  received_all_steady : (x : State) (c : Core) (r : Ring) (listening : Bool) (count : ℕ) → Others count → On c → There x → H (received_all p x c r now listening bytes n count)
  unfolding received_all
  received_all_steady x c r listening count others e k =
      let b = all_steady (heard_of x c r outcome.Bus) listening count count others (omega arith) (heard_steady x c r outcome.Bus e k) in
      record { heard_same = b.heard_same; heard_there = b.heard_there; heard_unmet = none_met (heard_of x c r outcome.Bus) listening count count others (omega arith) (heard_steady x c r outcome.Bus e k) }

  meetings_none : (met : ℕ) → met ≡ 0 → Unmet (meetings_of met)
  unfolding meetings_of
  meetings_none met z = rw z tt

  consumed_steady : (h : Heard) (count : ℕ) → H h → S (consumed_all h count)
  unfolding consumed_all
  consumed_steady h count b = record { same = b.heard_same; there = b.heard_there; unmet = meetings_none h.met b.heard_unmet; not_asked = tt }

  -- do_check_token_pass
  removal_unmet : (x : Option ℕ) → Unmet (removal_of x)
  unfolding removal_of
  removal_unmet None = tt
  removal_unmet (Some a) = tt

  resend_steady : (c : Core) (r : Ring) (a : PassTokenAttempt) → On c → S (resend_of p c r now a)
  unfolding resend_of
  resend_steady c r First e = pass_steady _ r false Second e
  resend_steady c r Second e = pass_steady _ r false Third e
  resend_steady c r Third e = event_steady _ _ (removal_unmet _) (pass_steady _ _ false First e)

  check_steady : (c : Core) (r : Ring) (a : PassTokenAttempt) (count : ℕ) → Others count → On c → S (check_token_pass_of p c r now a bytes n count)
  unfolding check_token_pass_of check_received slot_expired_of waited_of with_activity
  check_steady c r a count others e =
      either S (slot_expired_of p c now).over _ _ (resend_steady _ r a e)
      (either S (ltb 0 count) _ _ (consumed_steady _ count (received_all_steady _ _ r false count others e tt)) (done_steady _ _ _ e tt))

  -- do_listen_token and do_active_idle
  respond_steady : (waiting answered : State) (c : Core) (r : Ring) (source : ℕ) (type : _) → There waiting → There answered → On c → S (respond_of p waiting answered c r now source type)
  unfolding respond_of pause_of waited_of with_activity
  respond_steady waiting answered c r source type w a e = either S (pause_of p c now).over _ _ (transmit_steady _ _ _ e a tt) (done_steady _ _ _ e w)

  lost_steady : (c : Core) (r : Ring) (rest : Core → RingStep) → On c → ((d : Core) → On d → S (rest d)) → S (handle_lost_token p c r now rest)
  unfolding handle_lost_token token_lost_wait_of waited_of with_activity
  lost_steady c r rest e f = either S (token_lost_wait_of p c now).over _ _ (event_steady _ event.Claim tt (claim_steady _ r true e)) (f _ e)

  answered_there : (r : Ring) (k : ℕ) → There (listen_answered r k)
  unfolding listen_answered
  answered_there r k = either There r.ready _ _ tt tt

  listen_on_steady : (q : Option ℕ) (c : Core) (r : Ring) (k count : ℕ) → Others count → On c → S (listen_token_on q p c r now k bytes n count)
  unfolding listen_token_on listen_response
  listen_on_steady None c r k count others e = consumed_steady _ count (received_all_steady _ c r true count others e tt)
  listen_on_steady (Some source) c r k count others e = respond_steady _ _ c r source _ tt (answered_there r k) e

  listen_steady : (q : Option ℕ) (c : Core) (r : Ring) (k count : ℕ) → Others count → On c → S (listen_token_of p c r now q k bytes n count)
  unfolding listen_token_of
  listen_steady q c r k count others e = lost_steady c r _ e (λ d o. listen_on_steady q d r k count others o)

  idle_on_steady : (q : Option ℕ) (c : Core) (r : Ring) (m : Option ℕ) (k count : ℕ) → Others count → On c → S (active_idle_on q p c r now m k bytes n count)
  unfolding active_idle_on active_response
  idle_on_steady None c r m k count others e = consumed_steady _ count (received_all_steady _ c r false count others e tt)
  idle_on_steady (Some source) c r m k count others e = respond_steady _ _ c r source _ tt tt e

  idle_steady : (q m : Option ℕ) (c : Core) (r : Ring) (k count : ℕ) → Others count → On c → S (active_idle_of p c r now q m k bytes n count)
  unfolding active_idle_of
  idle_steady q m c r k count others e = lost_steady c r _ e (λ d o. idle_on_steady q d r m k count others o)

  -- poll_inner, by what the state's step does
  online_steady : (x : State) (c : Core) (r : Ring) (t : Bool) (pending count : ℕ) → On c → There x → ((d : Core) → On d → S (dispatch_of p x d r now bytes n count)) → S (poll_online p x c r now t pending bytes n count)
  unfolding poll_online bus_activity_of with_activity with_pending
  online_steady x c r t pending count e k steps = either S (ongoing_of c.last_bus_activity now t) _ _ (done_steady _ _ _ e k) (steps _ (either On (ltb c.pending_bytes pending) _ _ e e))

  -- of an online station, by the state before the poll
  pub connected_steady : (x : State) (c : Core) (r : Ring) (t : Bool) (pending count : ℕ) → Others count → On c → S (poll_online p (connected_of x) c r now t pending bytes n count)
  unfolding connected_of dispatch_of
  connected_steady Offline c r t pending count others e = online_steady _ c r t pending count e tt (λ d o. listen_steady _ d r _ count others o)
  connected_steady (ListenToken q i) c r t pending count others e = online_steady _ c r t pending count e tt (λ d o. listen_steady q d r i count others o)
  connected_steady (ActiveIdle q m i) c r t pending count others e = online_steady _ c r t pending count e tt (λ d o. idle_steady q m d r i count others o)
  connected_steady (UseToken i h) c r t pending count others e = online_steady _ c r t pending count e tt (λ d o. use_steady d h i o)
  connected_steady (ClaimToken f) c r t pending count others e = online_steady _ c r t pending count e tt (λ d o. claim_steady d r f o)
  connected_steady (AwaitDataResponse a h) c r t pending count others e = online_steady _ c r t pending count e tt (λ d o. await_data_steady d a h count o)
  connected_steady (PassToken g a) c r t pending count others e = online_steady _ c r t pending count e tt (λ d o. pass_steady d r g a o)
  connected_steady (CheckTokenPass a) c r t pending count others e = online_steady _ c r t pending count e tt (λ d o. check_steady d r a count others o)
  connected_steady (AwaitStatusResponse a) c r t pending count others e = online_steady _ c r t pending count e tt (λ d o. await_status_steady d r a count o)
  connected_steady (PassiveIdle q) c r t pending count others e = online_steady _ c r t pending count e tt (λ d o. listen_steady _ d r _ count others o)
