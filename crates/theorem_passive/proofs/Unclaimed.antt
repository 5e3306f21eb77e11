-- The other states of a passive station: a poll leaves it passive, and enters ClaimToken from none of them. One law for each step of
-- the states that a passive station goes on in.
use Prim.Native.Nat.{ℕ, zero, suc}
use Rattle.std.specs.Prelude.{Bool, ◌≡◌, refl, List, ltb, eqb, Option, None, Some}
use Rattle.std.proofs.Math.Bool.{true, false}
use Rattle.std.proofs.Common.{◌∙◌, arith}
use Rattle.bit_times.specs.declared.micros.Micros.{Micros}
use Rattle.settings.specs.declared.parameters.Parameters.{Parameters}
use Rattle.ring.specs.declared.GapState.{GapState}
use Rattle.ring.specs.declared.GapState.TheVariants.{Waiting, DoPoll}
use Rattle.ring.specs.Ring.{Ring, prev_of}
use Rattle.codec_telegrams.specs.declared.Telegram.{Telegram}
use Rattle.codec_telegrams.specs.declared.Telegram.TheVariants as telegram
use Rattle.codec_decisions.specs.declared.Decision.{Decision}
use Rattle.codec_decisions.specs.declared.Decision.TheVariants as decision
use Rattle.codec_answers.specs.declared.Outcome.{Outcome}
use Rattle.codec_answers.specs.declared.Outcome.TheVariants as outcome
use Rattle.codec_answers.specs.declared.Sent.{Sent}
use Rattle.station.specs.declared.state.ConnectivityState.{ConnectivityState}
use Rattle.station.specs.declared.state.PassTokenAttempt.{PassTokenAttempt}
use Rattle.station.specs.declared.state.PassTokenAttempt.TheVariants.{First, Second, Third}
use Rattle.station.specs.declared.state.UseTokenData.{UseTokenData}
use Rattle.station.specs.declared.state.State.{State}
use Rattle.station.specs.declared.state.State.TheVariants.{Offline, ListenToken, ActiveIdle, UseToken, ClaimToken, AwaitDataResponse, PassToken, CheckTokenPass, AwaitStatusResponse, PassiveIdle}
use Rattle.station.specs.declared.parts.Core.{Core}
use Rattle.station.specs.declared.done.Event.{Event}
use Rattle.station.specs.Whole.{RingStep, Heard}
use Rattle.station.specs.Parts.{with_activity, with_pending, with_gap, with_next_application, state_number}
use Rattle.station.specs.Steps.{ongoing_of, waited_of, pause_of, slot_expired_of, rx_of, bus_activity_of, done_of, transmit_of, with_event, heard_of, collision_of}
use Rattle.station_claim.specs.Claim.{claim_next, claim_token_of}
use Rattle.station_hold.specs.Hold.{Asked, use_pass_of, app_transmit_of, use_apps_after, use_apps_of, holds_of, use_token_timed, use_token_of, valid_response, received_of, with_notice, timeout_of, await_data_of}
use Rattle.station_hear_active.specs.HearActive.{remembers, active_collided, accepted_of, token_to_us, token_witnessed, token_heard, active_requested, active_heard, handle_telegram}
use Rattle.station_listen.specs.Listen.{heard_telegram, heard_all, with_met, received_all, meetings_of, consumed_all}
use Rattle.station_pass.specs.Pass.{pass_sent_on, pass_send, pass_poll_on, pass_poll, pass_token_of}
use Rattle.station_await_status.specs.AwaitStatus.{status_answered, status_unexpected, status_received, await_status_of}
use Rattle.station_check_pass.specs.CheckPass.{removal_of, resend_of, check_received, check_token_pass_of}
use Rattle.station_poll.specs.Poll.{passivated_of, dispatch_of, poll_online}
use Rattle.theorem_sound.specs.Keeps.{either}
use Rattle.theorem_sound.proofs.Kept.{hold_online}
use Rattle.theorem_passive.proofs.Idle.{poll_idle}
use Rattle.theorem_passive.specs.Unclaimed.{NoClaim, Unclaimed}

-- what `Unclaimed` says of a step, of what telegrams lead to
record UnclaimedHeard (v : ConnectivityState) (K : Type 0) (h : Heard) : Type 0 where
  pub heard_same : h.core.connectivity_state ≡ v
  pub heard_claims : state_number h.state ≡ 4 → K

module _ (p : Parameters) (now : Micros) (v : ConnectivityState) (K : Type 0) where
  -- the core is such a one, and the state of such a number
  abbrev On : Core → Type 0
  On c = c.connectivity_state ≡ v

  abbrev Ends : State → Type 0
  Ends x = state_number x ≡ 4 → K

  abbrev U : RingStep → Type 0
  U x = Unclaimed v K x.step

  done_un : (x : State) (c : Core) (o : Outcome) → On c → Ends x → Unclaimed v K (done_of x c o)
  unfolding done_of
  done_un x c o e k = record { same = e; claims = k; no_entry = tt }

  transmit_un : (x : State) (c : Core) (s : Sent) → On c → Ends x → Unclaimed v K (transmit_of p x c now s)
  unfolding transmit_of with_activity
  transmit_un x c s e k = record { same = e; claims = k; no_entry = tt }

  -- do_claim_token, of a station that is in ClaimToken already
  claim_next_un : (c : Core) (first : Bool) (s : Sent) → On c → K → Unclaimed v K (transmit_of p (claim_next now first) c now s)
  unfolding claim_next
  claim_next_un c first s e k = transmit_un _ c s e (λ z. k)

  claim_un : (c : Core) (r : Ring) (first : Bool) → On c → K → U (claim_token_of p c r now first)
  unfolding claim_token_of pause_of waited_of with_activity
  claim_un c r first e k = either U (pause_of p c now).over _ _ (claim_next_un _ first _ e k) (done_un _ _ _ e (λ z. k))

  -- do_use_token
  use_pass_un : (c : Core) → On c → Unclaimed v K (use_pass_of c)
  unfolding use_pass_of
  use_pass_un c e = done_un _ _ _ e (λ z. absurd (omega arith))

  app_un : (c : Core) (held : UseTokenData) (d : Decision) (high : Bool) → On c → Unclaimed v K (app_transmit_of p c now held d high)
  unfolding app_transmit_of
  app_un c held decision.Decline high e = use_pass_un c e
  app_un c held (decision.Send size) high e = transmit_un _ c _ e (λ z. absurd (omega arith))
  app_un c held (decision.SendExpectReply a size) high e = transmit_un _ c _ e (λ z. absurd (omega arith))

  apps_after_un : (c : Core) (held : UseTokenData) (bytes : List ℕ) (n : ℕ) (high : Bool) (a : Asked) → On c → Unclaimed v K (use_apps_after p c now held bytes n high a)
  unfolding use_apps_after with_next_application
  apps_after_un c held bytes n high a e = either (Unclaimed v K) a.sends _ _ (app_un _ _ _ high e) (use_pass_un _ e)

  apps_un : (c : Core) (held : UseTokenData) (bytes : List ℕ) (n : ℕ) (high : Bool) → On c → Unclaimed v K (use_apps_of p c now held bytes n high)
  unfolding use_apps_of
  apps_un c held bytes n high e = apps_after_un c held bytes n high _ e

  use_timed_un : (c : Core) (held : UseTokenData) (cycled : Bool) (bytes : List ℕ) (n : ℕ) → On c → Unclaimed v K (use_token_timed p c now held cycled bytes n)
  unfolding use_token_timed pause_of waited_of with_activity
  use_timed_un c held cycled bytes n e =
      either (Unclaimed v K) (pause_of p c now).over _ _
      (either (Unclaimed v K) (holds_of now c.end_token_hold_time) _ _ (apps_un _ held bytes n false e)
      (either (Unclaimed v K) cycled _ _ (use_pass_un _ e) (apps_un _ held bytes n true e)))
      (done_un _ _ _ e (λ z. absurd (omega arith)))

  use_un : (c : Core) (held : UseTokenData) (cycled : Bool) (bytes : List ℕ) (n : ℕ) → On c → Unclaimed v K (use_token_of p c now held cycled bytes n)
  unfolding use_token_of
  use_un c held cycled bytes n e = use_timed_un _ held cycled bytes n (hold_online p c held.token_time ∙ e)

  -- do_await_data_response
  received_un : (c : Core) (a : ℕ) (held : UseTokenData) (t : Telegram) → On c → Unclaimed v K (received_of p c now a held t)
  unfolding received_of rx_of with_activity with_pending
  received_un c a held t e =
      either (Unclaimed v K) (valid_response t a p.address) _ _ (record { same = e; claims = λ z. absurd (omega arith); no_entry = tt }) (record { same = e; claims = λ z. absurd (omega arith); no_entry = tt })

  timeout_un : (c : Core) (a : ℕ) (held : UseTokenData) (bytes : List ℕ) (n : ℕ) → On c → Unclaimed v K (timeout_of p c now a held bytes n)
  unfolding timeout_of with_notice
  timeout_un c a held bytes n e = let u = use_un c held true bytes n e in record { same = u.same; claims = u.claims; no_entry = u.no_entry }

  await_data_un : (c : Core) (a : ℕ) (held : UseTokenData) (bytes : List ℕ) (n count : ℕ) → On c → Unclaimed v K (await_data_of p c now a held bytes n count)
  unfolding await_data_of slot_expired_of waited_of with_activity
  await_data_un c a held bytes n count e =
      either (Unclaimed v K) (ltb 0 count) _ _ (received_un c a held _ e)
      (either (Unclaimed v K) (slot_expired_of p c now).over _ _ (timeout_un _ a held bytes n e) (done_un _ _ _ e (λ z. absurd (omega arith))))

  -- do_pass_token
  pass_sent_un : (x : Option ℕ) (c : Core) (a : PassTokenAttempt) (to : ℕ) (r : Ring) → On c → U (pass_sent_on x p c now a to r)
  unfolding pass_sent_on
  pass_sent_un None c a to r e = transmit_un _ c _ e (λ z. absurd (omega arith))
  pass_sent_un (Some next) c a to r e = transmit_un _ c _ e (λ z. absurd (omega arith))

  pass_send_un : (c : Core) (r : Ring) (a : PassTokenAttempt) → On c → U (pass_send p c r now a)
  unfolding pass_send
  pass_send_un c r a e = pass_sent_un _ c a _ _ e

  pass_poll_un : (g : GapState) (c : Core) (r : Ring) (a : PassTokenAttempt) → On c → U (pass_poll_on g p c r now a)
  unfolding pass_poll_on
  pass_poll_un (Waiting count) c r a e = pass_send_un c r a e
  pass_poll_un (DoPoll current) c r a e = transmit_un _ c _ e (λ z. absurd (omega arith))

  pass_un : (c : Core) (r : Ring) (gap : Bool) (a : PassTokenAttempt) → On c → U (pass_token_of p c r now gap a)
  unfolding pass_token_of pass_poll with_gap pause_of waited_of with_activity
  pass_un c r gap a e =
      either U (pause_of p c now).over _ _ (either U gap _ _ (pass_poll_un _ _ r a e) (pass_send_un _ r a e)) (done_un _ _ _ e (λ z. absurd (omega arith)))

  -- do_await_status_response
  unexpected_un : (c : Core) (r : Ring) → On c → U (status_unexpected c r)
  unfolding status_unexpected
  unexpected_un c r e = record { same = e; claims = λ z. absurd (omega arith); no_entry = tt }

  answered_un : (c : Core) (r : Ring) → On c → U (status_answered c r)
  unfolding status_answered
  answered_un c r e = record { same = e; claims = λ z. absurd (omega arith); no_entry = tt }

  status_un : (c : Core) (r : Ring) (a : ℕ) (t : Telegram) → On c → U (status_received p c r a t)
  unfolding status_received
  status_un c r a (telegram.Token destination source) e = unexpected_un c r e
  status_un c r a telegram.ShortConfirmation e = unexpected_un c r e
  status_un c r a (telegram.Request destination source asks) e = unexpected_un c r e
  status_un c r a (telegram.Response destination source state status) e =
      either U (eqb source a) _ _ (either U (eqb destination p.address) _ _ (answered_un c _ e) (unexpected_un c r e)) (unexpected_un c r e)

  await_status_un : (c : Core) (r : Ring) (a : ℕ) (bytes : List ℕ) (n count : ℕ) → On c → U (await_status_of p c r now a bytes n count)
  unfolding await_status_of rx_of slot_expired_of waited_of with_activity with_pending
  await_status_un c r a bytes n count e =
      either U (ltb 0 count) _ _ (status_un _ r a _ e)
      (either U (slot_expired_of p c now).over _ _ (pass_un _ r false First e) (done_un _ _ _ e (λ z. absurd (omega arith))))

  -- do_check_token_pass: the telegrams are heard in ActiveIdle
  abbrev H : Heard → Type 0
  H h = UnclaimedHeard v K h

  heard_un : (x : State) (c : Core) (r : Ring) (o : Outcome) → On c → Ends x → H (heard_of x c r o)
  unfolding heard_of
  heard_un x c r o e k = record { heard_same = e; heard_claims = k }

  collision_un : (x : State) (c : Core) (r : Ring) → On c → Ends x → H (collision_of x c r)
  unfolding collision_of
  collision_un x c r e k = record { heard_same = e; heard_claims = k }

  collided_un : (c : Core) (r : Ring) (q m : Option ℕ) (k : ℕ) → On c → H (active_collided c r q m k)
  unfolding active_collided
  collided_un c r q m k e = either H (eqb k 0) _ _ (collision_un _ c r e (λ z. absurd (omega arith))) (collision_un _ c r e (λ z. absurd (omega arith)))

  accepted_un : (c : Core) (r : Ring) → On c → H (accepted_of c r now)
  unfolding accepted_of
  accepted_un c r e = heard_un _ c r _ e (λ z. absurd (omega arith))

  to_us_un : (c : Core) (r : Ring) (q m : Option ℕ) (destination source : ℕ) → On c → H (token_to_us c r now q m destination source)
  unfolding token_to_us
  to_us_un c r q m destination source e =
      either H (eqb source (prev_of r)) _ _ (accepted_un c r e)
      (either H (remembers m source) _ _ (accepted_un c _ e) (heard_un _ c _ _ e (λ z. absurd (omega arith))))

  witnessed_un : (c : Core) (r : Ring) (q m : Option ℕ) (destination source : ℕ) → On c → H (token_witnessed c r q m destination source)
  unfolding token_witnessed
  witnessed_un c r q m destination source e = heard_un _ c _ _ e (λ z. absurd (omega arith))

  token_un : (c : Core) (r : Ring) (q m : Option ℕ) (k destination source : ℕ) (last : Bool) → On c → H (token_heard p c r now q m k destination source last)
  unfolding token_heard
  token_un c r q m k destination source last e =
      either H (eqb source p.address) _ _ (collided_un c r q m k e)
      (either H (eqb destination p.address) _ _ (either H last _ _ (to_us_un c r q m destination source e) (witnessed_un c r q m destination source e))
      (witnessed_un c r q m destination source e))

  requested_un : (c : Core) (r : Ring) (q m : Option ℕ) (k source : ℕ) (noted : Bool) → On c → H (active_requested c r q m k source noted)
  unfolding active_requested
  requested_un c r q m k source noted e =
      either H noted _ _ (heard_un _ c r _ e (λ z. absurd (omega arith))) (heard_un _ c r _ e (λ z. absurd (omega arith)))

  active_un : (c : Core) (r : Ring) (q m : Option ℕ) (k : ℕ) (t : Telegram) (last : Bool) → On c → H (active_heard p c r now q m k t last)
  unfolding active_heard
  active_un c r q m k (telegram.Token destination source) last e = token_un c r q m k destination source last e
  active_un c r q m k telegram.ShortConfirmation last e = heard_un _ c r _ e (λ z. absurd (omega arith))
  active_un c r q m k (telegram.Request destination source asks) last e = requested_un c r q m k source _ e
  active_un c r q m k (telegram.Response destination source state status) last e = heard_un _ c r _ e (λ z. absurd (omega arith))

  handle_un : (x : State) (c : Core) (r : Ring) (t : Telegram) (last : Bool) → On c → Ends x → H (handle_telegram p x c r now t last)
  unfolding handle_telegram
  handle_un Offline c r t last e k = heard_un _ c r _ e k
  handle_un (ListenToken q i) c r t last e k = heard_un _ c r _ e k
  handle_un (ActiveIdle q m i) c r t last e k = active_un c r q m i t last e
  handle_un (UseToken i d) c r t last e k = heard_un _ c r _ e k
  handle_un (ClaimToken f) c r t last e k = heard_un _ c r _ e k
  handle_un (AwaitDataResponse a d) c r t last e k = heard_un _ c r _ e k
  handle_un (PassToken g a) c r t last e k = heard_un _ c r _ e k
  handle_un (CheckTokenPass a) c r t last e k = heard_un _ c r _ e k
  handle_un (AwaitStatusResponse a) c r t last e k = heard_un _ c r _ e k
  handle_un (PassiveIdle q) c r t last e k = heard_un _ c r _ e k

  met_un : (h : Heard) (met : ℕ) → H h → H (with_met h met)
  met_un h met b = record { heard_same = b.heard_same; heard_claims = b.heard_claims }

  all_un : (x : State) (c : Core) (r : Ring) (bytes : List ℕ) (n count i : ℕ) → On c → Ends x → H (heard_all p (heard_of x c r outcome.Bus) now false bytes n count i)
  unfolding heard_all heard_telegram rx_of with_activity with_pending
  all_un x c r bytes n count zero e k = heard_un x c r _ e k
  all_un x c r bytes n count (suc i) e k =
      let b = all_un x c r bytes n count i e k in
      handle_un _ _ _ _ _ b.heard_same b.heard_claims

  meetings_un : (met : ℕ) → NoClaim (meetings_of met)
  unfolding meetings_of
  meetings_un met = either NoClaim (eqb met 0) _ _ tt tt

  consumed_un : (h : Heard) (count : ℕ) → H h → U (consumed_all h count)
  unfolding consumed_all
  consumed_un h count b = record { same = b.heard_same; claims = b.heard_claims; no_entry = meetings_un h.met }

  removal_un : (x : Option ℕ) → NoClaim (removal_of x)
  unfolding removal_of
  removal_un None = tt
  removal_un (Some a) = tt

  event_un : (x : RingStep) (k : Event) → NoClaim k → U x → U (with_event x k)
  unfolding with_event
  event_un x k o u = record { same = u.same; claims = u.claims; no_entry = o }

  resend_un : (c : Core) (r : Ring) (a : PassTokenAttempt) → On c → U (resend_of p c r now a)
  unfolding resend_of
  resend_un c r First e = pass_un _ r false Second e
  resend_un c r Second e = pass_un _ r false Third e
  resend_un c r Third e = event_un _ _ (removal_un _) (pass_un _ _ false First e)

  check_un : (c : Core) (r : Ring) (a : PassTokenAttempt) (bytes : List ℕ) (n count : ℕ) → On c → U (check_token_pass_of p c r now a bytes n count)
  unfolding check_token_pass_of check_received received_all slot_expired_of waited_of with_activity
  check_un c r a bytes n count e =
      either U (slot_expired_of p c now).over _ _ (resend_un _ r a e)
      (either U (ltb 0 count) _ _ (consumed_un _ count (met_un _ _ (all_un _ _ r bytes n count count e (λ z. absurd (omega arith))))) (done_un _ _ _ e (λ z. absurd (omega arith))))

  -- poll_inner, by what the state's step does
  online_un : (x : State) (c : Core) (r : Ring) (t : Bool) (pending : ℕ) (bytes : List ℕ) (n count : ℕ) → On c → Ends x → ((d : Core) → On d → U (dispatch_of p x d r now bytes n count)) → U (poll_online p x c r now t pending bytes n count)
  unfolding poll_online bus_activity_of with_activity with_pending
  online_un x c r t pending bytes n count e k steps =
      either U (ongoing_of c.last_bus_activity now t) _ _ (done_un _ _ _ e k) (steps _ (bus_on))
    where
      bus_on : On (bus_activity_of c now pending)
      bus_on = either On (ltb c.pending_bytes pending) _ _ e e

  idle_un : (q : Option ℕ) (c : Core) (r : Ring) (t : Bool) (pending : ℕ) (bytes : List ℕ) (n count : ℕ) → On c → U (poll_online p (PassiveIdle q) c r now t pending bytes n count)
  idle_un q c r t pending bytes n count e =
      let s = poll_idle p q c r now t pending bytes n count in
      record { same = s.parts.connected ∙ e; claims = λ z. absurd (never s.idle.0 (rw s.idle.1 at z)); no_entry = rw s.uncounted tt }
    where
      never : (q' : Option ℕ) → state_number (PassiveIdle q') ≡ 4 → ⊥
      never q' z = omega arith

  -- of a passive station, by the state before the poll
  pub passive_un : (x : State) (c : Core) (r : Ring) (t : Bool) (pending : ℕ) (bytes : List ℕ) (n count : ℕ) → On c → Ends x → U (poll_online p (passivated_of x) c r now t pending bytes n count)
  unfolding passivated_of dispatch_of
  passive_un Offline c r t pending bytes n count e k = idle_un _ c r t pending bytes n count e
  passive_un (ListenToken q i) c r t pending bytes n count e k = idle_un _ c r t pending bytes n count e
  passive_un (ActiveIdle q m i) c r t pending bytes n count e k = idle_un _ c r t pending bytes n count e
  passive_un (UseToken i d) c r t pending bytes n count e k = online_un _ c r t pending bytes n count e k (λ x o. use_un x d i bytes n o)
  passive_un (ClaimToken f) c r t pending bytes n count e k = online_un _ c r t pending bytes n count e k (λ x o. claim_un x r f o (k refl))
  passive_un (AwaitDataResponse a d) c r t pending bytes n count e k = online_un _ c r t pending bytes n count e k (λ x o. await_data_un x a d bytes n count o)
  passive_un (PassToken g a) c r t pending bytes n count e k = online_un _ c r t pending bytes n count e k (λ x o. pass_un x r g a o)
  passive_un (CheckTokenPass a) c r t pending bytes n count e k = online_un _ c r t pending bytes n count e k (λ x o. check_un x r a bytes n count o)
  passive_un (AwaitStatusResponse a) c r t pending bytes n count e k = online_un _ c r t pending bytes n count e k (λ x o. await_status_un x r a bytes n count o)
  passive_un (PassiveIdle q) c r t pending bytes n count e k = idle_un q c r t pending bytes n count e
