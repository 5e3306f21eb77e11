-- What guards a send: a step that asks whether a time is over sends only where it is, and so it is with a timeout that is told (`Guarded`
-- and `Told` of specs/Guarded).
use Rattle.std.specs.Prelude.{ℕ, Bool, cond, ◌≡◌, refl, List, ltb, eqb, Option, Some, None}
use Rattle.std.proofs.Math.Bool.{true, false}
use Rattle.std.proofs.Common.{sym, ◌∙◌}
use Rattle.std.proofs.Math.Path.{ap}
use Rattle.bit_times.specs.declared.micros.Micros.{Micros}
use Rattle.bit_times.specs.Times.{pause_bits, time_of}
use Rattle.settings.specs.declared.parameters.Parameters.{Parameters}
use Rattle.ring.specs.Ring.{Ring}
use Rattle.codec_telegrams.specs.declared.ResponseState.{ResponseState}
use Rattle.codec_telegrams.specs.declared.Telegram.{Telegram}
use Rattle.codec_telegrams.specs.declared.Telegram.TheVariants as telegram
use Rattle.codec_answers.specs.declared.Outcome.{Outcome}
use Rattle.codec_answers.specs.declared.Notice.{Notice}
use Rattle.station.specs.declared.state.PassTokenAttempt.{PassTokenAttempt}
use Rattle.station.specs.declared.state.PassTokenAttempt.TheVariants.{First, Second, Third}
use Rattle.station.specs.declared.state.UseTokenData.{UseTokenData}
use Rattle.station.specs.declared.state.State.{State}
use Rattle.station.specs.declared.state.State.TheVariants.{Offline, ListenToken, ActiveIdle, UseToken, ClaimToken, AwaitDataResponse, PassToken, CheckTokenPass, AwaitStatusResponse, PassiveIdle}
use Rattle.station.specs.declared.parts.Core.{Core}
use Rattle.station.specs.declared.done.Event.{Event}
use Rattle.station.specs.Whole.{Step, RingStep, Heard}
use Rattle.station.specs.Parts.{with_activity, state_number}
use Rattle.station.specs.Steps.{known_at, elapsed_of, waited_of, pause_of, slot_expired_of, token_lost_wait_of, done_of, with_event}
use Rattle.station_claim.specs.Claim.{claim_token_of}
use Rattle.station_hold.specs.Hold.{valid_response, hold_end_of, use_token_timed, use_token_of, received_of, with_notice, timeout_of, await_data_of}
use Rattle.station_listen.specs.Listen.{handle_lost_token, respond_of, listen_response, consumed_all, listen_token_on, listen_token_of, active_response, active_idle_on, active_idle_of}
use Rattle.station_passive.specs.Passive.{passive_idle_of}
use Rattle.station_pass.specs.Pass.{pass_token_of}
use Rattle.station_await_status.specs.AwaitStatus.{status_answered, status_unexpected, status_received, await_status_of}
use Rattle.station_check_pass.specs.CheckPass.{resend_of, check_received, check_token_pass_of}
use Rattle.station_poll.specs.Poll.{dispatch_of}
use Rattle.theorem_sound.specs.Keeps.{either}
use Rattle.theorem_sound.specs.Waits.{waiting}
use Rattle.theorem_sound.specs.Moves.{lists}
use Rattle.theorem_sound.proofs.Kept.{not-true, hold_activity}
use Rattle.theorem_sound.specs.Guarded.{Guarded, Told}

pub weaken : {P Q : Type 0} {s : Step} → (P → Q) → Guarded P s → Guarded Q s
weaken f g = record { guard = λ s. f (g.guard s) }

-- what is counted of a step sends nothing
event_guarded : (Q : Type 0) (x : RingStep) (e : Event) → Guarded Q x.step → Guarded Q (with_event x e).step
unfolding with_event
event_guarded Q x e g = record { guard = g.guard }

-- a step that sends nothing
pub done_guarded : (Q : Type 0) (x : State) (c : Core) (o : Outcome) → Guarded Q (done_of x c o)
unfolding done_of
done_guarded Q x c o = record { guard = λ s. absurd (s refl) }

consumed_guarded : (Q : Type 0) (h : Heard) (count : ℕ) → Guarded Q (consumed_all h count).step
unfolding consumed_all
consumed_guarded Q h count = record { guard = λ s. absurd (s refl) }

-- a choice by a test that is Q sends only where Q holds, if its other way does
tested : (b : Bool) (x y : Step) → Guarded (b ≡ true) y → Guarded (b ≡ true) (cond b x y)
tested true x y g = record { guard = λ s. refl }
tested false x y g = g

tested_ring : (b : Bool) (x y : RingStep) → Guarded (b ≡ true) y.step → Guarded (b ≡ true) (cond b x y).step
tested_ring true x y g = record { guard = λ s. refl }
tested_ring false x y g = g

pub retold : {P Q : Type 0} {s : Step} → (P → Q) → Told P s → Told Q s
retold f g = record { told = λ t. f (g.told t) }

pub done_told : (Q : Type 0) (x : State) (c : Core) (o : Outcome) → Told Q (done_of x c o)
unfolding done_of
done_told Q x c o = record { told = λ x. absurd x }

tested_told : (b : Bool) (x y : Step) → Told (b ≡ true) y → Told (b ≡ true) (cond b x y)
tested_told true x y g = record { told = λ t. refl }
tested_told false x y g = g

tested_ring_told : (b : Bool) (x y : RingStep) → Told (b ≡ true) y.step → Told (b ≡ true) (cond b x y).step
tested_ring_told true x y g = record { told = λ t. refl }
tested_ring_told false x y g = g

consumed_told : (Q : Type 0) (h : Heard) (count : ℕ) → Told Q (consumed_all h count).step
unfolding consumed_all
consumed_told Q h count = record { told = λ x. absurd x }

module _ (p : Parameters) (now : Micros) where
  -- the pause since this core's activity is over
  abbrev Pause : Core → Type 0
  Pause c = (pause_of p c now).over ≡ true

  -- do_claim_token
  claim_guarded : (c : Core) (r : Ring) (first : Bool) → Guarded (Pause c) (claim_token_of p c r now first).step
  unfolding claim_token_of
  claim_guarded c r first = tested_ring _ _ _ (done_guarded _ _ _ _)

  -- handle_lost_token: asking for a lost token leaves the pause as it is
  lost_guarded : (c : Core) (r : Ring) (rest : Core → RingStep) → ((d : Core) → Guarded (Pause d) (rest d).step) → Guarded (Pause c) (handle_lost_token p c r now rest).step
  unfolding handle_lost_token token_lost_wait_of pause_of waited_of with_activity known_at
  lost_guarded c r rest g =
      either (λ (x : RingStep). Guarded (Pause c) x.step) (token_lost_wait_of p c now).over _ _ (event_guarded _ _ _ (claim_guarded _ r true)) (g _)

  -- a status request answered
  respond_guarded : (x y : State) (c : Core) (r : Ring) (source : ℕ) (type : ResponseState) → Guarded (Pause c) (respond_of p x y c r now source type).step
  unfolding respond_of
  respond_guarded x y c r source type = tested_ring _ _ _ (done_guarded _ _ _ _)

  -- do_listen_token
  listen_on_guarded : (q : Option ℕ) (c : Core) (r : Ring) (k : ℕ) (bytes : List ℕ) (n count : ℕ) → Guarded (Pause c) (listen_token_on q p c r now k bytes n count).step
  unfolding listen_token_on listen_response
  listen_on_guarded None c r k bytes n count = consumed_guarded _ _ count
  listen_on_guarded (Some source) c r k bytes n count = respond_guarded _ _ c r source _

  listen_guarded : (c : Core) (r : Ring) (q : Option ℕ) (k : ℕ) (bytes : List ℕ) (n count : ℕ) → Guarded (Pause c) (listen_token_of p c r now q k bytes n count).step
  unfolding listen_token_of
  listen_guarded c r q k bytes n count = lost_guarded c r _ (λ d. listen_on_guarded q d r k bytes n count)

  -- do_active_idle
  active_on_guarded : (q : Option ℕ) (c : Core) (r : Ring) (m : Option ℕ) (k : ℕ) (bytes : List ℕ) (n count : ℕ) → Guarded (Pause c) (active_idle_on q p c r now m k bytes n count).step
  unfolding active_idle_on active_response
  active_on_guarded None c r m k bytes n count = consumed_guarded _ _ count
  active_on_guarded (Some source) c r m k bytes n count = respond_guarded _ _ c r source _

  active_guarded : (c : Core) (r : Ring) (q m : Option ℕ) (k : ℕ) (bytes : List ℕ) (n count : ℕ) → Guarded (Pause c) (active_idle_of p c r now q m k bytes n count).step
  unfolding active_idle_of
  active_guarded c r q m k bytes n count = lost_guarded c r _ (λ d. active_on_guarded q d r m k bytes n count)

  -- do_passive_idle
  passive_guarded : (q : Option ℕ) (c : Core) (r : Ring) (bytes : List ℕ) (n count : ℕ) → Guarded (Pause c) (passive_idle_of p c r now q bytes n count).step
  unfolding passive_idle_of
  passive_guarded None c r bytes n count = consumed_guarded _ _ count
  passive_guarded (Some source) c r bytes n count = respond_guarded _ _ c r source _

  -- do_use_token
  use_timed_guarded : (c : Core) (held : UseTokenData) (cycled : Bool) (bytes : List ℕ) (n : ℕ) → Guarded (Pause c) (use_token_timed p c now held cycled bytes n)
  unfolding use_token_timed
  use_timed_guarded c held cycled bytes n = tested _ _ _ (done_guarded _ _ _ _)

  -- the end of hold leaves the pause as it is
  hold_pause : (c : Core) (t : Micros) → Pause (hold_end_of p c t) → Pause c
  unfolding pause_of waited_of
  hold_pause c t e = ap (λ (a : Option Micros). elapsed_of now (known_at a now) (time_of (record { 0 = pause_bits }) p.baudrate)) (sym (hold_activity p c t)) ∙ e

  use_guarded : (c : Core) (held : UseTokenData) (cycled : Bool) (bytes : List ℕ) (n : ℕ) → Guarded (Pause c) (use_token_of p c now held cycled bytes n)
  unfolding use_token_of
  use_guarded c held cycled bytes n = weaken (hold_pause c held.token_time) (use_timed_guarded _ held cycled bytes n)

  -- do_pass_token
  pass_guarded : (c : Core) (r : Ring) (gap : Bool) (k : PassTokenAttempt) → Guarded (Pause c) (pass_token_of p c r now gap k).step
  unfolding pass_token_of
  pass_guarded c r gap k = tested_ring _ _ _ (done_guarded _ _ _ _)

  -- do_await_data_response: a telegram is taken and nothing sent, or the slot has expired and the token is used
  received_guarded : (Q : Type 0) (c : Core) (a : ℕ) (held : UseTokenData) (t : Telegram) → Guarded Q (received_of p c now a held t)
  unfolding received_of
  received_guarded Q c a held t =
      either (Guarded Q) (valid_response t a p.address) _ _ (record { guard = λ s. absurd (s refl) }) (record { guard = λ s. absurd (s refl) })

  noticed_guarded : (Q : Type 0) (s : Step) (x : Notice) → Guarded Q s → Guarded Q (with_notice s x)
  unfolding with_notice
  noticed_guarded Q s x g = record { guard = g.guard }

  timeout_guarded : (c : Core) (a : ℕ) (held : UseTokenData) (bytes : List ℕ) (n : ℕ) → Guarded (Pause c) (timeout_of p c now a held bytes n)
  unfolding timeout_of
  timeout_guarded c a held bytes n = noticed_guarded _ _ _ (use_guarded _ held true bytes n)

  await_data_guarded : (c : Core) (a : ℕ) (held : UseTokenData) (bytes : List ℕ) (n count : ℕ) → Guarded (Pause c) (await_data_of p c now a held bytes n count)
  unfolding await_data_of slot_expired_of pause_of waited_of with_activity known_at
  await_data_guarded c a held bytes n count =
      let Q = Pause c in
      either (Guarded Q) (ltb 0 count) _ _ (received_guarded Q c a held _)
      (either (Guarded Q) (slot_expired_of p c now).over _ _ (timeout_guarded _ a held bytes n) (done_guarded _ _ _ _))

  -- do_await_status_response
  status_guarded : (Q : Type 0) (c : Core) (r : Ring) (a : ℕ) (t : Telegram) → Guarded Q (status_received p c r a t).step
  unfolding status_received status_answered status_unexpected
  status_guarded Q c r a (telegram.Token destination source) = record { guard = λ s. absurd (s refl) }
  status_guarded Q c r a telegram.ShortConfirmation = record { guard = λ s. absurd (s refl) }
  status_guarded Q c r a (telegram.Request destination source asks) = record { guard = λ s. absurd (s refl) }
  status_guarded Q c r a (telegram.Response destination source state status) =
      either (λ (x : RingStep). Guarded Q x.step) (eqb source a) _ _
      (either (λ (x : RingStep). Guarded Q x.step) (eqb destination p.address) _ _ (record { guard = λ s. absurd (s refl) }) (record { guard = λ s. absurd (s refl) }))
      (record { guard = λ s. absurd (s refl) })

  await_status_guarded : (c : Core) (r : Ring) (a : ℕ) (bytes : List ℕ) (n count : ℕ) → Guarded (Pause c) (await_status_of p c r now a bytes n count).step
  unfolding await_status_of slot_expired_of pause_of waited_of with_activity known_at
  await_status_guarded c r a bytes n count =
      let Q = Pause c in
      either (λ (x : RingStep). Guarded Q x.step) (ltb 0 count) _ _ (status_guarded Q _ r a _)
      (either (λ (x : RingStep). Guarded Q x.step) (slot_expired_of p c now).over _ _ (pass_guarded _ r false First) (done_guarded _ _ _ _))

  -- do_check_token_pass
  resend_guarded : (c : Core) (r : Ring) (k : PassTokenAttempt) → Guarded (Pause c) (resend_of p c r now k).step
  unfolding resend_of
  resend_guarded c r First = pass_guarded _ r false Second
  resend_guarded c r Second = pass_guarded _ r false Third
  resend_guarded c r Third = event_guarded _ _ _ (pass_guarded _ _ false First)

  check_guarded : (c : Core) (r : Ring) (k : PassTokenAttempt) (bytes : List ℕ) (n count : ℕ) → Guarded (Pause c) (check_token_pass_of p c r now k bytes n count).step
  unfolding check_token_pass_of check_received slot_expired_of pause_of waited_of with_activity known_at
  check_guarded c r k bytes n count =
      let Q = Pause c in
      either (λ (x : RingStep). Guarded Q x.step) (slot_expired_of p c now).over _ _ (resend_guarded _ r k)
      (either (λ (x : RingStep). Guarded Q x.step) (ltb 0 count) _ _ (consumed_guarded _ _ count) (done_guarded _ _ _ _))

  -- poll_inner: by the state
  pub dispatch_guarded : (x : State) (c : Core) (r : Ring) (bytes : List ℕ) (n count : ℕ) → Guarded (Pause c) (dispatch_of p x c r now bytes n count).step
  unfolding dispatch_of
  dispatch_guarded Offline c r bytes n count = done_guarded _ _ _ _
  dispatch_guarded (ListenToken q k) c r bytes n count = listen_guarded c r q k bytes n count
  dispatch_guarded (ActiveIdle q m k) c r bytes n count = active_guarded c r q m k bytes n count
  dispatch_guarded (UseToken k d) c r bytes n count = use_guarded c d k bytes n
  dispatch_guarded (ClaimToken f) c r bytes n count = claim_guarded c r f
  dispatch_guarded (AwaitDataResponse a d) c r bytes n count = await_data_guarded c a d bytes n count
  dispatch_guarded (PassToken g k) c r bytes n count = pass_guarded c r g k
  dispatch_guarded (CheckTokenPass k) c r bytes n count = check_guarded c r k bytes n count
  dispatch_guarded (AwaitStatusResponse a) c r bytes n count = await_status_guarded c r a bytes n count
  dispatch_guarded (PassiveIdle q) c r bytes n count = passive_guarded q c r bytes n count

  -- the three states that wait for another: a send of theirs comes after the slot
  abbrev Slot : Core → Type 0
  Slot c = (slot_expired_of p c now).over ≡ true

  pub await_data_slot : (c : Core) (a : ℕ) (held : UseTokenData) (bytes : List ℕ) (n count : ℕ) → Guarded (Slot c) (await_data_of p c now a held bytes n count)
  unfolding await_data_of
  await_data_slot c a held bytes n count =
      either (Guarded (Slot c)) (ltb 0 count) _ _ (received_guarded _ c a held _) (tested _ _ _ (done_guarded _ _ _ _))

  pub await_status_slot : (c : Core) (r : Ring) (a : ℕ) (bytes : List ℕ) (n count : ℕ) → Guarded (Slot c) (await_status_of p c r now a bytes n count).step
  unfolding await_status_of
  await_status_slot c r a bytes n count =
      either (λ (x : RingStep). Guarded (Slot c) x.step) (ltb 0 count) _ _ (status_guarded _ _ r a _) (tested_ring _ _ _ (done_guarded _ _ _ _))

  -- and a timeout is told after the slot only
  received_told : (Q : Type 0) (c : Core) (a : ℕ) (held : UseTokenData) (t : Telegram) → Told Q (received_of p c now a held t)
  unfolding received_of
  received_told Q c a held t = either (Told Q) (valid_response t a p.address) _ _ (record { told = λ x. absurd x }) (record { told = λ x. absurd x })

  pub await_data_told : (c : Core) (a : ℕ) (held : UseTokenData) (bytes : List ℕ) (n count : ℕ) → Told (Slot c) (await_data_of p c now a held bytes n count)
  unfolding await_data_of
  await_data_told c a held bytes n count =
      either (Told (Slot c)) (ltb 0 count) _ _ (received_told _ c a held _) (tested_told _ _ _ (done_told _ _ _ _))

  pub check_slot : (c : Core) (r : Ring) (k : PassTokenAttempt) (bytes : List ℕ) (n count : ℕ) → Guarded (Slot c) (check_token_pass_of p c r now k bytes n count).step
  unfolding check_token_pass_of check_received
  check_slot c r k bytes n count =
      tested_ring _ _ _ (either (λ (x : RingStep). Guarded (Slot c) x.step) (ltb 0 count) _ _ (consumed_guarded _ _ count) (done_guarded _ _ _ _))

  -- the three states, in the dispatch
  pub slot_guarded : (x : State) (c : Core) (r : Ring) (bytes : List ℕ) (n count : ℕ) → lists waiting (state_number x) ≡ true → Guarded (Slot c) (dispatch_of p x c r now bytes n count).step
  unfolding dispatch_of
  slot_guarded Offline c r bytes n count i = not-true i
  slot_guarded (ListenToken q k) c r bytes n count i = not-true i
  slot_guarded (ActiveIdle q m k) c r bytes n count i = not-true i
  slot_guarded (UseToken k d) c r bytes n count i = not-true i
  slot_guarded (ClaimToken f) c r bytes n count i = not-true i
  slot_guarded (AwaitDataResponse a d) c r bytes n count i = await_data_slot c a d bytes n count
  slot_guarded (PassToken g k) c r bytes n count i = not-true i
  slot_guarded (CheckTokenPass k) c r bytes n count i = check_slot c r k bytes n count
  slot_guarded (AwaitStatusResponse a) c r bytes n count i = await_status_slot c r a bytes n count
  slot_guarded (PassiveIdle q) c r bytes n count i = not-true i

  status_told : (Q : Type 0) (c : Core) (r : Ring) (a : ℕ) (t : Telegram) → Told Q (status_received p c r a t).step
  unfolding status_received status_answered status_unexpected
  status_told Q c r a (telegram.Token destination source) = record { told = λ x. absurd x }
  status_told Q c r a telegram.ShortConfirmation = record { told = λ x. absurd x }
  status_told Q c r a (telegram.Request destination source asks) = record { told = λ x. absurd x }
  status_told Q c r a (telegram.Response destination source state status) =
      either (λ (x : RingStep). Told Q x.step) (eqb source a) _ _
      (either (λ (x : RingStep). Told Q x.step) (eqb destination p.address) _ _ (record { told = λ x. absurd x }) (record { told = λ x. absurd x }))
      (record { told = λ x. absurd x })

  await_status_told : (c : Core) (r : Ring) (a : ℕ) (bytes : List ℕ) (n count : ℕ) → Told (Slot c) (await_status_of p c r now a bytes n count).step
  unfolding await_status_of
  await_status_told c r a bytes n count =
      either (λ (x : RingStep). Told (Slot c) x.step) (ltb 0 count) _ _ (status_told _ _ r a _) (tested_ring_told _ _ _ (done_told _ _ _ _))

  check_told : (c : Core) (r : Ring) (k : PassTokenAttempt) (bytes : List ℕ) (n count : ℕ) → Told (Slot c) (check_token_pass_of p c r now k bytes n count).step
  unfolding check_token_pass_of check_received
  check_told c r k bytes n count =
      tested_ring_told _ _ _ (either (λ (x : RingStep). Told (Slot c) x.step) (ltb 0 count) _ _ (consumed_told _ _ count) (done_told _ _ _ _))

  pub slot_told : (x : State) (c : Core) (r : Ring) (bytes : List ℕ) (n count : ℕ) → lists waiting (state_number x) ≡ true → Told (Slot c) (dispatch_of p x c r now bytes n count).step
  unfolding dispatch_of
  slot_told Offline c r bytes n count i = not-true i
  slot_told (ListenToken q k) c r bytes n count i = not-true i
  slot_told (ActiveIdle q m k) c r bytes n count i = not-true i
  slot_told (UseToken k d) c r bytes n count i = not-true i
  slot_told (ClaimToken f) c r bytes n count i = not-true i
  slot_told (AwaitDataResponse a d) c r bytes n count i = await_data_told c a d bytes n count
  slot_told (PassToken g k) c r bytes n count i = not-true i
  slot_told (CheckTokenPass k) c r bytes n count i = check_told c r k bytes n count
  slot_told (AwaitStatusResponse a) c r bytes n count i = await_status_told c r a bytes n count
  slot_told (PassiveIdle q) c r bytes n count i = not-true i
