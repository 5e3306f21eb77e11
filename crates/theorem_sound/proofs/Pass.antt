-- What the steps of station_pass, station_await_status and station_check_pass come to. Where a token pass may end is said in specs/Pass.
use Rattle.std.specs.Prelude.{ℕ, Bool, ◌≡◌, List, ltb, eqb, None, Option, Some}
use Rattle.std.proofs.Math.Bool.{true, false}
use Rattle.std.proofs.Math.Path.{refl}
use Rattle.std.proofs.Common.{arith, ltb-false, lit≤}
use Rattle.bit_times.specs.declared.micros.Micros.{Micros}
use Rattle.settings.specs.declared.parameters.Parameters.{Parameters}
use Rattle.ring.specs.declared.GapState.{GapState}
use Rattle.ring.specs.declared.GapState.TheVariants.{Waiting, DoPoll}
use Rattle.ring.specs.Ring.{Ring, candidate_of, polls, gap_of}
use Rattle.codec_telegrams.specs.declared.ResponseState.{ResponseState}
use Rattle.codec_telegrams.specs.declared.ResponseState.TheVariants.{Slave, MasterNotReady, MasterWithoutToken, MasterInRing}
use Rattle.codec_telegrams.specs.declared.Telegram.{Telegram}
use Rattle.codec_telegrams.specs.declared.Telegram.TheVariants as telegram
use Rattle.station.specs.declared.state.PassTokenAttempt.{PassTokenAttempt}
use Rattle.station.specs.declared.state.PassTokenAttempt.TheVariants.{First, Second, Third}
use Rattle.station.specs.declared.state.State.{State}
use Rattle.station.specs.declared.state.State.TheVariants.{PassToken, CheckTokenPass, AwaitStatusResponse}
use Rattle.station.specs.declared.parts.Core.{Core}
use Rattle.station.specs.Parts.{with_activity}
use Rattle.station.specs.Steps.{to_active_idle, known_at, waited_of, pause_of, slot_expired_of}
use Rattle.station_pass.specs.Pass.{gap_advanced, pass_sent_on, pass_send, pass_poll_on, pass_poll, pass_token_of}
use Rattle.station_await_status.specs.AwaitStatus.{status_ring_on, status_ring, status_answered, status_unexpected, status_received, await_status_of}
use Rattle.station_check_pass.specs.CheckPass.{resend_of, check_received, check_token_pass_of}
use Rattle.theorem_sound.specs.Moves.{GapAddressed, GapCounted}
use Rattle.theorem_sound.specs.Keeps.{RingGood, either, decided, gap_asked, add_good, remove_good, witness_good}
use Rattle.theorem_sound.specs.Walk.{Came, RingMade}
use Rattle.theorem_sound.proofs.Walk.{event_made, known_here, new_token, new_unasked, paused, slotted, slot_known, rx, gap_turned, to_idle, to_use, to_pass, to_check, to_await_status, done_made, transmit_made}
use Rattle.theorem_sound.specs.Listen.{ActiveEnds}
use Rattle.theorem_sound.proofs.Listen.{handled_made}
use Rattle.theorem_sound.specs.Pass.{PassEnds}

-- do_pass_token: the gap's turn
pub advanced_good : (p : Parameters) (r : Ring) (s : GapState) → RingGood p r → GapAddressed p (gap_advanced p r s)
unfolding gap_advanced
advanced_good p r (Waiting count) g = either (GapAddressed p) (ltb p.gap_wait_rotations count) _ _ (gap_asked p r _ g) tt
advanced_good p r (DoPoll current) g = gap_asked p r _ g

gap_counted : (p : Parameters) (r : Ring) (a hsa : ℕ) → GapCounted p (gap_of r a hsa)
unfolding gap_of
gap_counted p r a hsa = either (GapCounted p) (polls r (candidate_of a hsa)) _ _ tt (omega arith)

advanced_counted : (p : Parameters) (r : Ring) (s : GapState) → GapCounted p (gap_advanced p r s)
unfolding gap_advanced
advanced_counted p r (Waiting count) =
    decided (GapCounted p) (ltb p.gap_wait_rotations count) _ _ (λ e. gap_counted p r _ _) (λ e. omega (arith, ltb-false p.gap_wait_rotations count e))
advanced_counted p r (DoPoll current) = gap_counted p r _ _

-- do_await_status_response: the ring
status_on_good : (s : ResponseState) (p : Parameters) (r : Ring) (a : ℕ) → RingGood p r → RingGood p (status_ring_on s r a)
unfolding status_ring_on
status_on_good Slave p r a g = g
status_on_good MasterNotReady p r a g = g
status_on_good MasterWithoutToken p r a g = add_good p r a g
status_on_good MasterInRing p r a g = add_good p r a g

status_ring_good : (p : Parameters) (r : Ring) (a : ℕ) (s : ResponseState) (status : ℕ) → RingGood p r → RingGood p (status_ring r a s status)
unfolding status_ring
status_ring_good p r a s status g = either (RingGood p) (eqb status 0) _ _ (status_on_good s p r a g) g

module _ {p : Parameters} {n : ℕ} {now : Micros} {x₀ : State} {c₀ : Core} {E : State → Type 0} where
  -- do_pass_token
  sent_made : {gap : Bool} {attempt : PassTokenAttempt} {c : Core} (x : Option ℕ) (to : ℕ) (r : Ring) → PassEnds E gap → Came p n now x₀ c₀ (PassToken gap attempt) c → RingGood p r → RingMade p n now x₀ c₀ E (pass_sent_on x p c now attempt to r)
  unfolding pass_sent_on
  sent_made None to r e k g =
      record { made_step = transmit_made _ (lit≤ tt) (to_use _ refl (new_token n now k.clock) (new_unasked now) k) (e.ends_alone _); made_ring = g }
  sent_made {attempt = attempt} (Some a) to r e k g =
      record { made_step = transmit_made _ (lit≤ tt) (to_check attempt refl k) (e.ends_check _); made_ring = g }

  send_made : {gap : Bool} {attempt : PassTokenAttempt} {c : Core} (r : Ring) → PassEnds E gap → Came p n now x₀ c₀ (PassToken gap attempt) c → RingGood p r → RingMade p n now x₀ c₀ E (pass_send p c r now attempt)
  unfolding pass_send
  send_made r e k g = sent_made _ _ _ e k (witness_good p r p.address _ g)

  poll_on_made : {attempt : PassTokenAttempt} {c : Core} (s : GapState) (r : Ring) → c.gap_state ≡ s → PassEnds E true → Came p n now x₀ c₀ (PassToken true attempt) c → RingGood p r → RingMade p n now x₀ c₀ E (pass_poll_on s p c r now attempt)
  unfolding pass_poll_on
  poll_on_made (Waiting count) r l e k g = send_made r e k g
  poll_on_made (DoPoll current) r l e k g =
      record { made_step = transmit_made _ (lit≤ tt) (to_await_status current refl l k) (e.ends_asking refl _); made_ring = g }

  pub pass_token_made : {attempt : PassTokenAttempt} {c : Core} (gap : Bool) (r : Ring) → PassEnds E gap → ((pause_of p c now).over ≡ false → E (PassToken gap attempt)) → Came p n now x₀ c₀ (PassToken gap attempt) c → RingGood p r → RingMade p n now x₀ c₀ E (pass_token_of p c r now gap attempt)
  unfolding pass_token_of pass_poll
  pass_token_made {c = c} true r e u k g =
      let t = gap_turned _ (advanced_good p r c.gap_state g) (advanced_counted p r c.gap_state) (paused k) in
      decided (RingMade p n now x₀ c₀ E) (pause_of p c now).over _ _ (λ o. poll_on_made _ r refl e t g)
      (λ o. record { made_step = done_made _ (paused k) (u o); made_ring = g })
  pass_token_made {c = c} false r e u k g =
      decided (RingMade p n now x₀ c₀ E) (pause_of p c now).over _ _ (λ o. send_made r e (paused k) g)
      (λ o. record { made_step = done_made _ (paused k) (u o); made_ring = g })

  -- do_await_status_response
  answered_made : {a : ℕ} {c : Core} (r : Ring) → E (PassToken false First) → Came p n now x₀ c₀ (AwaitStatusResponse a) c → RingGood p r → RingMade p n now x₀ c₀ E (status_answered c r)
  unfolding status_answered
  answered_made r e k g =
      let q = to_pass false First refl k in
      record { made_step = record { moves = q.by; ends = e }; made_ring = g }

  unexpected_made : {a : ℕ} {c : Core} (r : Ring) → E to_active_idle → Came p n now x₀ c₀ (AwaitStatusResponse a) c → RingGood p r → RingMade p n now x₀ c₀ E (status_unexpected c r)
  unfolding status_unexpected
  unexpected_made r e k g =
      let q = to_idle refl (known_here k) k in
      record { made_step = record { moves = q.by; ends = e }; made_ring = g }

  status_made : {a : ℕ} {c : Core} (r : Ring) (t : Telegram) → E (PassToken false First) → E to_active_idle → Came p n now x₀ c₀ (AwaitStatusResponse a) c → RingGood p r → RingMade p n now x₀ c₀ E (status_received p c r a t)
  unfolding status_received
  status_made r (telegram.Token destination source) e i k g = unexpected_made r i k g
  status_made r telegram.ShortConfirmation e i k g = unexpected_made r i k g
  status_made r (telegram.Request destination source asks) e i k g = unexpected_made r i k g
  status_made {a} r (telegram.Response destination source state status) e i k g =
      either (RingMade p n now x₀ c₀ E) (eqb source a) _ _
      (either (RingMade p n now x₀ c₀ E) (eqb destination p.address) _ _ (answered_made _ e k (status_ring_good p r a state status g)) (unexpected_made r i k g))
      (unexpected_made r i k g)

  pub await_status_made : {a : ℕ} {c : Core} (r : Ring) (bytes : List ℕ) (count : ℕ) → PassEnds E false → E (PassToken false First) → E to_active_idle → E (AwaitStatusResponse a) → Came p n now x₀ c₀ (AwaitStatusResponse a) c → RingGood p r → RingMade p n now x₀ c₀ E (await_status_of p c r now a bytes n count)
  unfolding await_status_of
  await_status_made {c = c} r bytes count e f i y k g =
      either (RingMade p n now x₀ c₀ E) (ltb 0 count) _ _ (status_made r _ f i (rx k) g)
      (either (RingMade p n now x₀ c₀ E) (slot_expired_of p c now).over _ _ (pass_token_made false r e (λ o. f) (to_pass false First refl (slotted k)) g)
      (record { made_step = done_made _ (slotted k) y; made_ring = g }))

  -- do_check_token_pass
  resend_made : {c : Core} (attempt : PassTokenAttempt) (r : Ring) → PassEnds E false → ((pause_of p c now).over ≡ false → (k : PassTokenAttempt) → E (PassToken false k)) → Came p n now x₀ c₀ (CheckTokenPass attempt) c → RingGood p r → RingMade p n now x₀ c₀ E (resend_of p c r now attempt)
  unfolding resend_of
  resend_made First r e u k g = pass_token_made false r e (λ o. u o Second) (to_pass false Second refl k) g
  resend_made Second r e u k g = pass_token_made false r e (λ o. u o Third) (to_pass false Third refl k) g
  resend_made Third r e u k g = event_made _ _ (pass_token_made false _ e (λ o. u o First) (to_pass false First refl k) (remove_good p r _ g))

  pub check_token_made : {c : Core} (attempt : PassTokenAttempt) (r : Ring) (bytes : List ℕ) (count : ℕ) → PassEnds E false → ActiveEnds E → ((slot_expired_of p c now).over ≡ true → (pause_of p c now).over ≡ false → (k : PassTokenAttempt) → E (PassToken false k)) → Came p n now x₀ c₀ (CheckTokenPass attempt) c → RingGood p r → RingMade p n now x₀ c₀ E (check_token_pass_of p c r now attempt bytes n count)
  unfolding check_token_pass_of check_received slot_expired_of pause_of waited_of known_at with_activity
  check_token_made {c} attempt r bytes count e h u k g =
      let q = slotted k in
      decided (RingMade p n now x₀ c₀ E) (slot_expired_of p c now).over _ _ (λ o. resend_made attempt r e (u o) q g)
      (λ o. either (RingMade p n now x₀ c₀ E) (ltb 0 count) _ _ (handled_made r bytes count h (to_idle refl (slot_known p c now) q) (h.ends_idle _ _ _) g)
      (record { made_step = done_made _ q (e.ends_check attempt); made_ring = g }))
