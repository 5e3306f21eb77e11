-- One silent poll of a station that waits for the lost token: Offline and online, ListenToken, ActiveIdle.
use Rattle.std.specs.Prelude.{ℕ, Bool, ◌≡◌, List, Option, Some, None}
use Rattle.std.proofs.Math.Bool.{true, false}
use Rattle.std.proofs.Math.Path.{refl}
use Rattle.std.proofs.Common.{sym, ap, ◌∙◌, arith}
use borrow.Table.Steps.{cases}
use Rattle.bit_times.specs.declared.micros.Micros.{Micros}
use Rattle.settings.specs.declared.parameters.Parameters.{Parameters}
use Rattle.settings.specs.Settings.{slot_time_of, token_lost_of}
use Rattle.ring.specs.Ring.{Ring}
use Rattle.codec_answers.specs.declared.Sent.TheVariants as sent
use Rattle.station.specs.declared.state.State.{State}
use Rattle.station.specs.declared.parts.Core.{Core}
use Rattle.station.specs.Whole.{RingStep}
use Rattle.station.specs.Steps.{pause_of, token_lost_wait_of, busy_of, done_of, transmit_of, heard_of}
use Rattle.station_listen.specs.Listen.{handle_lost_token, respond_of, listen_answered, listen_response, heard_all, received_all, consumed_all, listen_token_on, listen_token_of, active_response, active_idle_on, active_idle_of, met_in, meetings_of}
use Rattle.station_poll.specs.Poll.{connected_of, dispatch_of}
use Rattle.theorem_sound.specs.Follows.{slot_lost}
use Rattle.theorem_silence.specs.Silence.{slot_after}
use Rattle.theorem_silence.specs.Times.{Slotted, after_shorter, after_over, counted_free, waited_paused}
use Rattle.theorem_silence.specs.Phases.{claiming}
use Rattle.theorem_silence.specs.OnePoll.{Ready, Sends, quiet_step}
use Rattle.theorem_silence.proofs.OnePoll.{active_ready, known_ready, claim_sent, not_counted, not_counted_busy, counted_too}
use Rattle.theorem_any_start.specs.AnyStart.{lost_after}
use Rattle.theorem_any_start.specs.Listening.{Hears, idle, listening, ListenTurn, answers, claims, waits}

-- The lost-token timeout.

-- to come after it is what Silence says of the slot time, of another time
pub lost_is : (a : Option Micros) (now timeout : ℕ) → lost_after a now timeout ≡ slot_after a now timeout
unfolding lost_after slot_after
lost_is None now timeout = refl
lost_is (Some last) now timeout = refl

-- a poll that comes after it comes after a slot
pub lost_slot : (p : Parameters) (a : Option Micros) (now : ℕ) → lost_after a now (token_lost_of p).0 ≡ true → slot_after a now (slot_time_of p).0 ≡ true
lost_slot p a now e = after_shorter a now (slot_time_of p).0 (token_lost_of p).0 (slot_lost p) (sym (lost_is a now (token_lost_of p).0) ∙ e)

module _ (p : Parameters) (w : Slotted p) (os : List ℕ) (c : Core) (r : Ring) (now : Micros) (g : Ready p c r os) where
  -- is the poll counted
  abbrev counts_here : Bool
  counts_here = lost_after c.last_bus_activity now.0 (token_lost_of p).0

  -- a counted poll finds the token lost
  counted_lost : counts_here ≡ true → (token_lost_wait_of p c now).over ≡ true
  unfolding token_lost_wait_of
  counted_lost e = after_over p w c now (token_lost_of p) (sym (lost_is c.last_bus_activity now.0 (token_lost_of p).0) ∙ e)

  -- a lost token is claimed at once: the pause is over too
  lost_claimed : (rest : Core → RingStep) → (token_lost_wait_of p c now).over ≡ true → Sends p now (sent.Token p.address) (claiming false os) (handle_lost_token p c r now rest)
  unfolding handle_lost_token token_lost_wait_of
  lost_claimed rest e = rw e (counted_too _ _ (claim_sent p _ r now true os (known_ready p c r os now _ g) (waited_paused p w c now (token_lost_of p) (omega (arith, w.pause, slot_lost p)) e)))

  -- else the state goes on, the last activity being known
  not_lost : (rest : Core → RingStep) → (token_lost_wait_of p c now).over ≡ false → handle_lost_token p c r now rest ≡ rest (token_lost_wait_of p c now).core
  unfolding handle_lost_token
  not_lost rest e = rw e

  known : Ready p (token_lost_wait_of p c now).core r os
  unfolding token_lost_wait_of
  known = known_ready p c r os now (token_lost_of p) g

-- What ListenToken and ActiveIdle do with no telegram: nothing, or they answer.
module _ (p : Parameters) (os : List ℕ) (c : Core) (r : Ring) (now : Micros) (bytes : List ℕ) (n : ℕ) (g : Ready p c r os) where
  -- a ready station goes to ActiveIdle, another one stays
  answered_hears : (collisions : ℕ) (ready : Bool) → r.ready ≡ ready → Hears None (listen_answered r collisions)
  unfolding listen_answered connected_of
  answered_hears i true e = rw e (idle None 0 refl)
  answered_hears i false e = rw e (listening i refl)

  listen_rest : (request : Option ℕ) (collisions : ℕ) → ListenTurn p now request os false (listen_token_on request p c r now collisions bytes n 0)
  unfolding listen_token_on listen_response respond_of met_in meetings_of consumed_all received_all heard_all heard_of transmit_of done_of connected_of pause_of
  listen_rest None i = waits refl refl (g, listening i refl)
  listen_rest (Some source) i =
      cases (pause_of p c now).over
      (λ e. rw e (answers refl source _ refl refl (active_ready p _ r os _ (known_ready p c r os now _ g), answered_hears i r.ready refl)))
      (λ e. rw e (waits refl refl (known_ready p c r os now _ g, listening i refl)))

  active_rest : (request newPreviousStation : Option ℕ) (collisions : ℕ) → ListenTurn p now request os false (active_idle_on request p c r now newPreviousStation collisions bytes n 0)
  unfolding active_idle_on active_response respond_of met_in meetings_of consumed_all received_all heard_all heard_of transmit_of done_of connected_of pause_of
  active_rest None m i = waits refl refl (g, idle m i refl)
  active_rest (Some source) m i =
      cases (pause_of p c now).over
      (λ e. rw e (answers refl source _ refl refl (active_ready p _ r os _ (known_ready p c r os now _ g), idle m i refl)))
      (λ e. rw e (waits refl refl (known_ready p c r os now _ g, idle m i refl)))

-- a turn of a poll that is not counted, by that
uncounted_turn : (p : Parameters) (now : Micros) (request : Option ℕ) (os : List ℕ) (counts : Bool) (x : RingStep) → counts ≡ false → ListenTurn p now request os false x → ListenTurn p now request os counts x
uncounted_turn p now request os counts x f (claims g) = claims g
uncounted_turn p now request os counts x f (answers e source state i t l) = answers f source state i t l
uncounted_turn p now request os counts x f (waits e t l) = waits f t l

-- Both states ask for the lost token first.
module _ (p : Parameters) (w : Slotted p) (request : Option ℕ) (os : List ℕ) (s : State) (c : Core) (r : Ring) (now : Micros) (bytes : List ℕ) (n : ℕ) (g : Ready p c r os) where
  lost_turn : (rest : Core → RingStep) → ((d : Core) → Ready p d r os → ListenTurn p now request os false (rest d)) → ListenTurn p now request os (counts_here p w os c r now g) (handle_lost_token p c r now rest)
  lost_turn rest then =
      cases (token_lost_wait_of p c now).over (λ e. claims (lost_claimed p w os c r now g rest e))
      (λ e. rw (not_lost p w os c r now g rest e)
      (uncounted_turn p now request os _ _ (not_counted _ (token_lost_wait_of p c now).over (counted_lost p w os c r now g) e) (then (token_lost_wait_of p c now).core (known p w os c r now g))))

  free_turn : Hears request s → ListenTurn p now request os (counts_here p w os c r now g) (dispatch_of p (connected_of s) c r now bytes n 0)
  unfolding dispatch_of listen_token_of active_idle_of
  free_turn (listening i e) = rw e (lost_turn _ (λ d k. listen_rest p os d r now bytes n k request i))
  free_turn (idle m i e) = rw e (lost_turn _ (λ d k. active_rest p os d r now bytes n k request m i))

  -- while a transmission goes on nothing happens, but that Offline is left
  still_hears : Hears request s → Hears request (connected_of s)
  unfolding connected_of
  still_hears (listening i e) = listening i (ap connected_of e)
  still_hears (idle m i e) = idle m i (ap connected_of e)

  busy_turn : Hears request s → busy_of c.last_bus_activity now ≡ true → ListenTurn p now request os (counts_here p w os c r now g) (quiet_step p (connected_of s) c r now bytes n)
  unfolding quiet_step done_of
  busy_turn h e =
      rw e
      (waits (not_counted_busy _ (busy_of c.last_bus_activity now) (λ t. counted_free p w c now (lost_slot p c.last_bus_activity now.0 t)) e) refl
      (active_ready p c r os _ g, still_hears h))

  -- one silent poll
  pub listen_turn : Hears request s → ListenTurn p now request os (lost_after c.last_bus_activity now.0 (token_lost_of p).0) (quiet_step p (connected_of s) c r now bytes n)
  unfolding quiet_step
  listen_turn h = cases (busy_of c.last_bus_activity now) (λ e. busy_turn h e) (λ e. rw e (free_turn h))
