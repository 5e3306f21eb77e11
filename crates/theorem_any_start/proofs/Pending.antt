-- The proof of Pending: with more pending bytes the bus is active now, and a station that waits for the lost token sends nothing.
use Rattle.std.specs.Prelude.{ℕ, ◌+◌, ◌≤◌, ◌<◌, Bool, true, false, ◌≡◌, refl, List, Option, Some, None}
use Rattle.std.proofs.Common.{ap, ◌∙◌, arith, eq-eqb, lt-ltb, le-ltb, leb-false}
use borrow.Table.Steps.{cases}
use Rattle.std.proofs.lemmas.Bool.{lt-leb}
use Rattle.bit_times.specs.declared.micros.Micros.{Micros}
use Rattle.bit_times.specs.Times.{pause_bits, time_of}
use Rattle.bit_times.proofs.Laws.{time_some}
use Rattle.settings.specs.declared.parameters.Parameters.{Parameters}
use Rattle.settings.specs.Settings.{token_lost_of}
use Rattle.ring.specs.Ring.{Ring}
use Rattle.codec_records.specs.Records.{head_of}
use Rattle.codec_answers.specs.declared.Sent.TheVariants.{Nothing}
use Rattle.station.specs.declared.parts.Core.{Core}
use Rattle.station.specs.declared.state.State.{State}
use Rattle.station.specs.Whole.{RingStep}
use Rattle.station.specs.Parts.{with_activity, with_pending}
use Rattle.station.specs.Steps.{known_at, elapsed_of, marked_at, busy_of, ongoing_of, waited_of, pause_of, token_lost_wait_of, bus_activity_of, done_of, heard_of}
use Rattle.station_listen.specs.Listen.{handle_lost_token, respond_of, listen_response, heard_all, received_all, consumed_all, listen_token_on, listen_token_of, active_response, active_idle_on, active_idle_of}
use Rattle.station_answer.specs.Answer.{polled_of, step_answer}
use Rattle.station_poll.specs.Poll.{connected_of, dispatch_of, poll_online, accepted_after, accepted_poll, poll_of}
use Rattle.theorem_silence.specs.Times.{slotted}
use Rattle.theorem_silence.proofs.Theorem.{inner_online}
use Rattle.theorem_sound.specs.Follows.{slot_lost}
use Rattle.theorem_any_start.specs.Listening.{Hears, listening, idle}
use Rattle.theorem_any_start.specs.Pending.{PendingHoldsOff}

-- a time that is not zero has not passed since now
not_over : (c : Core) (now time : Micros) → c.last_bus_activity ≡ Some now → 1 ≤ time.0 → (waited_of c now time).over ≡ false
unfolding waited_of known_at elapsed_of
not_over c now time e l = rw e (lt-leb (now.0 + time.0) now.0 (omega arith))

still_now : (c : Core) (now time : Micros) → c.last_bus_activity ≡ Some now → (waited_of c now time).core.last_bus_activity ≡ Some now
unfolding waited_of known_at with_activity
still_now c now time e = rw e

-- with the bus active just now nothing is sent: the token is not lost, and a noted request waits for its pause
module _ (p : Parameters) (some : 1 ≤ (token_lost_of p).0) (c : Core) (r : Ring) (now : Micros) (bytes : List ℕ) (n : ℕ) (active : c.last_bus_activity ≡ Some now) where
  not_lost : (rest : Core → RingStep) → ((d : Core) → d.last_bus_activity ≡ Some now → (rest d).step.sent ≡ Nothing) → (handle_lost_token p c r now rest).step.sent ≡ Nothing
  unfolding handle_lost_token token_lost_wait_of
  not_lost rest then = rw (not_over c now (token_lost_of p) active some) (then _ (still_now c now (token_lost_of p) active))

pause_waits : (p : Parameters) (c : Core) (now : Micros) → c.last_bus_activity ≡ Some now → (pause_of p c now).over ≡ false
unfolding pause_of
pause_waits p c now e = not_over c now (time_of (record { 0 = pause_bits }) p.baudrate) e (time_some pause_bits p.baudrate (omega arith))

listen_quiet : (request : Option ℕ) (p : Parameters) (c : Core) (r : Ring) (now : Micros) (collisions : ℕ) (bytes : List ℕ) (n : ℕ) → c.last_bus_activity ≡ Some now → (listen_token_on request p c r now collisions bytes n 0).step.sent ≡ Nothing
unfolding listen_token_on listen_response respond_of consumed_all received_all heard_all heard_of done_of
listen_quiet None p c r now i bytes n e = refl
listen_quiet (Some source) p c r now i bytes n e = rw (pause_waits p c now e)

idle_quiet : (request newPreviousStation : Option ℕ) (p : Parameters) (c : Core) (r : Ring) (now : Micros) (collisions : ℕ) (bytes : List ℕ) (n : ℕ) → c.last_bus_activity ≡ Some now → (active_idle_on request p c r now newPreviousStation collisions bytes n 0).step.sent ≡ Nothing
unfolding active_idle_on active_response respond_of consumed_all received_all heard_all heard_of done_of
idle_quiet None m p c r now i bytes n e = refl
idle_quiet (Some source) m p c r now i bytes n e = rw (pause_waits p c now e)

dispatch_quiet : (request : Option ℕ) (s : State) (p : Parameters) → 1 ≤ (token_lost_of p).0 → (c : Core) (r : Ring) (now : Micros) (bytes : List ℕ) (n : ℕ) → Hears request s → c.last_bus_activity ≡ Some now → (dispatch_of p (connected_of s) c r now bytes n 0).step.sent ≡ Nothing
unfolding dispatch_of listen_token_of active_idle_of
dispatch_quiet request s p l c r now bytes n (listening i h) e = rw h (not_lost p l c r now bytes n e _ (λ d k. listen_quiet request p d r now i bytes n k))
dispatch_quiet request s p l c r now bytes n (idle m i h) e = rw h (not_lost p l c r now bytes n e _ (λ d k. idle_quiet request m p d r now i bytes n k))

-- more pending bytes, with no transmission going on: the last activity is now
marked_now : (a : Option Micros) (now : Micros) → busy_of a now ≡ false → marked_at a now ≡ Some now
unfolding marked_at busy_of known_at
marked_now None now e = rw (le-ltb now.0 now.0 (omega arith))
marked_now (Some last) now e = rw (lt-ltb last.0 now.0 (omega (arith, leb-false now.0 last.0 e)))

active_now : (c : Core) (now : Micros) (pending : ℕ) → c.pending_bytes < pending → busy_of c.last_bus_activity now ≡ false → (bus_activity_of c now pending).last_bus_activity ≡ Some now
unfolding bus_activity_of with_pending with_activity
active_now c now pending l e = rw (lt-ltb c.pending_bytes pending l) (marked_now c.last_bus_activity now e)

online_quiet : (request : Option ℕ) (s : State) (p : Parameters) → 1 ≤ (token_lost_of p).0 → (c : Core) (r : Ring) (now : Micros) (transmitting : Bool) (pending : ℕ) (bytes : List ℕ) (n : ℕ) → Hears request s → c.pending_bytes < pending → (poll_online p (connected_of s) c r now transmitting pending bytes n 0).step.sent ≡ Nothing
unfolding poll_online ongoing_of done_of
online_quiet request s p l c r now true pending bytes n h more = refl
online_quiet request s p l c r now false pending bytes n h more =
    cases (busy_of c.last_bus_activity now) (λ e. rw e)
    (λ e. rw e (dispatch_quiet request s p l (bus_activity_of c now pending) r now bytes n h (active_now c now pending more e)))

-- the statement
pub pending_holds_off : PendingHoldsOff
unfolding poll_of accepted_poll accepted_after polled_of step_answer
pending_holds_off s bytes request settings on h accepted none more =
    let some : 1 ≤ (token_lost_of s.p).0 = omega (arith, (slotted s.p settings).some, slot_lost s.p) in
    let now : Micros = record { 0 = (head_of bytes).clock } in
    let t = (head_of bytes).transmitting in
    let pending = (head_of bytes).pending in
    rw (eq-eqb _ _ accepted, none)
    (ap (λ (x : RingStep). x.step.sent) (inner_online s.p s.state s.core s.token_ring now t pending bytes s.applications 0 on)
    ∙ online_quiet request s.state s.p some s.core s.token_ring now t pending bytes s.applications h more)
