-- What every state leans on, nearly in the order of active.rs: transitions, bus activity, the pause, sending, the slot. A step takes
-- what its state holds and gives the new state. A transition is that state: the four that clear what it holds have a name here;
-- transition_claim_token is ClaimToken true, transition_await_data_response AwaitDataResponse, transition_pass_token PassToken,
-- transition_check_token_pass CheckTokenPass, transition_await_status_response AwaitStatusResponse. transition_offline, which the
-- Rust never calls, is not taken.
use Rattle.std.specs.Prelude.{ℕ, ◌+◌, ◌*◌, Bool, true, false, cond, ltb, leb, eqb, Option, Some, None}
use Rattle.bit_times.specs.declared.micros.Micros.{Micros}
use Rattle.bit_times.specs.Times.{pause_bits, byte_bits, time_of}
use Rattle.settings.specs.declared.parameters.Parameters.{Parameters}
use Rattle.settings.specs.Settings.{slot_time_of, token_lost_of}
use Rattle.ring.specs.Ring.{Ring}
use Rattle.codec_answers.specs.declared.Outcome.{Outcome}
use Rattle.codec_answers.specs.declared.Outcome.TheVariants as outcome
use Rattle.codec_answers.specs.declared.Sent.{Sent}
use Rattle.codec_answers.specs.declared.Sent.TheVariants as sent
use Rattle.codec_answers.specs.declared.Notice.TheVariants as notice
use Rattle.codec_answers.specs.Answers.{sent_bytes}
use Rattle.station.specs.declared.state.UseTokenData.{UseTokenData}
use Rattle.station.specs.declared.state.State.{State}
use Rattle.station.specs.declared.state.State.TheVariants.{ListenToken, ActiveIdle, UseToken, PassiveIdle}
use Rattle.station.specs.declared.parts.Core.{Core}
use Rattle.station.specs.declared.done.Event.{Event}
use Rattle.station.specs.declared.done.Event.TheVariants as event
use Rattle.station.specs.Whole.{Waited, Step, RingStep, Heard}
use Rattle.station.specs.Parts.{with_activity, with_pending}

-- UseTokenData::with_token_time: a new token has no first application
unfoldable pub with_token_time : Micros → UseTokenData
with_token_time now = record { token_time = now; first_app = None }

-- State::transition_listen_token
abbrev pub to_listen_token : State
to_listen_token = ListenToken None 0

-- State::transition_passive_idle: no request is pending
abbrev pub to_passive_idle : State
to_passive_idle = PassiveIdle None

-- State::transition_active_idle: it clears request, predecessor and collisions. While in ActiveIdle nothing else clears a remembered predecessor
abbrev pub to_active_idle : State
to_active_idle = ActiveIdle None None 0

-- State::transition_use_token, with a token that came now (with one that was kept the state is UseToken true)
abbrev pub to_use_token : Micros → State
to_use_token now = UseToken false (with_token_time now)

-- last_bus_activity.get_or_insert(now): the known activity, or now where none is known
unfoldable pub known_at : Option Micros → Micros → Micros
known_at None now = now
known_at (Some last) now = last

-- document 01: now − last activity ≥ time (not so where now lies before it)
unfoldable pub elapsed_of : Micros → Micros → Micros → Bool
elapsed_of now last time = leb (last.0 + time.0) now.0

-- mark_bus_activity: the later of the known activity and now
unfoldable pub marked_at : Option Micros → Micros → Option Micros
marked_at a now = cond (ltb (known_at a now).0 now.0) (Some now) (Some (known_at a now))

-- check_for_ongoing_transmision: by what we know
unfoldable pub busy_of : Option Micros → Micros → Bool
busy_of None now = false
busy_of (Some last) now = leb now.0 last.0

-- check_for_ongoing_transmision: by the port, or by what we know
unfoldable pub ongoing_of : Option Micros → Micros → Bool → Bool
ongoing_of a now transmitting = cond transmitting true (busy_of a now)

-- what asking whether a time has passed does: the last activity is known from then on; and whether the time has passed since
unfoldable pub waited_of : Core → Micros → Micros → Waited
waited_of c now time =
    let last = known_at c.last_bus_activity now in
    record { core = with_activity c (Some last); over = elapsed_of now last time }

-- wait_synchronization_pause: 33 bits
unfoldable pub pause_of : Parameters → Core → Micros → Waited
pause_of p c now = waited_of c now (time_of (record { 0 = pause_bits }) p.baudrate)

-- mark_tx: sending n bytes sets last activity to now + time of 11n bits
unfoldable pub sent_at : Parameters → Micros → ℕ → Option Micros
sent_at p now bytes = Some (record { 0 = now.0 + (time_of (record { 0 = byte_bits * bytes }) p.baudrate).0 })

-- check_for_bus_activity: more pending bytes than were known mark the bus active and are kept; as many or fewer change nothing
unfoldable pub bus_activity_of : Core → Micros → ℕ → Core
bus_activity_of c now pending =
    cond (ltb c.pending_bytes pending) (with_pending (with_activity c (marked_at c.last_bus_activity now)) pending) c

-- mark_rx
unfoldable pub rx_of : Core → Micros → Core
rx_of c now = with_activity (with_pending c 0) (marked_at c.last_bus_activity now)

-- check_slot_expired: the slot time
unfoldable pub slot_expired_of : Parameters → Core → Micros → Waited
slot_expired_of p c now = waited_of c now (slot_time_of p)

-- handle_lost_token, its test: the time of slot bits × (6 + 2 × address)
unfoldable pub token_lost_wait_of : Parameters → Core → Micros → Waited
token_lost_wait_of p c now = waited_of c now (token_lost_of p)

-- PollDone::waiting_for_transmission, PollDone::waiting_for_bus, PollDone::waiting_for_delay, PollDone::offline, by the outcome: a
-- step that sends, tells and consumes nothing, and of which nothing is counted
unfoldable pub done_of : State → Core → Outcome → Step
done_of s c o = record { state = s; core = c; sent = sent.Nothing; notice = notice.NoNotice; outcome = o; consumed = 0; event = event.Nothing }

-- mark_tx, in a step that sends: the bytes of what is sent
unfoldable pub transmit_of : Parameters → State → Core → Micros → Sent → Step
transmit_of p s c now x =
    record { state = s; core = with_activity c (sent_at p now (sent_bytes x)); sent = x; notice = notice.NoNotice; outcome = outcome.Transmission; consumed = 0; event = event.Nothing }

-- a step and the ring that it leaves
abbrev pub ring_step_of : Step → Ring → RingStep
ring_step_of s ring = record { step = s; ring = ring }

-- document 02: a step in which this happened
unfoldable pub with_event : RingStep → Event → RingStep
with_event s x =
    let step = s.step in
    record {
      step =
          record {
            state = step.state;
            core = step.core;
            sent = step.sent;
            notice = step.notice;
            outcome = step.outcome;
            consumed = step.consumed;
            event = x;
          };
      ring = s.ring;
    }

-- what a telegram leads to that is no collision; and what a poll begins with before its telegrams
unfoldable pub heard_of : State → Core → Ring → Outcome → Heard
heard_of s c ring o = record { state = s; core = c; ring = ring; outcome = o; met = 0 }

-- document 02: what a telegram leads to that is counted as a collision
unfoldable pub collision_of : State → Core → Ring → Heard
collision_of s c ring = record { state = s; core = c; ring = ring; outcome = outcome.Bus; met = 1 }

-- do_listen_token and handle_telegram: a status request, to us, that is the last telegram of its poll
unfoldable pub last_request_to_us : ℕ → ℕ → Bool → Bool → Bool
last_request_to_us destination own asks last = cond asks (cond (eqb destination own) last false) false
