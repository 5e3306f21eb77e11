-- A poll: poll_inner, then poll. `bytes` is the poll record, n the number of applications, count that of telegrams.
use Rattle.std.specs.Prelude.{ℕ, Bool, cond, List, eqb}
use Rattle.bit_times.specs.declared.micros.Micros.{Micros}
use Rattle.settings.specs.declared.parameters.Parameters.{Parameters}
use Rattle.ring.specs.Ring.{Ring}
use Rattle.codec_records.specs.declared.Head.{Head}
use Rattle.codec_records.specs.Records.{head_of, record_refusal}
use Rattle.codec_answers.specs.declared.Outcome.TheVariants as outcome
use Rattle.station.specs.declared.state.ConnectivityState.{ConnectivityState}
use Rattle.station.specs.declared.state.ConnectivityState.TheVariants as connectivity
use Rattle.station.specs.declared.state.State.{State}
use Rattle.station.specs.declared.state.State.TheVariants.{Offline, ListenToken, ActiveIdle, UseToken, ClaimToken, AwaitDataResponse, PassToken, CheckTokenPass, AwaitStatusResponse, PassiveIdle}
use Rattle.station.specs.declared.parts.Core.{Core}
use Rattle.station.specs.declared.station.Station.{Station}
use Rattle.station.specs.Whole.{RingStep}
use Rattle.station.specs.Parts.{with_activity, is_offline}
use Rattle.station.specs.Steps.{to_listen_token, to_passive_idle, marked_at, ongoing_of, bus_activity_of, done_of, ring_step_of}
use Rattle.station_claim.specs.Claim.{claim_token_of}
use Rattle.station_hold.specs.Hold.{use_token_of, await_data_of}
use Rattle.station_listen.specs.Listen.{listen_token_of, active_idle_of}
use Rattle.station_passive.specs.Passive.{passive_idle_of}
use Rattle.station_pass.specs.Pass.{pass_token_of}
use Rattle.station_await_status.specs.AwaitStatus.{await_status_of}
use Rattle.station_check_pass.specs.CheckPass.{check_token_pass_of}
use Rattle.station_answer.specs.Answer.{Polled, polled_of, refused_poll}

-- poll_inner, online: from Offline and from PassiveIdle the station goes to ListenToken
unfoldable pub connected_of : State → State
connected_of Offline = to_listen_token
connected_of (ListenToken request collisions) = ListenToken request collisions
connected_of (ActiveIdle request newPreviousStation collisions) = ActiveIdle request newPreviousStation collisions
connected_of (UseToken cycled held) = UseToken cycled held
connected_of (ClaimToken first) = ClaimToken first
connected_of (AwaitDataResponse address held) = AwaitDataResponse address held
connected_of (PassToken gap attempt) = PassToken gap attempt
connected_of (CheckTokenPass attempt) = CheckTokenPass attempt
connected_of (AwaitStatusResponse address) = AwaitStatusResponse address
connected_of (PassiveIdle request) = to_listen_token

-- poll_inner, passive: from Offline, ListenToken and ActiveIdle the station goes to PassiveIdle; in any other state it goes on
unfoldable pub passivated_of : State → State
passivated_of Offline = to_passive_idle
passivated_of (ListenToken request collisions) = to_passive_idle
passivated_of (ActiveIdle request newPreviousStation collisions) = to_passive_idle
passivated_of (UseToken cycled held) = UseToken cycled held
passivated_of (ClaimToken first) = ClaimToken first
passivated_of (AwaitDataResponse address held) = AwaitDataResponse address held
passivated_of (PassToken gap attempt) = PassToken gap attempt
passivated_of (CheckTokenPass attempt) = CheckTokenPass attempt
passivated_of (AwaitStatusResponse address) = AwaitStatusResponse address
passivated_of (PassiveIdle request) = PassiveIdle request

-- poll_inner: the state that the connectivity state leads to, first thing in a poll (offline there is no more to it)
unfoldable pub entered_of : ConnectivityState → State → State
entered_of connectivity.Offline s = s
entered_of connectivity.Passive s = passivated_of s
entered_of connectivity.Online s = connected_of s

-- poll_inner: what the state asks for (Offline cannot be: entered_of comes first)
unfoldable pub dispatch_of : Parameters → State → Core → Ring → Micros → List ℕ → ℕ → ℕ → RingStep
dispatch_of p Offline c ring now bytes n count = ring_step_of (done_of Offline c outcome.Offline) ring
dispatch_of p (ListenToken request collisions) c ring now bytes n count = listen_token_of p c ring now request collisions bytes n count
dispatch_of p (ActiveIdle request newPreviousStation collisions) c ring now bytes n count =
    active_idle_of p c ring now request newPreviousStation collisions bytes n count
dispatch_of p (UseToken cycled held) c ring now bytes n count = ring_step_of (use_token_of p c now held cycled bytes n) ring
dispatch_of p (ClaimToken first) c ring now bytes n count = claim_token_of p c ring now first
dispatch_of p (AwaitDataResponse address held) c ring now bytes n count = ring_step_of (await_data_of p c now address held bytes n count) ring
dispatch_of p (PassToken gap attempt) c ring now bytes n count = pass_token_of p c ring now gap attempt
dispatch_of p (CheckTokenPass attempt) c ring now bytes n count = check_token_pass_of p c ring now attempt bytes n count
dispatch_of p (AwaitStatusResponse address) c ring now bytes n count = await_status_of p c ring now address bytes n count
dispatch_of p (PassiveIdle request) c ring now bytes n count = passive_idle_of p c ring now request bytes n count

-- poll_inner, check_for_ongoing_transmision: while a transmission goes on nothing is sent or consumed; else bus activity, then
-- the state
unfoldable pub poll_online : Parameters → State → Core → Ring → Micros → Bool → ℕ → List ℕ → ℕ → ℕ → RingStep
poll_online p s c ring now transmitting pending bytes n count =
    cond (ongoing_of c.last_bus_activity now transmitting)
    (ring_step_of (done_of s (with_activity c (marked_at c.last_bus_activity now)) outcome.Transmission) ring)
    (dispatch_of p s (bus_activity_of c now pending) ring now bytes n count)

-- poll_inner: an offline station does nothing
unfoldable pub poll_inner : Parameters → State → Core → Ring → Micros → Bool → ℕ → List ℕ → ℕ → ℕ → RingStep
poll_inner p s c ring now transmitting pending bytes n count =
    cond (is_offline c.connectivity_state) (ring_step_of (done_of s c outcome.Offline) ring)
    (poll_online p (entered_of c.connectivity_state s) c ring now transmitting pending bytes n count)

-- a poll whose record is not refused, by the record's first 64 bits
unfoldable pub accepted_after : Station → List ℕ → Head → Polled
accepted_after s bytes head =
    polled_of s.p s.applications s.counts
    (poll_inner s.p s.state s.core s.token_ring (record { 0 = head.clock }) head.transmitting head.pending bytes s.applications head.telegrams)

-- a poll whose record is not refused
unfoldable pub accepted_poll : Station → List ℕ → Polled
accepted_poll s bytes = accepted_after s bytes (head_of bytes)

-- poll, poll_multi
unfoldable pub poll_of : Station → List ℕ → Polled
poll_of s bytes =
    cond (eqb (record_refusal bytes s.applications) 0) (accepted_poll s bytes) (refused_poll s (record_refusal bytes s.applications))
