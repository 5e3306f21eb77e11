-- The station's parts: one part changed, document 01's numbers of the states, and a fresh station.
use Rattle.std.specs.Prelude.{ℕ, Bool, true, false, Option, None}
use Rattle.bit_times.specs.declared.micros.Micros.{Micros}
use Rattle.settings.specs.declared.parameters.Parameters.{Parameters}
use Rattle.settings_rules.specs.Rules.{applications_refusal}
use Rattle.ring.specs.declared.GapState.{GapState}
use Rattle.ring.specs.declared.GapState.TheVariants.{Waiting}
use Rattle.ring.specs.Ring.{fresh_of}
use Rattle.station.specs.declared.state.ConnectivityState.{ConnectivityState}
use Rattle.station.specs.declared.state.ConnectivityState.TheVariants as connectivity
use Rattle.station.specs.declared.state.State.{State}
use Rattle.station.specs.declared.state.State.TheVariants.{Offline, ListenToken, ActiveIdle, UseToken, ClaimToken, AwaitDataResponse, PassToken, CheckTokenPass, AwaitStatusResponse, PassiveIdle}
use Rattle.station.specs.declared.parts.Core.{Core}
use Rattle.station.specs.declared.parts.Counts.{Counts}
use Rattle.station.specs.declared.station.Station.{Station}
use Rattle.station.specs.Whole.{Started}

-- the same core but for one part; with_token_times: but for two
unfoldable pub with_activity : Core → Option Micros → Core
with_activity c x = record { last_token_time = c.last_token_time; end_token_hold_time = c.end_token_hold_time; last_bus_activity = x; gap_state = c.gap_state; pending_bytes = c.pending_bytes; next_application = c.next_application; connectivity_state = c.connectivity_state }

unfoldable pub with_gap : Core → GapState → Core
with_gap c x = record { last_token_time = c.last_token_time; end_token_hold_time = c.end_token_hold_time; last_bus_activity = c.last_bus_activity; gap_state = x; pending_bytes = c.pending_bytes; next_application = c.next_application; connectivity_state = c.connectivity_state }

unfoldable pub with_pending : Core → ℕ → Core
with_pending c x = record { last_token_time = c.last_token_time; end_token_hold_time = c.end_token_hold_time; last_bus_activity = c.last_bus_activity; gap_state = c.gap_state; pending_bytes = x; next_application = c.next_application; connectivity_state = c.connectivity_state }

unfoldable pub with_token_times : Core → Micros → Micros → Core
with_token_times c token hold = record { last_token_time = token; end_token_hold_time = hold; last_bus_activity = c.last_bus_activity; gap_state = c.gap_state; pending_bytes = c.pending_bytes; next_application = c.next_application; connectivity_state = c.connectivity_state }

unfoldable pub with_next_application : Core → ℕ → Core
with_next_application c x = record { last_token_time = c.last_token_time; end_token_hold_time = c.end_token_hold_time; last_bus_activity = c.last_bus_activity; gap_state = c.gap_state; pending_bytes = c.pending_bytes; next_application = x; connectivity_state = c.connectivity_state }

unfoldable pub with_connectivity : Core → ConnectivityState → Core
with_connectivity c x = record { last_token_time = c.last_token_time; end_token_hold_time = c.end_token_hold_time; last_bus_activity = c.last_bus_activity; gap_state = c.gap_state; pending_bytes = c.pending_bytes; next_application = c.next_application; connectivity_state = x }

-- ConnectivityState::is_offline
unfoldable pub is_offline : ConnectivityState → Bool
is_offline connectivity.Offline = true
is_offline connectivity.Passive = false
is_offline connectivity.Online = false

-- document 01's numbers of the states; 9 is document 02's
abbrev pub state_number : State → ℕ
state_number Offline = 0
state_number (ListenToken request collisions) = 1
state_number (ActiveIdle request newPreviousStation collisions) = 2
state_number (UseToken cycled held) = 3
state_number (ClaimToken first) = 4
state_number (AwaitDataResponse address held) = 5
state_number (PassToken gap attempt) = 6
state_number (CheckTokenPass attempt) = 7
state_number (AwaitStatusResponse address) = 8
state_number (PassiveIdle request) = 9

-- the time 0
abbrev pub zero_time : Micros
zero_time = record { 0 = 0 }

-- FdlActiveStation::new, as document 01 has it: a fresh station has activity unknown, pending 0, token time 0, hold end 0, gap waiting 0, application 0
unfoldable pub fresh_core : Core
fresh_core = record { last_token_time = zero_time; end_token_hold_time = zero_time; last_bus_activity = None; gap_state = Waiting 0; pending_bytes = 0; next_application = 0; connectivity_state = connectivity.Offline }

-- document 02: nothing counted yet
abbrev pub no_counts : Counts
no_counts = record { claims = 0; removals = 0; meetings = 0 }

-- FdlActiveStation::new, with these settings and applications: Offline, alone in its ring, nothing counted
unfoldable pub fresh_station : Parameters → ℕ → Station
fresh_station p n = record { state = Offline; core = fresh_core; token_ring = fresh_of p.address; p = p; counts = no_counts; applications = n }

-- FdlActiveStation::new: 11 unless there are 1 to 8 applications
unfoldable pub new_station : Parameters → ℕ → Started
new_station p n = record { station = fresh_station p n; refusal = applications_refusal n }
