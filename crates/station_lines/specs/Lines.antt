-- What is asked of a station that is read from bytes, as tests: each is a line of what theorem_sound calls a sound station, and
-- theorem_live shows that they are the same. Assumes nothing.
use Rattle.std.specs.Prelude.{ℕ, ◌+◌, ◌-◌, ◌*◌, Bool, true, false, cond, eqb, ltb, leb, Option, Some, None}
use Rattle.bit_times.specs.declared.micros.Micros.{Micros}
use Rattle.bit_times.specs.Times.{byte_bits, clock_end, time_of}
use Rattle.settings.specs.declared.parameters.Parameters.{Parameters}
use Rattle.settings.specs.Settings.{rotation_time_of}
use Rattle.settings_rules.specs.Rules.{gap_allowance}
use Rattle.ring.specs.declared.GapState.{GapState}
use Rattle.ring.specs.declared.GapState.TheVariants.{Waiting, DoPoll}
use Rattle.station.specs.declared.state.PassTokenAttempt.{PassTokenAttempt}
use Rattle.station.specs.declared.state.PassTokenAttempt.TheVariants.{First, Second, Third}
use Rattle.station.specs.declared.state.UseTokenData.{UseTokenData}
use Rattle.station.specs.declared.state.ConnectivityState.{ConnectivityState}
use Rattle.station.specs.declared.state.ConnectivityState.TheVariants as connectivity
use Rattle.station.specs.declared.state.State.{State}
use Rattle.station.specs.declared.state.State.TheVariants.{Offline, ListenToken, ActiveIdle, UseToken, ClaimToken, AwaitDataResponse, PassToken, CheckTokenPass, AwaitStatusResponse, PassiveIdle}
use Rattle.station.specs.declared.parts.Core.{Core}
use Rattle.station.specs.Parts.{state_number}
use Rattle.station_words.specs.Words.{activity_known}

-- no address, or one below 128
unfoldable pub low_line : Option ℕ → Bool
low_line None = true
low_line (Some a) = ltb a 128

-- an address below 128 that is not our own
unfoldable pub apart_line : ℕ → ℕ → Bool
apart_line a own = cond (eqb a own) false (ltb a 128)

-- no address, or such a one
unfoldable pub other_line : Option ℕ → ℕ → Bool
other_line None own = true
other_line (Some a) own = apart_line a own

-- no application, or one of n
unfoldable pub one_line : Option ℕ → ℕ → Bool
one_line None n = true
one_line (Some a) n = ltb a n

-- a token in hand: its time is a clock's, its first application one of n
unfoldable pub held_line : UseTokenData → ℕ → Bool
held_line held n = cond (ltb held.token_time.0 clock_end) (one_line held.first_app n) false

-- What each state holds; `own` is our own address, `gap` the gap state, `known` says whether the last bus activity is known, `last` is the last token time.

unfoldable pub listens_line : Option ℕ → ℕ → ℕ → Bool
listens_line request collisions own = cond (other_line request own) (leb collisions 1) false

unfoldable pub idles_line : Option ℕ → Option ℕ → ℕ → ℕ → Bool → Bool
idles_line request previous collisions own known = cond known (cond (low_line request) (listens_line previous collisions own) false) false

-- a token with which no application was asked yet
unfoldable pub unasked_line : Option ℕ → Bool
unasked_line None = true
unasked_line (Some a) = false

unfoldable pub uses_line : Bool → UseTokenData → ℕ → Bool → Micros → Bool
uses_line cycled held n known last =
    cond known (cond (held_line held n) (cond cycled (eqb held.token_time.0 last.0) (unasked_line held.first_app)) false) false

unfoldable pub claims_line : Bool → Bool → Bool
claims_line first known = cond first false known

unfoldable pub awaits_line : ℕ → UseTokenData → ℕ → Bool → Micros → Bool
awaits_line address held n known last = cond (ltb address 128) (uses_line true held n known last) false

unfoldable pub passes_line : PassTokenAttempt → Bool → Bool
passes_line First known = known
passes_line Second known = false
passes_line Third known = false

-- whether this is the address that the gap state polls
unfoldable pub polled_line : GapState → ℕ → Bool
polled_line (Waiting count) address = false
polled_line (DoPoll current) address = eqb current address

unfoldable pub asks_line : ℕ → GapState → Bool → Bool
asks_line address gap known = cond known (polled_line gap address) false

unfoldable pub noted_line : ℕ → ℕ → Bool → Bool
noted_line source own known = cond known (apart_line source own) false

unfoldable pub rests_line : Option ℕ → ℕ → Bool → Bool
rests_line None own known = true
rests_line (Some source) own known = noted_line source own known

unfoldable pub state_line : State → ℕ → ℕ → GapState → Bool → Micros → Bool
state_line Offline own n gap known last = true
state_line (ListenToken request collisions) own n gap known last = listens_line request collisions own
state_line (ActiveIdle request previous collisions) own n gap known last = idles_line request previous collisions own known
state_line (UseToken cycled held) own n gap known last = uses_line cycled held n known last
state_line (ClaimToken first) own n gap known last = claims_line first known
state_line (AwaitDataResponse address held) own n gap known last = awaits_line address held n known last
state_line (PassToken asks attempt) own n gap known last = passes_line attempt known
state_line (CheckTokenPass attempt) own n gap known last = known
state_line (AwaitStatusResponse address) own n gap known last = asks_line address gap known
state_line (PassiveIdle request) own n gap known last = rests_line request own known

-- The core.

-- one pending byte more than a record can say: its field for them has 11 bits (document 01)
abbrev pub pending_end : ℕ
pending_end = 2048

-- an address that is asked in the gap: below the highest station address, and not our own
unfoldable pub in_gap_line : Parameters → ℕ → Bool
in_gap_line p address = cond (eqb address p.address) false (ltb address p.highest_station_address)

-- the gap's count is at most one above the settings' gap wait, the address it polls is one that is asked
unfoldable pub gap_line : Parameters → GapState → Bool
gap_line p (Waiting count) = leb count (p.gap_wait_rotations + 1)
gap_line p (DoPoll address) = in_gap_line p address

-- less than so much after the end of the clock
unfoldable pub within_line : ℕ → ℕ → Bool
within_line last time = ltb last (clock_end + time)

-- the last bus activity is at most the time of 255 bytes after a time of a clock
unfoldable pub activity_line : Parameters → Option Micros → Bool
activity_line p None = true
activity_line p (Some last) = within_line last.0 (time_of (record { 0 = byte_bits * 255 }) p.baudrate).0

-- no token was used yet
unfoldable pub no_token : Micros → Micros → Bool
no_token last end = cond (eqb last.0 0) (eqb end.0 0) false

-- whether end comes so much after a time of a clock that is not the last token time
unfoldable pub counts_from : ℕ → ℕ → ℕ → Bool
counts_from end more last = cond (ltb end more) false (cond (eqb (end - more) last) false (ltb (end - more) clock_end))

-- what a gap poll takes off the hold time
unfoldable pub gap_time : Parameters → Micros
gap_time p = time_of (record { 0 = p.slot_bits + gap_allowance }) p.baudrate

-- the end of hold is a fresh station's; or it counts from an earlier token time and spans the rotation time, less nothing or less a
-- gap poll
unfoldable pub hold_line : Parameters → Micros → Micros → Bool
hold_line p last end =
    cond (no_token last end) true
    (cond (counts_from end.0 (rotation_time_of p).0 last.0) true
    (cond (ltb (rotation_time_of p).0 (gap_time p).0) false (counts_from end.0 ((rotation_time_of p).0 - (gap_time p).0) last.0)))

unfoldable pub core_line : Parameters → ℕ → Core → Bool
core_line p n c =
    cond (ltb c.next_application n)
    (cond (ltb c.pending_bytes pending_end)
    (cond (gap_line p c.gap_state)
    (cond (activity_line p c.last_bus_activity)
    (cond (ltb c.last_token_time.0 clock_end) (hold_line p c.last_token_time c.end_token_hold_time) false) false) false) false) false

-- a station that is put offline is in Offline
unfoldable pub offline_line : ConnectivityState → State → Bool
offline_line connectivity.Offline x = eqb (state_number x) 0
offline_line connectivity.Passive x = true
offline_line connectivity.Online x = true

-- the gap state of a fresh station
unfoldable pub resting_line : GapState → Bool
resting_line (Waiting count) = eqb count 0
resting_line (DoPoll address) = false

-- a core as a fresh station's, but for the last bus activity and the connectivity state
unfoldable pub fresh_line : Core → Bool
fresh_line c =
    cond (eqb c.pending_bytes 0)
    (cond (eqb c.next_application 0)
    (cond (resting_line c.gap_state) (no_token c.last_token_time c.end_token_hold_time) false) false) false

-- in Offline the core is such a one
unfoldable pub starts_line : State → Core → Bool
starts_line x c = cond (eqb (state_number x) 0) (fresh_line c) true

-- whether a station with these settings and n applications can have this state, this core and a ring with these laps
unfoldable pub sound_line : Parameters → ℕ → State → Core → ℕ → Bool
sound_line p n x c laps =
    cond (leb laps 2)
    (cond (offline_line c.connectivity_state x)
    (cond (starts_line x c)
    (cond (state_line x p.address n c.gap_state (activity_known c.last_bus_activity) c.last_token_time) (core_line p n c) false) false) false) false
