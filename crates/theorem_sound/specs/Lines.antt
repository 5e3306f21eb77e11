-- What a sound state and core are, line by line: each line is a predicate of the state and the parts of the core that it speaks of. proofs/Kept.antt has a law for
-- each line: every move keeps it.
use Rattle.std.specs.Prelude.{ℕ, ◌+◌, ◌*◌, ◌^◌, ◌≤◌, ◌<◌, true, false, ◌≡◌, ◌⊎◌, Option, Some, None}
use Rattle.bit_times.specs.declared.micros.Micros.{Micros}
use Rattle.bit_times.specs.declared.baud.Baud.{Baud}
use Rattle.bit_times.specs.Times.{byte_bits, clock_end, time_of}
use Rattle.settings.specs.declared.parameters.Parameters.{Parameters}
use Rattle.settings.specs.Settings.{rotation_time_of}
use Rattle.ring.specs.declared.GapState.{GapState}
use Rattle.ring.specs.declared.GapState.TheVariants.{Waiting, DoPoll}
use Rattle.station.specs.declared.state.ConnectivityState.TheVariants as connectivity
use Rattle.station.specs.declared.state.State.{State}
use Rattle.station.specs.declared.state.State.TheVariants.{Offline, ListenToken, ActiveIdle, UseToken, ClaimToken, AwaitDataResponse, PassToken, CheckTokenPass, AwaitStatusResponse, PassiveIdle}
use Rattle.station.specs.declared.parts.Core.{Core}
use Rattle.station_hold.specs.Hold.{hold_less, end_of}
use Rattle.theorem_sound.specs.Moves.{Known, KnownWith, Low, Other, Clock, Unasked, HeldFits, GapAddressed, GapCounted}

-- Each address that a state holds is below 128: who asked for the status, who may be the new previous station, and who is to answer
-- (for AwaitStatusResponse see AskedInGap). But for who asked in ActiveIdle, and for who is to reply, it is not our own.
abbrev pub Addressed : ℕ → State → Type 0
Addressed own Offline = Unit {0}
Addressed own (ListenToken request collisions) = Other own request
Addressed own (ActiveIdle request newPreviousStation collisions) = Low request × Other own newPreviousStation
Addressed own (UseToken cycled held) = Unit {0}
Addressed own (ClaimToken first) = Unit {0}
Addressed own (AwaitDataResponse a held) = a < 128
Addressed own (PassToken gap attempt) = Unit {0}
Addressed own (CheckTokenPass attempt) = Unit {0}
Addressed own (AwaitStatusResponse a) = Unit {0}
Addressed own (PassiveIdle request) = Other own request

-- The station whose status is awaited is the one that the gap state polls.
abbrev pub AskedInGap : State → GapState → Type 0
AskedInGap Offline g = Unit {0}
AskedInGap (ListenToken request collisions) g = Unit {0}
AskedInGap (ActiveIdle request newPreviousStation collisions) g = Unit {0}
AskedInGap (UseToken cycled held) g = Unit {0}
AskedInGap (ClaimToken first) g = Unit {0}
AskedInGap (AwaitDataResponse a held) g = Unit {0}
AskedInGap (PassToken gap attempt) g = Unit {0}
AskedInGap (CheckTokenPass attempt) g = Unit {0}
AskedInGap (AwaitStatusResponse a) g = g ≡ DoPoll a
AskedInGap (PassiveIdle request) g = Unit {0}

-- At most one collision is counted: a second leads out of ListenToken and of ActiveIdle.
abbrev pub CollidedOnce : State → Type 0
CollidedOnce Offline = Unit {0}
CollidedOnce (ListenToken request collisions) = collisions ≤ 1
CollidedOnce (ActiveIdle request newPreviousStation collisions) = collisions ≤ 1
CollidedOnce (UseToken cycled held) = Unit {0}
CollidedOnce (ClaimToken first) = Unit {0}
CollidedOnce (AwaitDataResponse a held) = Unit {0}
CollidedOnce (PassToken gap attempt) = Unit {0}
CollidedOnce (CheckTokenPass attempt) = Unit {0}
CollidedOnce (AwaitStatusResponse a) = Unit {0}
CollidedOnce (PassiveIdle request) = Unit {0}

-- In every state but Offline, ListenToken and PassiveIdle the last bus activity is known; in PassiveIdle once a request is noted.
abbrev pub KnownIn : State → Option Micros → Type 0
KnownIn Offline a = Unit {0}
KnownIn (ListenToken request collisions) a = Unit {0}
KnownIn (ActiveIdle request newPreviousStation collisions) a = Known a
KnownIn (UseToken cycled held) a = Known a
KnownIn (ClaimToken first) a = Known a
KnownIn (AwaitDataResponse address held) a = Known a
KnownIn (PassToken gap attempt) a = Known a
KnownIn (CheckTokenPass attempt) a = Known a
KnownIn (AwaitStatusResponse address) a = Known a
KnownIn (PassiveIdle request) a = KnownWith request a

-- A token in hand came at a time of a clock, and its first application is one of n.
abbrev pub HeldIn : ℕ → State → Type 0
HeldIn n Offline = Unit {0}
HeldIn n (ListenToken request collisions) = Unit {0}
HeldIn n (ActiveIdle request newPreviousStation collisions) = Unit {0}
HeldIn n (UseToken cycled held) = HeldFits n held
HeldIn n (ClaimToken first) = Unit {0}
HeldIn n (AwaitDataResponse address held) = HeldFits n held
HeldIn n (PassToken gap attempt) = Unit {0}
HeldIn n (CheckTokenPass attempt) = Unit {0}
HeldIn n (AwaitStatusResponse address) = Unit {0}
HeldIn n (PassiveIdle request) = Unit {0}

-- A token whose first cycle is to come is a new one: no application was asked with it.
abbrev pub UnaskedIn : State → Type 0
UnaskedIn Offline = Unit {0}
UnaskedIn (ListenToken request collisions) = Unit {0}
UnaskedIn (ActiveIdle request newPreviousStation collisions) = Unit {0}
UnaskedIn (UseToken true held) = Unit {0}
UnaskedIn (UseToken false held) = Unasked held
UnaskedIn (ClaimToken first) = Unit {0}
UnaskedIn (AwaitDataResponse address held) = Unit {0}
UnaskedIn (PassToken gap attempt) = Unit {0}
UnaskedIn (CheckTokenPass attempt) = Unit {0}
UnaskedIn (AwaitStatusResponse address) = Unit {0}
UnaskedIn (PassiveIdle request) = Unit {0}

-- The token in hand is the last token, once an application was asked or a reply is awaited. So the end of hold is this token's.
abbrev pub LastToken : State → Micros → Type 0
LastToken Offline last = Unit {0}
LastToken (ListenToken request collisions) last = Unit {0}
LastToken (ActiveIdle request newPreviousStation collisions) last = Unit {0}
LastToken (UseToken true held) last = held.token_time.0 ≡ last.0
LastToken (UseToken false held) last = Unit {0}
LastToken (ClaimToken first) last = Unit {0}
LastToken (AwaitDataResponse address held) last = held.token_time.0 ≡ last.0
LastToken (PassToken gap attempt) last = Unit {0}
LastToken (CheckTokenPass attempt) last = Unit {0}
LastToken (AwaitStatusResponse address) last = Unit {0}
LastToken (PassiveIdle request) last = Unit {0}

-- The last bus activity is at most the time of 255 bytes after a time that a clock can show.
abbrev pub ActivityFits : Baud → Option Micros → Type 0
ActivityFits baud None = Unit {0}
ActivityFits baud (Some last) = last.0 < clock_end + (time_of (record { 0 = byte_bits * 255 }) baud).0

-- no token was used yet but one that came at the clock 0: last token time and end of hold are a fresh station's
pub record NoToken (last end : Micros) : Type 0 where
  pub no_last : last.0 ≡ 0
  pub no_end : end.0 ≡ 0

-- the end of hold was set with the last token time: it counts from an earlier token time, which was another one, and spans the
-- rotation time, less the time of a gap poll or less nothing. (The cap of end_of is never met: `hold_itself` in Sizes.antt.)
pub record HoldSet (p : Parameters) (last end : Micros) : Type 0 where
  pub from : Micros
  pub clock : Clock from
  pub another : from.0 ≡ last.0 → ⊥
  pub gap : GapState
  pub end_is : end ≡ end_of from (rotation_time_of p) (hold_less p gap)

-- The end of hold is a fresh station's, or it was set with the last token time.
abbrev pub HoldMade : Parameters → Micros → Micros → Type 0
HoldMade p last end = NoToken last end ⊎ HoldSet p last end

-- a core as a fresh station's, but for the last bus activity and the connectivity state
pub record FreshBut (c : Core) : Type 0 where
  pub no_token : NoToken c.last_token_time c.end_token_hold_time
  pub no_gap : c.gap_state ≡ Waiting 0
  pub no_pending : c.pending_bytes ≡ 0
  pub first_next : c.next_application ≡ 0

-- In Offline the core is such a one. A command sets the connectivity there, and telegrams behind a second collision mark activity.
abbrev pub FreshIn : State → Core → Type 0
FreshIn Offline c = FreshBut c
FreshIn (ListenToken request collisions) c = Unit {0}
FreshIn (ActiveIdle request newPreviousStation collisions) c = Unit {0}
FreshIn (UseToken cycled held) c = Unit {0}
FreshIn (ClaimToken first) c = Unit {0}
FreshIn (AwaitDataResponse address held) c = Unit {0}
FreshIn (PassToken gap attempt) c = Unit {0}
FreshIn (CheckTokenPass attempt) c = Unit {0}
FreshIn (AwaitStatusResponse address) c = Unit {0}
FreshIn (PassiveIdle request) c = Unit {0}

-- A sound state x with its core c, of a station with settings p and n applications.
pub record SoundCore (p : Parameters) (n : ℕ) (x : State) (c : Core) : Type 0 where
  -- the next application to be asked is one of them
  pub next_one : c.next_application < n
  -- the pending bytes are a record's: document 01 has a field of 11 bits for them
  pub pending_few : c.pending_bytes < 2 ^ 11
  -- the addresses that the state holds are below 128, and most are not our own
  pub addresses : Addressed p.address x
  -- the address that the gap state polls is below 126 and below the highest station address, and is not our own
  pub gap_address : GapAddressed p c.gap_state
  -- the station whose status is awaited is the one that the gap state polls
  pub asked_in_gap : AskedInGap x c.gap_state
  -- the count of a gap state that waits is at most one above the settings' gap wait
  pub gap_count : GapCounted p c.gap_state
  -- a station that is put offline is in Offline
  pub offline : c.connectivity_state ≡ connectivity.Offline → x ≡ Offline
  -- in Offline the core is a fresh station's, but for the last bus activity and the connectivity state
  pub fresh_offline : FreshIn x c
  -- at most one collision is counted
  pub collided_once : CollidedOnce x
  -- the last bus activity is known in every state but Offline, ListenToken, and PassiveIdle with no request noted
  pub activity_known_lem : KnownIn x c.last_bus_activity
  -- the last bus activity fits: at most the time of 255 bytes after a clock
  pub activity_fits : ActivityFits p.baudrate c.last_bus_activity
  -- a token in hand has a time of a clock, and a first application that is one of n
  pub token_held : HeldIn n x
  -- before its first cycle it has no first application
  pub token_unasked : UnaskedIn x
  -- the token in hand is the last token, once its first cycle is done
  pub last_token : LastToken x c.last_token_time
  -- the last token time is a clock's
  pub token_time : Clock c.last_token_time
  -- the end of hold is a fresh station's, or was set with the last token time
  pub hold_made : HoldMade p c.last_token_time c.end_token_hold_time
