-- What a sound station is, the calls, and what a list of them makes of a station. That every station that the public calls make is sound
-- is proved in proofs/Sound.
use Rattle.std.specs.Prelude.{ℕ, ◌≤◌, ◌≡◌, List, [], ◌∷◌}
use Rattle.bit_times.specs.declared.micros.Micros.{Micros}
use Rattle.ring.specs.Laws.{SoundRing}
use Rattle.codec_records.specs.Records.{head_of}
use Rattle.station.specs.declared.station.Station.{Station}
use Rattle.station.specs.Parts.{zero_time}
use Rattle.station_poll.specs.Poll.{poll_of}
use Rattle.station_command.specs.Command.{online_of, offline_of, passive_of}
use Rattle.theorem_sound.specs.Moves.{Moves}
use Rattle.theorem_sound.specs.Lines.{SoundCore}
use Rattle.theorem_sound.specs.Follows.{FirstAttempt, SlotCoversPause}
use Rattle.theorem_sound.specs.Keeps.{RingGood}

-- A sound station.
pub record SoundStation (s : Station) : Type 0 where
  -- its ring is sound
  pub ring_sound : SoundRing s.token_ring
  -- and has the settings' address for its own
  pub own_is : s.token_ring.own ≡ s.p.address
  -- there are 1 to 8 applications
  pub some : 1 ≤ s.applications
  pub eight : s.applications ≤ 8
  -- a token pass stands at its first attempt and a claim has sent its first token, where the slot is not shorter than the pause
  pub first_attempt : SlotCoversPause s.p → FirstAttempt s.state
  -- its state and core are sound: see SoundCore, in Lines.antt, for the lines
  pub core_sound : SoundCore s.p s.applications s.state s.core

-- a call of a station
pub data Call : Type 0 where
  poll : List ℕ → Call
  online : Call
  offline : Call
  passive : Call

-- the station after a call
unfoldable pub after : Station → Call → Station
after s (poll bytes) = (poll_of s bytes).station
after s online = (online_of s).station
after s offline = (offline_of s).station
after s passive = (passive_of s).station

-- the station after a list of calls
unfoldable pub run : Station → List Call → Station
run s [] = s
run s (c ∷ cs) = run (after s c) cs

-- the clock of a call: a poll's, and none for a command
abbrev pub clock_of : Call → Micros
clock_of (poll bytes) = record { 0 = (head_of bytes).clock }
clock_of online = zero_time
clock_of offline = zero_time
clock_of passive = zero_time

-- A call's moves: the station after it has come there from a sound one by moves, and its ring is sound. The settings and the number of
-- applications stay.
pub record CallMade (s : Station) (now : Micros) (t : Station) : Type 0 where
  pub moves : Moves s.p s.applications now s.state s.core t.state t.core
  pub ring : RingGood s.p t.token_ring
  pub first : SlotCoversPause s.p → FirstAttempt t.state
  pub settings_stay : t.p ≡ s.p
  pub applications_stay : t.applications ≡ s.applications
