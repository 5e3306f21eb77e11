-- What one silent poll comes to at a station that waits for the lost token: Offline and online, ListenToken, ActiveIdle. The proof is in
-- proofs/Listening.
use Rattle.std.specs.Prelude.{ℕ, Bool, ◌≡◌, List, Option, Some, None}
use Rattle.std.proofs.Math.Bool.{false}
use Rattle.bit_times.specs.declared.micros.Micros.{Micros}
use Rattle.settings.specs.declared.parameters.Parameters.{Parameters}
use Rattle.ring.specs.Ring.{Ring}
use Rattle.codec_telegrams.specs.declared.ResponseState.{ResponseState}
use Rattle.codec_answers.specs.declared.Sent.TheVariants as sent
use Rattle.station.specs.declared.state.State.{State}
use Rattle.station.specs.declared.state.State.TheVariants.{ListenToken, ActiveIdle}
use Rattle.station.specs.declared.parts.Core.{Core}
use Rattle.station.specs.Whole.{RingStep}
use Rattle.station_poll.specs.Poll.{connected_of}
use Rattle.theorem_silence.specs.Phases.{claiming}
use Rattle.theorem_silence.specs.OnePoll.{Ready, Sends}

-- a state that waits for the lost token, with this status request noted; Offline and PassiveIdle lead to ListenToken first
pub data Hears (request : Option ℕ) (s : State) : Type 0 where
  listening : (collisions : ℕ) → connected_of s ≡ ListenToken request collisions → Hears request s
  idle : (newPreviousStation : Option ℕ) (collisions : ℕ) → connected_of s ≡ ActiveIdle request newPreviousStation collisions → Hears request s

-- a station that waits so, with these others in its ring
abbrev pub Listens : Option ℕ → List ℕ → Parameters → State → Core → Ring → Type 0
Listens request os p s c r = Ready p c r os × Hears request s

-- One such poll, with whether it is counted: the token is claimed; or a request that was noted is answered; or nothing happens. The last
-- two are not counted.
pub data ListenTurn (p : Parameters) (now : Micros) (request : Option ℕ) (os : List ℕ) (counts : Bool) (x : RingStep) : Type 0 where
  claims : Sends p now (sent.Token p.address) (claiming false os) x → ListenTurn p now request os counts x
  answers : counts ≡ false → (source : ℕ) (state : ResponseState) → request ≡ Some source → x.step.sent ≡ sent.StatusResponse source state → Listens None os p x.step.state x.step.core x.ring → ListenTurn p now request os counts x
  waits : counts ≡ false → x.step.sent ≡ sent.Nothing → Listens request os p x.step.state x.step.core x.ring → ListenTurn p now request os counts x
