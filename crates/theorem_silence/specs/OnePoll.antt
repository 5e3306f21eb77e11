-- What one silent poll comes to at each place: the station stays where it is, or sends the one telegram that is next. That it does is
-- proved in proofs/OnePoll.
use Rattle.std.specs.Prelude.{ℕ, Bool, true, false, cond, ◌≡◌, List}
use Rattle.bit_times.specs.declared.micros.Micros.{Micros}
use Rattle.settings.specs.declared.parameters.Parameters.{Parameters}
use Rattle.ring.specs.declared.GapState.TheVariants.{DoPoll}
use Rattle.ring.specs.Ring.{Ring, others}
use Rattle.codec_answers.specs.declared.Outcome.TheVariants as outcome
use Rattle.codec_answers.specs.declared.Sent.{Sent}
use Rattle.codec_answers.specs.declared.Sent.TheVariants as sent
use Rattle.codec_answers.specs.Answers.{sent_bytes}
use Rattle.station.specs.declared.state.ConnectivityState.TheVariants as connectivity
use Rattle.station.specs.declared.state.PassTokenAttempt.{PassTokenAttempt}
use Rattle.station.specs.declared.state.State.{State}
use Rattle.station.specs.declared.state.State.TheVariants.{ClaimToken, PassToken, CheckTokenPass, AwaitStatusResponse}
use Rattle.station.specs.declared.parts.Core.{Core}
use Rattle.station.specs.Whole.{RingStep}
use Rattle.station.specs.Parts.{with_activity}
use Rattle.station.specs.Steps.{to_use_token, marked_at, sent_at, busy_of, done_of, ring_step_of}
use Rattle.station_pass.specs.Pass.{gap_advanced}
use Rattle.station_poll.specs.Poll.{dispatch_of}
use Rattle.theorem_sound.specs.Keeps.{RingGood}
use Rattle.theorem_silence.specs.Silence.{gap_due}
use Rattle.theorem_silence.specs.Phases.{Phase, asking, awaiting, starting, checking, claiming, holding, next, next_sent}

-- what holds at every place: online, a sound ring with the settings' address for its own, and these others
pub record Ready (p : Parameters) (c : Core) (r : Ring) (os : List ℕ) : Type 0 where
  pub on : c.connectivity_state ≡ connectivity.Online
  pub ring_good : RingGood p r
  pub are : others r ≡ os

-- the state in which a token pass starts with a gap question to this address due
pub record Asking (p : Parameters) (a : ℕ) (s : State) (c : Core) (r : Ring) : Type 0 where
  pub attempt : PassTokenAttempt
  pub passing : s ≡ PassToken true attempt
  pub question : gap_advanced p r c.gap_state ≡ DoPoll a

-- the state that awaits the answer to one
pub record Awaiting (s : State) : Type 0 where
  pub address : ℕ
  pub awaiting_it : s ≡ AwaitStatusResponse address

-- the state in which a token pass starts at this attempt with no gap question due
pub record Passing (p : Parameters) (attempt : PassTokenAttempt) (s : State) (c : Core) (r : Ring) : Type 0 where
  pub gap : Bool
  pub passing : s ≡ PassToken gap attempt
  pub no_question : gap_due p c r gap ≡ false

-- the state that holds a new token
pub record Holding (s : State) : Type 0 where
  pub since : Micros
  pub held : s ≡ to_use_token since

-- a station, by its state, core and ring, is at a place
abbrev pub At : Phase → Parameters → State → Core → Ring → Type 0
At (asking a os) p s c r = Ready p c r os × Asking p a s c r
At (awaiting os) p s c r = Ready p c r os × Awaiting s
At (starting attempt os) p s c r = Ready p c r os × Passing p attempt s c r
At (checking attempt os) p s c r = Ready p c r os × (s ≡ CheckTokenPass attempt)
At (claiming first os) p s c r = Ready p c r os × (s ≡ ClaimToken first)
At (holding os) p s c r = Ready p c r os × Holding s

-- a step that sends this telegram now and leads to this place
pub record Sends (p : Parameters) (now : Micros) (out : Sent) (ph : Phase) (x : RingStep) : Type 0 where
  pub telegram : x.step.sent ≡ out
  pub marks : x.step.core.last_bus_activity ≡ sent_at p now (sent_bytes out)
  pub place : At ph p x.step.state x.step.core x.ring

-- a step that sends nothing and stays at this place
pub record Stays (p : Parameters) (ph : Phase) (x : RingStep) : Type 0 where
  pub nothing : x.step.sent ≡ sent.Nothing
  pub place : At ph p x.step.state x.step.core x.ring

-- one poll at a place, with whether it is counted
pub data Turn (p : Parameters) (now : Micros) (ph : Phase) (counts : Bool) (x : RingStep) : Type 0 where
  sends : Sends p now (next_sent p.address ph) (next ph) x → Turn p now ph counts x
  stays : counts ≡ false → Stays p ph x → Turn p now ph counts x

-- whom a question that is due goes to; the pass looks at the gap
pub record Due (p : Parameters) (c : Core) (r : Ring) (gap : Bool) : Type 0 where
  pub whom : ℕ
  pub looks : gap ≡ true
  pub is_due : gap_advanced p r c.gap_state ≡ DoPoll whom

-- What a silent poll comes to.

-- the step of a silent poll: while a transmission goes on nothing happens, else what the state asks for
unfoldable pub quiet_step : Parameters → State → Core → Ring → Micros → List ℕ → ℕ → RingStep
quiet_step p s c r now bytes n =
    cond (busy_of c.last_bus_activity now)
    (ring_step_of (done_of s (with_activity c (marked_at c.last_bus_activity now)) outcome.Transmission) r)
    (dispatch_of p s c r now bytes n 0)
