-- Steps of which nothing is counted and that do not lead to ClaimToken. Which steps are such is proved in proofs/Plain.
use Rattle.std.specs.Prelude.{◌≡◌, eqb}
use Rattle.std.proofs.Math.Bool.{false}
use Rattle.station.specs.declared.state.State.{State}
use Rattle.station.specs.declared.done.Event.TheVariants as event
use Rattle.station.specs.Whole.{Step, RingStep}
use Rattle.station.specs.Parts.{state_number}

-- a state other than ClaimToken
abbrev pub Elsewhere : State → Type 0
Elsewhere x = eqb (state_number x) 4 ≡ false

-- nothing is counted, and the step leads elsewhere
pub record Plain (s : Step) : Type 0 where
  pub nothing : s.event ≡ event.Nothing
  pub elsewhere : Elsewhere s.state

-- and no telegram is consumed
pub record Calm (s : Step) : Type 0 where
  pub plain : Plain s
  pub none : s.consumed ≡ 0

abbrev pub CalmRing : RingStep → Type 0
CalmRing x = Calm x.step

abbrev pub PlainRing : RingStep → Type 0
PlainRing x = Plain x.step
