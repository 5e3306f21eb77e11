-- What a step comes to in PassiveIdle. The proof is in proofs/Idle.
use Rattle.std.specs.Prelude.{◌≡◌}
use Rattle.ring.specs.Ring.{Ring}
use Rattle.codec_answers.specs.declared.Notice.TheVariants as notice
use Rattle.station.specs.declared.parts.Core.{Core}
use Rattle.station.specs.declared.done.Event.TheVariants as event
use Rattle.station.specs.Whole.{RingStep}
use Rattle.theorem_sound.specs.Listen.{Passive}
use Rattle.theorem_passive.specs.Statement.{OnlyAnswers, CoreStays}

-- what a step comes to in PassiveIdle, from this core and ring
pub record StepIdle (c : Core) (r : Ring) (x : RingStep) : Type 0 where
  pub idle : Passive x.step.state
  pub parts : CoreStays c x.step.core
  pub same_own : x.ring.own ≡ r.own
  pub sends : OnlyAnswers x.step.sent
  pub tells : x.step.notice ≡ notice.NoNotice
  pub uncounted : x.step.event ≡ event.Nothing
