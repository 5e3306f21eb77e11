-- What it is for a step to send, and to tell a timeout, only where something holds. The laws, step by step, are in proofs/Guarded.
use Rattle.std.specs.Prelude.{◌≡◌}
use Rattle.codec_answers.specs.declared.Sent.TheVariants as sent
use Rattle.station.specs.Whole.{Step}
use Rattle.theorem_sound.specs.Waits.{TellsTimeout}

-- a step sends only where Q holds
pub record Guarded (Q : Type 0) (s : Step) : Type 0 where
  pub guard : (s.sent ≡ sent.Nothing → ⊥) → Q

-- a step tells a timeout only where Q holds
pub record Told (Q : Type 0) (s : Step) : Type 0 where
  pub told : TellsTimeout s.notice → Q
