-- Determined, for the public calls of station_lines.
use Rattle.std.proofs.Common.{◌∙◌, sym}
use Rattle.theorem_determined.specs.Claim.{Determined}
use Rattle.station_lines.proofs.sound_line.Reads as sound-line-reads

pub sound_line : Determined sound-line-reads.Post
sound_line κs a r₁ r₂ s₁ s₂ p q = p ∙ sym q
