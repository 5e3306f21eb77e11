-- Determined, for the public calls of capture_lines.
use Rattle.std.proofs.Common.{◌∙◌, sym}
use Rattle.capture_lines.proofs.Laws.{line_same}
use Rattle.theorem_determined.specs.Claim.{Determined}
use Rattle.capture_lines.proofs.read_line.Reads as read-line-reads

pub read_line : Determined read-line-reads.Post
read_line κs a r₁ r₂ s₁ s₂ p q = line_same r₁ r₂ (p ∙ sym q)
