-- Determined, for the public call of refusals.
use Rattle.std.proofs.Common.{◌∙◌, sym}
use Rattle.theorem_determined.specs.Claim.{Determined}
use Rattle.refusals.proofs.refusal.Refusal.number.Reads as number-reads

pub number : Determined number-reads.Post
number κs a r₁ r₂ s₁ s₂ p q = p ∙ sym q
