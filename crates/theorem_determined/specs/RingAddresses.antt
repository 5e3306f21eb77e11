-- Determined, for the public calls of ring_addresses.
use Rattle.std.proofs.Common.{◌∙◌, sym}
use Rattle.theorem_determined.specs.Claim.{Determined}
use Rattle.ring_addresses.proofs.between.Reads as between-reads

pub between : Determined between-reads.Post
between κs a r₁ r₂ s₁ s₂ p q = p ∙ sym q
