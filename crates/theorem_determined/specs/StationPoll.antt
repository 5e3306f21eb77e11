-- Determined, for the public call of station_poll.
use Rattle.std.proofs.Common.{◌∙◌, sym}
use Rattle.theorem_determined.specs.Claim.{DeterminedLent}
use Rattle.theorem_determined.specs.Joins.{polled_same}
use Rattle.station_poll.proofs.poll.Reads as poll-reads

pub poll : DeterminedLent poll-reads.Post (λ k s. s.0.now)
poll κs a r₁ r₂ s₁ s₂ p q = polled_same (p ∙ sym q)
