-- Determined, for the public calls of station_answer.
use Rattle.std.proofs.Common.{◌∙◌, sym}
use Rattle.theorem_determined.specs.Claim.{Determined, DeterminedLent}
use Rattle.theorem_determined.specs.Joins.{polled_same}
use Rattle.station_answer.proofs.poll_done.Reads as poll-done-reads
use Rattle.station_answer.proofs.refused.Reads as refused-reads

pub poll_done : DeterminedLent poll-done-reads.Post (λ k s. s.0.now)
poll_done κs a r₁ r₂ s₁ s₂ p q = polled_same (p ∙ sym q)

pub refused : Determined refused-reads.Post
refused κs a r₁ r₂ s₁ s₂ p q = (polled_same (p ∙ sym q)).0
