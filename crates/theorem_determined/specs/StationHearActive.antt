-- Determined, for the public call of station_hear_active.
use Rattle.std.proofs.Common.{◌∙◌, sym}
use Rattle.theorem_determined.specs.Claim.{DeterminedLent}
use Rattle.theorem_determined.specs.Joins.{left_same}
use Rattle.station_hear_active.proofs.handle_telegram.Reads as handle-telegram-reads

pub handle_telegram : DeterminedLent handle-telegram-reads.Post (λ k s. s.0.now)
handle_telegram κs a r₁ r₂ s₁ s₂ p q = left_same (p ∙ sym q)
