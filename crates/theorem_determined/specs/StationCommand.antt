-- Determined, for the public calls of station_command.
use Rattle.std.proofs.Common.{◌∙◌, sym}
use Rattle.theorem_determined.specs.Claim.{DeterminedLent}
use Rattle.theorem_determined.specs.Joins.{polled_same}
use Rattle.station_command.proofs.set_online.Reads as set-online-reads
use Rattle.station_command.proofs.set_offline.Reads as set-offline-reads
use Rattle.station_command.proofs.set_passive.Reads as set-passive-reads

pub set_online : DeterminedLent set-online-reads.Post (λ k s. s.0.now)
set_online κs a r₁ r₂ s₁ s₂ p q = polled_same (p ∙ sym q)

pub set_offline : DeterminedLent set-offline-reads.Post (λ k s. s.0.now)
set_offline κs a r₁ r₂ s₁ s₂ p q = polled_same (p ∙ sym q)

pub set_passive : DeterminedLent set-passive-reads.Post (λ k s. s.0.now)
set_passive κs a r₁ r₂ s₁ s₂ p q = polled_same (p ∙ sym q)
