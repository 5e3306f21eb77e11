-- Determined, for the public call of station_passive.
use Rattle.std.proofs.Common.{◌∙◌, sym}
use Rattle.theorem_determined.specs.Claim.{DeterminedLent}
use Rattle.theorem_determined.specs.Joins.{left_same}
use Rattle.station_passive.proofs.do_passive_idle.Reads as do-passive-idle-reads

pub do_passive_idle : DeterminedLent do-passive-idle-reads.Post (λ k s. s.0.now)
do_passive_idle κs a r₁ r₂ s₁ s₂ p q = left_same (p ∙ sym q)
