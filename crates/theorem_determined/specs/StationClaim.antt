-- Determined, for the public call of station_claim.
use Rattle.std.proofs.Common.{◌∙◌, sym}
use Rattle.theorem_determined.specs.Claim.{DeterminedLent}
use Rattle.theorem_determined.specs.Joins.{left_same}
use Rattle.station_claim.proofs.do_claim_token.Reads as do-claim-token-reads

pub do_claim_token : DeterminedLent do-claim-token-reads.Post (λ k s. s.0.now)
do_claim_token κs a r₁ r₂ s₁ s₂ p q = left_same (p ∙ sym q)
