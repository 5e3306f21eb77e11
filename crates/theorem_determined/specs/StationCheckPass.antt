-- Determined, for the public call of station_check_pass.
use Rattle.std.proofs.Common.{◌∙◌, sym}
use Rattle.theorem_determined.specs.Claim.{DeterminedLent}
use Rattle.theorem_determined.specs.Joins.{left_same}
use Rattle.station_check_pass.proofs.do_check_token_pass.Reads as do-check-token-pass-reads

pub do_check_token_pass : DeterminedLent do-check-token-pass-reads.Post (λ k s. s.0.now)
do_check_token_pass κs a r₁ r₂ s₁ s₂ p q = left_same (p ∙ sym q)
