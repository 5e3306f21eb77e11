-- Determined, for the public calls of station_pass.
use Rattle.std.proofs.Common.{◌∙◌, sym}
use Rattle.theorem_determined.specs.Claim.{Determined, DeterminedLent}
use Rattle.theorem_determined.specs.Joins.{left_same}
use Rattle.station_pass.proofs.token_destination.Reads as token-destination-reads
use Rattle.station_pass.proofs.do_pass_token.Reads as do-pass-token-reads

pub token_destination : Determined token-destination-reads.Post
token_destination κs a r₁ r₂ s₁ s₂ p q = p ∙ sym q

pub do_pass_token : DeterminedLent do-pass-token-reads.Post (λ k s. s.0.now)
do_pass_token κs a r₁ r₂ s₁ s₂ p q = left_same (p ∙ sym q)
