-- Determined, for the public calls of station_hold.
use Rattle.std.proofs.Common.{◌∙◌, sym}
use Rattle.theorem_determined.specs.Claim.{DeterminedLent}
use Rattle.theorem_determined.specs.Joins.{left_same}
use Rattle.station_hold.proofs.do_use_token.Reads as do-use-token-reads
use Rattle.station_hold.proofs.do_await_data_response.Reads as do-await-data-response-reads

pub do_use_token : DeterminedLent do-use-token-reads.Post (λ k s. s.0.now)
do_use_token κs a r₁ r₂ s₁ s₂ p q = left_same (p ∙ sym q)

pub do_await_data_response : DeterminedLent do-await-data-response-reads.Post (λ k s. s.0.now)
do_await_data_response κs a r₁ r₂ s₁ s₂ p q = left_same (p ∙ sym q)
