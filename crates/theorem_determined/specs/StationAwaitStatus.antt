-- Determined, for the public call of station_await_status.
use Rattle.std.proofs.Common.{◌∙◌, sym}
use Rattle.theorem_determined.specs.Claim.{DeterminedLent}
use Rattle.theorem_determined.specs.Joins.{left_same}
use Rattle.station_await_status.proofs.do_await_status_response.Reads as do-await-status-response-reads

pub do_await_status_response : DeterminedLent do-await-status-response-reads.Post (λ k s. s.0.now)
do_await_status_response κs a r₁ r₂ s₁ s₂ p q = left_same (p ∙ sym q)
