-- Determined, for the public calls of station_listen.
use Rattle.std.proofs.Common.{◌∙◌, sym}
use Rattle.theorem_determined.specs.Claim.{DeterminedLent}
use Rattle.theorem_determined.specs.Joins.{left_same}
use Rattle.station_listen.proofs.respond.Reads as respond-reads
use Rattle.station_listen.proofs.receive_all_telegrams.Reads as receive-all-telegrams-reads
use Rattle.station_listen.proofs.received.Reads as received-reads
use Rattle.station_listen.proofs.do_listen_token.Reads as do-listen-token-reads
use Rattle.station_listen.proofs.do_active_idle.Reads as do-active-idle-reads

pub respond : DeterminedLent respond-reads.Post (λ k s. s.0.now)
respond κs a r₁ r₂ s₁ s₂ p q = left_same (p ∙ sym q)

pub receive_all_telegrams : DeterminedLent receive-all-telegrams-reads.Post (λ k s. s.0.now)
receive_all_telegrams κs a r₁ r₂ s₁ s₂ p q = left_same (p ∙ sym q)

pub received : DeterminedLent received-reads.Post (λ k s. s.0.now)
received κs a r₁ r₂ s₁ s₂ p q = left_same (p ∙ sym q)

pub do_listen_token : DeterminedLent do-listen-token-reads.Post (λ k s. s.0.now)
do_listen_token κs a r₁ r₂ s₁ s₂ p q = left_same (p ∙ sym q)

pub do_active_idle : DeterminedLent do-active-idle-reads.Post (λ k s. s.0.now)
do_active_idle κs a r₁ r₂ s₁ s₂ p q = left_same (p ∙ sym q)
