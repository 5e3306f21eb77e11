-- Determined, for the public call of station_hear_listen.
use Rattle.std.proofs.Common.{◌∙◌, sym}
use Rattle.theorem_determined.specs.Claim.{DeterminedLent}
use Rattle.theorem_determined.specs.Joins.{left_same}
use Rattle.station_hear_listen.proofs.do_listen_token_telegram.Reads as do-listen-token-telegram-reads

pub do_listen_token_telegram : DeterminedLent do-listen-token-telegram-reads.Post (λ k s. s.0.now)
do_listen_token_telegram κs a r₁ r₂ s₁ s₂ p q = left_same (p ∙ sym q)
