-- Determined, for the public calls of bus_wire.
use Rattle.std.proofs.Common.{◌∙◌, sym}
use Rattle.theorem_determined.specs.Claim.{Determined}
use Rattle.bus_wire.proofs.sent_telegram.Reads as sent-telegram-reads
use Rattle.bus_wire.proofs.bytes_time.Reads as bytes-time-reads
use Rattle.bus_wire.proofs.later.Reads as later-reads
use Rattle.bus_wire.proofs.send.Reads as send-reads
use Rattle.bus_wire.proofs.arrives.Reads as arrives-reads
use Rattle.bus_wire.proofs.joined.Reads as joined-reads
use Rattle.bus_wire.proofs.without.Reads as without-reads

pub sent_telegram : Determined sent-telegram-reads.Post
sent_telegram κs a r₁ r₂ s₁ s₂ p q = p ∙ sym q

pub bytes_time : Determined bytes-time-reads.Post
bytes_time κs a r₁ r₂ s₁ s₂ p q = p ∙ sym q

pub later : Determined later-reads.Post
later κs a r₁ r₂ s₁ s₂ p q = p ∙ sym q

pub send : Determined send-reads.Post
send κs a r₁ r₂ s₁ s₂ p q = p ∙ sym q

pub arrives : Determined arrives-reads.Post
arrives κs a r₁ r₂ s₁ s₂ p q = p ∙ sym q

pub joined : Determined joined-reads.Post
joined κs a r₁ r₂ s₁ s₂ p q = p ∙ sym q

pub without : Determined without-reads.Post
without κs a r₁ r₂ s₁ s₂ p q = p ∙ sym q
