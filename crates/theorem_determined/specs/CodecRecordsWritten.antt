-- Determined, for the public calls of codec_records_written.
use Rattle.std.specs.Prelude.{◌≡◌}
use Rattle.std.proofs.Common.{◌∙◌, sym}
use Rattle.codec_records_written.proofs.store_head.Reads as store-head-reads
use Rattle.codec_records_written.proofs.store_decision.Reads as store-decision-reads
use Rattle.codec_records_written.proofs.store_telegram.Reads as store-telegram-reads

-- these three return nothing and write: what they leave in the lent slice is fixed, every byte
pub store_head : (κs : _) (a : _) (r₁ r₂ : _) (s₁ s₂ : _) → store-head-reads.Post κs a r₁ s₁ → store-head-reads.Post κs a r₂ s₂ → s₁.0.now ≡ s₂.0.now
store_head κs a r₁ r₂ s₁ s₂ p q = p ∙ sym q

pub store_decision : (κs : _) (a : _) (r₁ r₂ : _) (s₁ s₂ : _) → store-decision-reads.Post κs a r₁ s₁ → store-decision-reads.Post κs a r₂ s₂ → s₁.0.now ≡ s₂.0.now
store_decision κs a r₁ r₂ s₁ s₂ p q = p ∙ sym q

pub store_telegram : (κs : _) (a : _) (r₁ r₂ : _) (s₁ s₂ : _) → store-telegram-reads.Post κs a r₁ s₁ → store-telegram-reads.Post κs a r₂ s₂ → s₁.0.now ≡ s₂.0.now
store_telegram κs a r₁ r₂ s₁ s₂ p q = p ∙ sym q
