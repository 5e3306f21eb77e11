-- Determined, for the public calls of capture_text.
use Rattle.std.specs.Prelude.{◌≡◌}
use Rattle.std.proofs.Common.{◌∙◌, sym}
use Rattle.codec_frames.specs.Laws.{numbered_same}
use Rattle.capture_text.proofs.write_line.Reads as write-line-reads

-- `write_line` returns what it wrote and writes: both are fixed, the lent slice in every byte
pub write_line :
    (κs : _) (a : _) (r₁ r₂ : _) (s₁ s₂ : _)
    → write-line-reads.Post κs a r₁ s₁
    → write-line-reads.Post κs a r₂ s₂
    → (r₁ ≡ r₂) × (s₁.0.now ≡ s₂.0.now)
write_line κs a r₁ r₂ s₁ s₂ p q = (numbered_same r₁ r₂ (p.0 ∙ sym q.0), p.1 ∙ sym q.1)
