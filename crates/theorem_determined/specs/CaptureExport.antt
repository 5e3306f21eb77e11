-- Determined, for the public calls of capture_export.
use Rattle.std.specs.Prelude.{◌≡◌}
use Rattle.std.proofs.Common.{◌∙◌, sym}
use Rattle.capture_export.specs.Laws.{export_same}
use Rattle.capture_export.proofs.export_capture.Reads as export-capture-reads

-- `export_capture` returns what it came to and writes: both are fixed, the lent slice in every byte
pub export_capture :
    (κs : _) (a : _) (r₁ r₂ : _) (s₁ s₂ : _)
    → export-capture-reads.Post κs a r₁ s₁
    → export-capture-reads.Post κs a r₂ s₂
    → (r₁ ≡ r₂) × (s₁.1.0.now ≡ s₂.1.0.now)
export_capture κs a r₁ r₂ s₁ s₂ p q = (export_same r₁ r₂ (p.0 ∙ sym q.0), p.1 ∙ sym q.1)
