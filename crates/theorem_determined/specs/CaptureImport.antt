-- Determined, for the public calls of capture_import.
use Rattle.std.specs.Prelude.{◌≡◌}
use Rattle.std.proofs.Common.{◌∙◌, sym}
use Rattle.capture_import.proofs.Laws.{import_same}
use Rattle.capture_import.proofs.import_capture.Reads as import-capture-reads

-- `import_capture` returns what it came to and writes: both are fixed, the lent slice in every byte
pub import_capture :
    (κs : _) (a : _) (r₁ r₂ : _) (s₁ s₂ : _)
    → import-capture-reads.Post κs a r₁ s₁
    → import-capture-reads.Post κs a r₂ s₂
    → (r₁ ≡ r₂) × (s₁.1.0.now ≡ s₂.1.0.now)
import_capture κs a r₁ r₂ s₁ s₂ p q = (import_same r₁ r₂ (p.0 ∙ sym q.0), p.1 ∙ sym q.1)
