-- Determined, for the public call of trace_headers_written.
use Rattle.std.specs.Prelude.{◌≡◌}
use Rattle.std.proofs.Common.{◌∙◌, sym}
use Rattle.trace_headers_written.proofs.write_header.Reads as write-header-reads

-- `write_header` returns nothing and writes: what it leaves in the lent slice is fixed, every byte
pub write_header : (κs : _) (a : _) (r₁ r₂ : _) (s₁ s₂ : _) → write-header-reads.Post κs a r₁ s₁ → write-header-reads.Post κs a r₂ s₂ → s₁.0.now ≡ s₂.0.now
write_header κs a r₁ r₂ s₁ s₂ p q = p ∙ sym q
