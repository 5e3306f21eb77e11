-- Determined, for the public calls of trace_counts.
use Rattle.std.specs.Prelude.{◌≡◌}
use Rattle.std.proofs.Common.{◌∙◌, sym}
use Rattle.trace_counts.proofs.trace_counts.Reads as trace-counts-reads
use Rattle.trace_counts.proofs.write_counts.Reads as write-counts-reads

-- `trace_counts` returns a number and writes: both are fixed, the lent slice in every byte
pub trace_counts :
    (κs : _) (a : _) (r₁ r₂ : _) (s₁ s₂ : _)
    → trace-counts-reads.Post κs a r₁ s₁
    → trace-counts-reads.Post κs a r₂ s₂
    → (r₁ ≡ r₂) × (s₁.1.0.now ≡ s₂.1.0.now)
trace_counts κs a r₁ r₂ s₁ s₂ p q = (p.0 ∙ sym q.0, p.1 ∙ sym q.1)

-- `write_counts` returns nothing and writes: what it leaves in the lent slice is fixed, every byte
pub write_counts :
    (κs : _) (a : _) (r₁ r₂ : _) (s₁ s₂ : _)
    → write-counts-reads.Post κs a r₁ s₁
    → write-counts-reads.Post κs a r₂ s₂
    → s₁.0.now ≡ s₂.0.now
write_counts κs a r₁ r₂ s₁ s₂ p q = p ∙ sym q
