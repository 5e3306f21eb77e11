-- Determined, for the public call of trace_heard.
use Rattle.std.specs.Prelude.{◌≡◌}
use Rattle.std.proofs.Common.{◌∙◌, sym}
use Rattle.trace_heard.proofs.trace_heard.Reads as trace-heard-reads

-- `trace_heard` returns a number and writes: both are fixed, the lent slice in every byte
pub trace_heard :
    (κs : _) (a : _) (r₁ r₂ : _) (s₁ s₂ : _)
    → trace-heard-reads.Post κs a r₁ s₁
    → trace-heard-reads.Post κs a r₂ s₂
    → (r₁ ≡ r₂) × (s₁.1.1.0.now ≡ s₂.1.1.0.now)
trace_heard κs a r₁ r₂ s₁ s₂ p q = (p.0 ∙ sym q.0, p.1 ∙ sym q.1)
