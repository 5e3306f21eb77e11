-- Determined, for the public call of bus_trace.
use Rattle.std.specs.Prelude.{◌≡◌}
use Rattle.std.proofs.Common.{◌∙◌, sym}
use Rattle.bus_trace.proofs.simulated_trace.Reads as simulated-trace-reads

-- `simulated_trace` returns a number and writes: both are fixed, the lent slice in every byte
pub simulated_trace :
    (κs : _) (a : _) (r₁ r₂ : _) (s₁ s₂ : _)
    → simulated-trace-reads.Post κs a r₁ s₁
    → simulated-trace-reads.Post κs a r₂ s₂
    → (r₁ ≡ r₂) × (s₁.1.1.0.now ≡ s₂.1.1.0.now)
simulated_trace κs a r₁ r₂ s₁ s₂ p q = (p.0 ∙ sym q.0, p.1 ∙ sym q.1)
