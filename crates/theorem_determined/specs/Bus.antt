-- Determined, for the public call of bus.
use Rattle.std.specs.Prelude.{◌≡◌}
use Rattle.std.proofs.Common.{◌∙◌, sym}
use Rattle.bus.proofs.simulate.Reads as simulate-reads

-- `simulate` returns a number and writes: both are fixed, the lent slice in every byte
pub simulate :
    (κs : _) (a : _) (r₁ r₂ : _) (s₁ s₂ : _)
    → simulate-reads.Post κs a r₁ s₁
    → simulate-reads.Post κs a r₂ s₂
    → (r₁ ≡ r₂) × (s₁.1.0.now ≡ s₂.1.0.now)
simulate κs a r₁ r₂ s₁ s₂ p q = (p.0 ∙ sym q.0, p.1 ∙ sym q.1)
