-- Determined, for the public call of trace_editions.
use Rattle.std.specs.Prelude.{◌≡◌}
use Rattle.std.proofs.Common.{◌∙◌, sym}
use Rattle.theorem_determined.specs.Refused.{same_value}
use Rattle.trace_editions.proofs.other_edition.Reads as other-edition-reads

-- `other_edition` answers and writes: both are fixed, the lent slice in every byte
pub other_edition :
    (κs : _) (a : _) (r₁ r₂ : _) (s₁ s₂ : _)
    → other-edition-reads.Post κs a r₁ s₁
    → other-edition-reads.Post κs a r₂ s₂
    → (r₁ ≡ r₂) × (s₁.1.0.now ≡ s₂.1.0.now)
other_edition κs a r₁ r₂ s₁ s₂ p q = (same_value _ r₁ r₂ (p.0 ∙ sym q.0) p.1.0 q.1.0, p.1.1.1 ∙ sym q.1.1.1)
