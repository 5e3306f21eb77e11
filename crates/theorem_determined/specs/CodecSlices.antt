-- Determined, for the public calls of codec_slices.
use Rattle.std.specs.Prelude.{◌≡◌}
use Rattle.std.proofs.Common.{◌∙◌, sym}
use Rattle.theorem_determined.specs.Claim.{Determined}
use Rattle.codec_slices.proofs.number_at.Reads as number-at-reads
use Rattle.codec_slices.proofs.field_at.Reads as field-at-reads
use Rattle.codec_slices.proofs.put_at.Reads as put-at-reads

pub number_at : Determined number-at-reads.Post
number_at κs a r₁ r₂ s₁ s₂ p q = p ∙ sym q

-- and of `field_at` at each type that a field may hold
pub field_at :
    (T : _) (L : _) (C : _) (F : _) (d : _) (G : _) (e : _) (κs : _) (a : _) (r₁ r₂ : _) (s₁ s₂ : _)
    → field-at-reads.Post T L C F d G e κs a r₁ s₁
    → field-at-reads.Post T L C F d G e κs a r₂ s₂
    → r₁ ≡ r₂
field_at T L C F d G e κs a r₁ r₂ s₁ s₂ p q = p ∙ sym q

-- `put_at` returns nothing and writes: what it leaves in the lent slice is fixed, every byte, at each type that a field may hold
pub put_at_lem :
    (T : _) (L : _) (C : _) (F : _) (d : _) (G : _) (e : _) (κs : _) (a : _) (r₁ r₂ : _) (s₁ s₂ : _)
    → put-at-reads.Post T L C F d G e κs a r₁ s₁
    → put-at-reads.Post T L C F d G e κs a r₂ s₂
    → s₁.0.now ≡ s₂.0.now
put_at_lem T L C F d G e κs a r₁ r₂ s₁ s₂ p q = p ∙ sym q
