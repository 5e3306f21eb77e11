-- Determined, for the public calls of heard, heard_telegrams and heard_shown.
use Rattle.std.specs.Prelude.{◌≡◌}
use Rattle.std.proofs.Common.{◌∙◌, sym}
use Rattle.theorem_determined.specs.Claim.{Determined}
use Rattle.theorem_determined.specs.Refused.{same_answer}
use Rattle.heard.proofs.check_address.Reads as check-address-reads
use Rattle.heard.proofs.AddressEntry.read.Reads as read-reads
use Rattle.heard.proofs.AddressEntry.write.Reads as write-reads
use Rattle.heard_telegrams.proofs.hear.Reads as hear-reads
use Rattle.heard_telegrams.proofs.hear_record.Reads as hear-record-reads
use Rattle.heard_shown.proofs.lookup.Reads as lookup-reads
use Rattle.heard_shown.proofs.summary.Reads as summary-reads

pub check_address : Determined check-address-reads.Post
check_address κs a r₁ r₂ s₁ s₂ p q = same_answer r₁ r₂ (p ∙ sym q)

pub read : Determined read-reads.Post
read κs a r₁ r₂ s₁ s₂ p q = p ∙ sym q

-- `write` returns nothing and writes: what it leaves in the lent slice is fixed, every byte
pub write :
    (κs : _) (a : _) (r₁ r₂ : _) (s₁ s₂ : _)
    → write-reads.Post κs a r₁ s₁
    → write-reads.Post κs a r₂ s₂
    → s₁.1.0.now ≡ s₂.1.0.now
write κs a r₁ r₂ s₁ s₂ p q = p ∙ sym q

-- `hear` returns nothing and writes: what it leaves in the lent table is fixed, every byte
pub hear : (κs : _) (a : _) (r₁ r₂ : _) (s₁ s₂ : _) → hear-reads.Post κs a r₁ s₁ → hear-reads.Post κs a r₂ s₂ → s₁.0.now ≡ s₂.0.now
hear κs a r₁ r₂ s₁ s₂ p q = p ∙ sym q

-- so does `hear_record`
pub hear_record :
    (κs : _) (a : _) (r₁ r₂ : _) (s₁ s₂ : _)
    → hear-record-reads.Post κs a r₁ s₁
    → hear-record-reads.Post κs a r₂ s₂
    → s₁.0.now ≡ s₂.0.now
hear_record κs a r₁ r₂ s₁ s₂ p q = p ∙ sym q

pub lookup : Determined lookup-reads.Post
lookup κs a r₁ r₂ s₁ s₂ p q = p ∙ sym q

-- `summary` answers and writes: both are fixed, the lent slice in every byte
pub summary :
    (κs : _) (a : _) (r₁ r₂ : _) (s₁ s₂ : _)
    → summary-reads.Post κs a r₁ s₁
    → summary-reads.Post κs a r₂ s₂
    → (r₁ ≡ r₂) × (s₁.1.1.0.now ≡ s₂.1.1.0.now)
summary κs a r₁ r₂ s₁ s₂ p q = (same_answer r₁ r₂ (p.0 ∙ sym q.0), p.1 ∙ sym q.1)
