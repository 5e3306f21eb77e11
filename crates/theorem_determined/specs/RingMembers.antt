-- Determined, for the public calls of ring_members: what is asked has one answer, and the ring and the bytes that the others leave
-- are one.
use Rattle.std.specs.Prelude.{◌≡◌}
use Rattle.std.proofs.Common.{◌∙◌, sym}
use Rattle.theorem_determined.specs.Claim.{Determined}
use Rattle.ring_members.proofs.in_set.Reads as in-set-reads
use Rattle.ring_members.proofs.add_members.Reads as add-members-reads
use Rattle.ring_members.proofs.link_members.Reads as link-members-reads
use Rattle.ring_members.proofs.write_members.Reads as write-members-reads

pub in_set : Determined in-set-reads.Post
in_set κs a r₁ r₂ s₁ s₂ p q = p ∙ sym q

pub add_members :
    (κs : _) (a : _) (r₁ r₂ : _) (s₁ s₂ : _)
    → add-members-reads.Post κs a r₁ s₁
    → add-members-reads.Post κs a r₂ s₂
    → s₁.0.now ≡ s₂.0.now
add_members κs a r₁ r₂ s₁ s₂ p q = p ∙ sym q

pub link_members : Determined link-members-reads.Post
link_members κs a r₁ r₂ s₁ s₂ p q = p ∙ sym q

pub write_members :
    (κs : _) (a : _) (r₁ r₂ : _) (s₁ s₂ : _)
    → write-members-reads.Post κs a r₁ s₁
    → write-members-reads.Post κs a r₂ s₂
    → s₁.1.0.now ≡ s₂.1.0.now
write_members κs a r₁ r₂ s₁ s₂ p q = p ∙ sym q
