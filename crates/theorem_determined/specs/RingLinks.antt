-- Determined, for the public calls of ring_links.
use Rattle.std.specs.Prelude.{◌≡◌}
use Rattle.std.proofs.Common.{◌∙◌, sym}
use Rattle.theorem_determined.specs.Claim.{Determined}
use Rattle.ring_links.proofs.RingLinks.new.Reads as new-reads
use Rattle.ring_links.proofs.RingLinks.from_tables.Reads as from-tables-reads
use Rattle.ring_links.proofs.RingLinks.after.Reads as after-reads
use Rattle.ring_links.proofs.RingLinks.members_after.Reads as members-after-reads
use Rattle.ring_links.proofs.RingLinks.before.Reads as before-reads
use Rattle.ring_links.proofs.RingLinks.contains.Reads as contains-reads
use Rattle.ring_links.proofs.RingLinks.link.Reads as link-reads
use Rattle.ring_links.proofs.RingLinks.unlink.Reads as unlink-reads
use Rattle.ring_links.proofs.RingLinks.insert.Reads as insert-reads
use Rattle.ring_links.proofs.RingLinks.relink.Reads as relink-reads
use Rattle.ring_links.proofs.RingLinks.confirms.Reads as confirms-reads

pub new : Determined new-reads.Post
new κs a r₁ r₂ s₁ s₂ p q = p ∙ sym q

pub from_tables : Determined from-tables-reads.Post
from_tables κs a r₁ r₂ s₁ s₂ p q = p ∙ sym q

pub after : Determined after-reads.Post
after κs a r₁ r₂ s₁ s₂ p q = p ∙ sym q

-- what is lent out is fixed, each entry
pub members_after :
    (κs : _) (a : _) (r₁ r₂ : _) (s₁ s₂ : _)
    → members-after-reads.Post κs a r₁ s₁
    → members-after-reads.Post κs a r₂ s₂
    → r₁.now ≡ r₂.now
members_after κs a r₁ r₂ s₁ s₂ p q = p ∙ sym q

pub before : Determined before-reads.Post
before κs a r₁ r₂ s₁ s₂ p q = p ∙ sym q

pub contains : Determined contains-reads.Post
contains κs a r₁ r₂ s₁ s₂ p q = p ∙ sym q

pub confirms : Determined confirms-reads.Post
confirms κs a r₁ r₂ s₁ s₂ p q = p ∙ sym q

-- these four return nothing and write: what they leave in the links is fixed, every entry
pub link :
    (κs : _) (a : _) (r₁ r₂ : _) (s₁ s₂ : _)
    → link-reads.Post κs a r₁ s₁
    → link-reads.Post κs a r₂ s₂
    → s₁.0.now ≡ s₂.0.now
link κs a r₁ r₂ s₁ s₂ p q = p ∙ sym q

pub unlink :
    (κs : _) (a : _) (r₁ r₂ : _) (s₁ s₂ : _)
    → unlink-reads.Post κs a r₁ s₁
    → unlink-reads.Post κs a r₂ s₂
    → s₁.0.now ≡ s₂.0.now
unlink κs a r₁ r₂ s₁ s₂ p q = p ∙ sym q

pub insert :
    (κs : _) (a : _) (r₁ r₂ : _) (s₁ s₂ : _)
    → insert-reads.Post κs a r₁ s₁
    → insert-reads.Post κs a r₂ s₂
    → s₁.0.now ≡ s₂.0.now
insert κs a r₁ r₂ s₁ s₂ p q = p ∙ sym q

pub relink :
    (κs : _) (a : _) (r₁ r₂ : _) (s₁ s₂ : _)
    → relink-reads.Post κs a r₁ s₁
    → relink-reads.Post κs a r₂ s₂
    → s₁.0.now ≡ s₂.0.now
relink κs a r₁ r₂ s₁ s₂ p q = p ∙ sym q
