-- Determined, for the public calls of ring.
use Rattle.std.specs.Prelude.{◌≡◌}
use Rattle.std.proofs.Common.{◌∙◌, sym}
use Rattle.theorem_determined.specs.Claim.{Determined}
use Rattle.ring.proofs.next_station_number.Reads as next-station-number-reads
use Rattle.ring.proofs.token_ring.TokenRing.new.Reads as new-reads
use Rattle.ring.proofs.token_ring.TokenRing.alone.Reads as alone-reads
use Rattle.ring.proofs.token_ring.TokenRing.from_links.Reads as from-links-reads
use Rattle.ring.proofs.token_ring.TokenRing.links.Reads as links-reads
use Rattle.ring.proofs.token_ring.TokenRing.own.Reads as own-reads
use Rattle.ring.proofs.token_ring.TokenRing.laps.Reads as laps-reads
use Rattle.ring.proofs.token_ring.TokenRing.next_station.Reads as next-station-reads
use Rattle.ring.proofs.token_ring.TokenRing.previous_station.Reads as previous-station-reads
use Rattle.ring.proofs.token_ring.TokenRing.contains.Reads as contains-reads
use Rattle.ring.proofs.token_ring.TokenRing.ready_for_ring.Reads as ready-for-ring-reads
use Rattle.ring.proofs.token_ring.TokenRing.claim_token.Reads as claim-token-reads
use Rattle.ring.proofs.token_ring.TokenRing.set_next_station.Reads as set-next-station-reads
use Rattle.ring.proofs.token_ring.TokenRing.remove_station.Reads as remove-station-reads
use Rattle.ring.proofs.token_ring.TokenRing.witness_token_pass.Reads as witness-token-pass-reads
use Rattle.ring.proofs.token_ring.TokenRing.next_gap_poll.Reads as next-gap-poll-reads

pub next_station_number : Determined next-station-number-reads.Post
next_station_number κs a r₁ r₂ s₁ s₂ p q = p ∙ sym q

pub new : Determined new-reads.Post
new κs a r₁ r₂ s₁ s₂ p q = p ∙ sym q

pub alone : Determined alone-reads.Post
alone κs a r₁ r₂ s₁ s₂ p q = p ∙ sym q

pub from_links : Determined from-links-reads.Post
from_links κs a r₁ r₂ s₁ s₂ p q = p ∙ sym q

-- what is lent out is fixed, each entry
pub links :
    (κs : _) (a : _) (r₁ r₂ : _) (s₁ s₂ : _)
    → links-reads.Post κs a r₁ s₁
    → links-reads.Post κs a r₂ s₂
    → r₁.now ≡ r₂.now
links κs a r₁ r₂ s₁ s₂ p q = p ∙ sym q

pub own : Determined own-reads.Post
own κs a r₁ r₂ s₁ s₂ p q = p ∙ sym q

pub laps : Determined laps-reads.Post
laps κs a r₁ r₂ s₁ s₂ p q = p ∙ sym q

pub next_station : Determined next-station-reads.Post
next_station κs a r₁ r₂ s₁ s₂ p q = p ∙ sym q

pub previous_station : Determined previous-station-reads.Post
previous_station κs a r₁ r₂ s₁ s₂ p q = p ∙ sym q

pub contains : Determined contains-reads.Post
contains κs a r₁ r₂ s₁ s₂ p q = p ∙ sym q

pub ready_for_ring : Determined ready-for-ring-reads.Post
ready_for_ring κs a r₁ r₂ s₁ s₂ p q = p ∙ sym q

pub next_gap_poll : Determined next-gap-poll-reads.Post
next_gap_poll κs a r₁ r₂ s₁ s₂ p q = p ∙ sym q

-- these four return nothing and write: the ring that they leave is fixed
pub claim_token :
    (κs : _) (a : _) (r₁ r₂ : _) (s₁ s₂ : _)
    → claim-token-reads.Post κs a r₁ s₁
    → claim-token-reads.Post κs a r₂ s₂
    → s₁.0.now ≡ s₂.0.now
claim_token κs a r₁ r₂ s₁ s₂ p q = p ∙ sym q

pub set_next_station :
    (κs : _) (a : _) (r₁ r₂ : _) (s₁ s₂ : _)
    → set-next-station-reads.Post κs a r₁ s₁
    → set-next-station-reads.Post κs a r₂ s₂
    → s₁.0.now ≡ s₂.0.now
set_next_station κs a r₁ r₂ s₁ s₂ p q = p ∙ sym q

pub remove_station :
    (κs : _) (a : _) (r₁ r₂ : _) (s₁ s₂ : _)
    → remove-station-reads.Post κs a r₁ s₁
    → remove-station-reads.Post κs a r₂ s₂
    → s₁.0.now ≡ s₂.0.now
remove_station κs a r₁ r₂ s₁ s₂ p q = p ∙ sym q

pub witness_token_pass :
    (κs : _) (a : _) (r₁ r₂ : _) (s₁ s₂ : _)
    → witness-token-pass-reads.Post κs a r₁ s₁
    → witness-token-pass-reads.Post κs a r₂ s₂
    → s₁.0.now ≡ s₂.0.now
witness_token_pass κs a r₁ r₂ s₁ s₂ p q = p ∙ sym q
