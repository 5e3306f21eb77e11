-- Determined, for the public calls of station_bytes.
use Rattle.std.specs.Prelude.{◌≡◌}
use Rattle.std.proofs.Common.{◌∙◌, sym}
use Rattle.theorem_determined.specs.Claim.{Determined}
use Rattle.station_bytes.proofs.read_station.Reads as read-station-reads
use Rattle.station_bytes.proofs.read_counts.Reads as read-counts-reads
use Rattle.station_bytes.proofs.make_ring.Reads as make-ring-reads
use Rattle.station_bytes.proofs.write_station.Reads as write-station-reads

pub read_station : Determined read-station-reads.Post
read_station κs a r₁ r₂ s₁ s₂ p q = p ∙ sym q

pub read_counts : Determined read-counts-reads.Post
read_counts κs a r₁ r₂ s₁ s₂ p q = p ∙ sym q

pub make_ring : Determined make-ring-reads.Post
make_ring κs a r₁ r₂ s₁ s₂ p q = p ∙ sym q

-- `write_station` returns nothing and writes: what it leaves in the lent slice is fixed, every byte
pub write_station :
    (κs : _) (a : _) (r₁ r₂ : _) (s₁ s₂ : _)
    → write-station-reads.Post κs a r₁ s₁
    → write-station-reads.Post κs a r₂ s₂
    → s₁.1.0.now ≡ s₂.1.0.now
write_station κs a r₁ r₂ s₁ s₂ p q = p ∙ sym q
