-- Determined, for the public calls of bus_setup.
use Rattle.std.specs.Prelude.{ℕ, ◌≡◌}
use Rattle.std.proofs.Common.{◌∙◌, sym, ap}
use Rattle.theorem_determined.specs.Claim.{Determined}
use Rattle.theorem_determined.specs.Refused.{same_answer}
use Rattle.bus_setup.proofs.Head.read.Reads as read-reads
use Rattle.bus_setup.proofs.check.Reads as check-reads
use Rattle.bus_setup.proofs.stations.Reads as stations-reads
use Rattle.bus_setup.proofs.tick.Reads as tick-reads
use Rattle.bus_setup.proofs.ticks.Reads as ticks-reads
use Rattle.bus_setup.proofs.placed.Reads as placed-reads
use Rattle.bus_setup.proofs.setup_refusal.Reads as setup-refusal-reads
use Rattle.bus_setup.proofs.write_header.Reads as write-header-reads

pub read : Determined read-reads.Post
read κs a r₁ r₂ s₁ s₂ p q =
    ap (λ (n : ℕ). record { stations = n; tick = r₁.tick; ticks = r₁.ticks }) (p.0 ∙ sym q.0)
    ∙ ap (λ (n : ℕ). record { stations = r₂.stations; tick = n; ticks = r₁.ticks }) (p.1.0 ∙ sym q.1.0)
    ∙ ap (λ (n : ℕ). record { stations = r₂.stations; tick = r₂.tick; ticks = n }) (p.1.1 ∙ sym q.1.1)

pub check : Determined check-reads.Post
check κs a r₁ r₂ s₁ s₂ p q = same_answer r₁ r₂ (p ∙ sym q)

pub stations : Determined stations-reads.Post
stations κs a r₁ r₂ s₁ s₂ p q = p ∙ sym q

pub tick : Determined tick-reads.Post
tick κs a r₁ r₂ s₁ s₂ p q = p ∙ sym q

pub ticks : Determined ticks-reads.Post
ticks κs a r₁ r₂ s₁ s₂ p q = p ∙ sym q

pub placed : Determined placed-reads.Post
placed κs a r₁ r₂ s₁ s₂ p q = p ∙ sym q

pub setup_refusal : Determined setup-refusal-reads.Post
setup_refusal κs a r₁ r₂ s₁ s₂ p q = p ∙ sym q

-- `write_header` returns nothing and writes: what it leaves in the lent array is fixed, every byte
pub write_header :
    (κs : _) (a : _) (r₁ r₂ : _) (s₁ s₂ : _)
    → write-header-reads.Post κs a r₁ s₁
    → write-header-reads.Post κs a r₂ s₂
    → s₁.1.1.0.now ≡ s₂.1.1.0.now
write_header κs a r₁ r₂ s₁ s₂ p q = p ∙ sym q
