-- Determined, for the public calls of settings_in_place: the answer that each gives, and the record that it leaves.
use Rattle.std.proofs.Common.{◌∙◌, sym}
use Rattle.theorem_determined.specs.Claim.{DeterminedLent}
use Rattle.theorem_determined.specs.Refused.{same_answer}
use Rattle.settings_in_place.proofs.set_slot_bits.Reads as set-slot-bits-reads
use Rattle.settings_in_place.proofs.set_highest_station_address.Reads as set-highest-station-address-reads
use Rattle.settings_in_place.proofs.set_token_rotation_bits.Reads as set-token-rotation-bits-reads

pub set_slot_bits : DeterminedLent set-slot-bits-reads.Post (λ k s. s.0.now)
set_slot_bits κs a r₁ r₂ s₁ s₂ p q = (same_answer r₁ r₂ (p.0 ∙ sym q.0), p.1 ∙ sym q.1)

pub set_highest_station_address : DeterminedLent set-highest-station-address-reads.Post (λ k s. s.0.now)
set_highest_station_address κs a r₁ r₂ s₁ s₂ p q = (same_answer r₁ r₂ (p.0 ∙ sym q.0), p.1 ∙ sym q.1)

pub set_token_rotation_bits : DeterminedLent set-token-rotation-bits-reads.Post (λ k s. s.0.now)
set_token_rotation_bits κs a r₁ r₂ s₁ s₂ p q = (same_answer r₁ r₂ (p.0 ∙ sym q.0), p.1 ∙ sym q.1)
