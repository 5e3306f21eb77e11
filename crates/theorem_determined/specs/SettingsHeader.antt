-- Determined, for the public calls of settings_header: the answer that each gives, and the lent bytes.
use Rattle.std.specs.Prelude.{◌≡◌}
use Rattle.std.proofs.Common.{◌∙◌, sym}
use Rattle.theorem_determined.specs.Claim.{Determined}
use Rattle.theorem_determined.specs.Refused.{same_answer}
use Rattle.settings_header.proofs.finish_settings.Reads as finish-settings-reads
use Rattle.settings_header.proofs.new_settings.Reads as new-settings-reads
use Rattle.settings_header.proofs.set_slot_bits.Reads as set-slot-bits-reads
use Rattle.settings_header.proofs.set_highest_station_address.Reads as set-highest-station-address-reads
use Rattle.settings_header.proofs.set_token_rotation_bits.Reads as set-token-rotation-bits-reads
use Rattle.settings_header.proofs.set_gap_wait_rotations.Reads as set-gap-wait-rotations-reads
use Rattle.settings_header.proofs.set_max_retry_limit.Reads as set-max-retry-limit-reads
use Rattle.settings_header.proofs.set_min_tsdr_bits.Reads as set-min-tsdr-bits-reads
use Rattle.settings_header.proofs.set_watchdog_timeout.Reads as set-watchdog-timeout-reads

pub finish_settings : Determined finish-settings-reads.Post
finish_settings κs a r₁ r₂ s₁ s₂ p q = same_answer r₁ r₂ (p ∙ sym q)

-- `new_settings` answers and writes: both are fixed, the lent slice in every byte
pub new_settings :
    (κs : _) (a : _) (r₁ r₂ : _) (s₁ s₂ : _)
    → new-settings-reads.Post κs a r₁ s₁
    → new-settings-reads.Post κs a r₂ s₂
    → (r₁ ≡ r₂) × (s₁.1.1.1.0.now ≡ s₂.1.1.1.0.now)
new_settings κs a r₁ r₂ s₁ s₂ p q = (same_answer r₁ r₂ (p.0 ∙ sym q.0), p.1 ∙ sym q.1)

-- so does each setter
pub set_slot_bits :
    (κs : _) (a : _) (r₁ r₂ : _) (s₁ s₂ : _)
    → set-slot-bits-reads.Post κs a r₁ s₁
    → set-slot-bits-reads.Post κs a r₂ s₂
    → (r₁ ≡ r₂) × (s₁.0.now ≡ s₂.0.now)
set_slot_bits κs a r₁ r₂ s₁ s₂ p q = (same_answer r₁ r₂ (p.0 ∙ sym q.0), p.1 ∙ sym q.1)

pub set_highest_station_address :
    (κs : _) (a : _) (r₁ r₂ : _) (s₁ s₂ : _)
    → set-highest-station-address-reads.Post κs a r₁ s₁
    → set-highest-station-address-reads.Post κs a r₂ s₂
    → (r₁ ≡ r₂) × (s₁.0.now ≡ s₂.0.now)
set_highest_station_address κs a r₁ r₂ s₁ s₂ p q = (same_answer r₁ r₂ (p.0 ∙ sym q.0), p.1 ∙ sym q.1)

pub set_token_rotation_bits :
    (κs : _) (a : _) (r₁ r₂ : _) (s₁ s₂ : _)
    → set-token-rotation-bits-reads.Post κs a r₁ s₁
    → set-token-rotation-bits-reads.Post κs a r₂ s₂
    → (r₁ ≡ r₂) × (s₁.0.now ≡ s₂.0.now)
set_token_rotation_bits κs a r₁ r₂ s₁ s₂ p q = (same_answer r₁ r₂ (p.0 ∙ sym q.0), p.1 ∙ sym q.1)

pub set_gap_wait_rotations :
    (κs : _) (a : _) (r₁ r₂ : _) (s₁ s₂ : _)
    → set-gap-wait-rotations-reads.Post κs a r₁ s₁
    → set-gap-wait-rotations-reads.Post κs a r₂ s₂
    → (r₁ ≡ r₂) × (s₁.0.now ≡ s₂.0.now)
set_gap_wait_rotations κs a r₁ r₂ s₁ s₂ p q = (same_answer r₁ r₂ (p.0 ∙ sym q.0), p.1 ∙ sym q.1)

pub set_max_retry_limit :
    (κs : _) (a : _) (r₁ r₂ : _) (s₁ s₂ : _)
    → set-max-retry-limit-reads.Post κs a r₁ s₁
    → set-max-retry-limit-reads.Post κs a r₂ s₂
    → (r₁ ≡ r₂) × (s₁.0.now ≡ s₂.0.now)
set_max_retry_limit κs a r₁ r₂ s₁ s₂ p q = (same_answer r₁ r₂ (p.0 ∙ sym q.0), p.1 ∙ sym q.1)

pub set_min_tsdr_bits :
    (κs : _) (a : _) (r₁ r₂ : _) (s₁ s₂ : _)
    → set-min-tsdr-bits-reads.Post κs a r₁ s₁
    → set-min-tsdr-bits-reads.Post κs a r₂ s₂
    → (r₁ ≡ r₂) × (s₁.0.now ≡ s₂.0.now)
set_min_tsdr_bits κs a r₁ r₂ s₁ s₂ p q = (same_answer r₁ r₂ (p.0 ∙ sym q.0), p.1 ∙ sym q.1)

pub set_watchdog_timeout :
    (κs : _) (a : _) (r₁ r₂ : _) (s₁ s₂ : _)
    → set-watchdog-timeout-reads.Post κs a r₁ s₁
    → set-watchdog-timeout-reads.Post κs a r₂ s₂
    → (r₁ ≡ r₂) × (s₁.0.now ≡ s₂.0.now)
set_watchdog_timeout κs a r₁ r₂ s₁ s₂ p q = (same_answer r₁ r₂ (p.0 ∙ sym q.0), p.1 ∙ sym q.1)
