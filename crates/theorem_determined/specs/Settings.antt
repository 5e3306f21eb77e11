-- Determined, for the public calls of settings.
use Rattle.std.proofs.Common.{◌∙◌, sym}
use Rattle.theorem_determined.specs.Claim.{Determined}
use Rattle.settings.proofs.not_set.RefusalFromNotSet.from.Reads as from-reads
use Rattle.settings.proofs.parameters.Parameters.new.Reads as new-reads
use Rattle.settings.proofs.parameters.Parameters.slot_bits.Reads as slot-bits-reads
use Rattle.settings.proofs.parameters.Parameters.highest_station_address.Reads as highest-station-address-reads
use Rattle.settings.proofs.parameters.Parameters.token_rotation_bits.Reads as token-rotation-bits-reads
use Rattle.settings.proofs.parameters.Parameters.gap_wait_rotations.Reads as gap-wait-rotations-reads
use Rattle.settings.proofs.parameters.Parameters.max_retry_limit.Reads as max-retry-limit-reads
use Rattle.settings.proofs.parameters.Parameters.min_tsdr.Reads as min-tsdr-reads
use Rattle.settings.proofs.parameters.Parameters.watchdog_timeout.Reads as watchdog-timeout-reads
use Rattle.settings.proofs.parameters.Parameters.slot_check.Reads as slot-check-reads
use Rattle.settings.proofs.parameters.Parameters.slot_time.Reads as slot-time-reads
use Rattle.settings.proofs.parameters.Parameters.min_tsdr_time.Reads as min-tsdr-time-reads
use Rattle.settings.proofs.parameters.Parameters.token_lost_timeout.Reads as token-lost-timeout-reads
use Rattle.settings.proofs.parameters.Parameters.token_rotation_time.Reads as token-rotation-time-reads
use Rattle.settings.proofs.parameters.Parameters.watchdog_time.Reads as watchdog-time-reads

pub from : Determined from-reads.Post
from κs a r₁ r₂ s₁ s₂ p q = p ∙ sym q

pub new : Determined new-reads.Post
new κs a r₁ r₂ s₁ s₂ p q = p ∙ sym q

pub slot_bits : Determined slot-bits-reads.Post
slot_bits κs a r₁ r₂ s₁ s₂ p q = p ∙ sym q

pub highest_station_address : Determined highest-station-address-reads.Post
highest_station_address κs a r₁ r₂ s₁ s₂ p q = p ∙ sym q

pub token_rotation_bits : Determined token-rotation-bits-reads.Post
token_rotation_bits κs a r₁ r₂ s₁ s₂ p q = p ∙ sym q

pub gap_wait_rotations : Determined gap-wait-rotations-reads.Post
gap_wait_rotations κs a r₁ r₂ s₁ s₂ p q = p ∙ sym q

pub max_retry_limit : Determined max-retry-limit-reads.Post
max_retry_limit κs a r₁ r₂ s₁ s₂ p q = p ∙ sym q

pub min_tsdr : Determined min-tsdr-reads.Post
min_tsdr κs a r₁ r₂ s₁ s₂ p q = p ∙ sym q

pub watchdog_timeout : Determined watchdog-timeout-reads.Post
watchdog_timeout κs a r₁ r₂ s₁ s₂ p q = p ∙ sym q

pub slot_check : Determined slot-check-reads.Post
slot_check κs a r₁ r₂ s₁ s₂ p q = p ∙ sym q

pub slot_time : Determined slot-time-reads.Post
slot_time κs a r₁ r₂ s₁ s₂ p q = p ∙ sym q

pub min_tsdr_time : Determined min-tsdr-time-reads.Post
min_tsdr_time κs a r₁ r₂ s₁ s₂ p q = p ∙ sym q

pub token_lost_timeout : Determined token-lost-timeout-reads.Post
token_lost_timeout κs a r₁ r₂ s₁ s₂ p q = p ∙ sym q

pub token_rotation_time : Determined token-rotation-time-reads.Post
token_rotation_time κs a r₁ r₂ s₁ s₂ p q = p ∙ sym q

pub watchdog_time : Determined watchdog-time-reads.Post
watchdog_time κs a r₁ r₂ s₁ s₂ p q = p ∙ sym q
