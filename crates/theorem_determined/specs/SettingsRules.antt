-- Determined, for the public calls of settings_rules.
use Rattle.std.proofs.Common.{◌∙◌, sym}
use Rattle.theorem_determined.specs.Claim.{Determined}
use Rattle.theorem_determined.specs.Refused.{same_answer}
use Rattle.settings_rules.proofs.check_address.Reads as check-address-reads
use Rattle.settings_rules.proofs.check_slot_bits.Reads as check-slot-bits-reads
use Rattle.settings_rules.proofs.check_hsa.Reads as check-hsa-reads
use Rattle.settings_rules.proofs.check_rotation.Reads as check-rotation-reads
use Rattle.settings_rules.proofs.check_room.Reads as check-room-reads
use Rattle.settings_rules.proofs.check_gap_wait.Reads as check-gap-wait-reads
use Rattle.settings_rules.proofs.check_retry.Reads as check-retry-reads
use Rattle.settings_rules.proofs.check_min_tsdr.Reads as check-min-tsdr-reads
use Rattle.settings_rules.proofs.check_watchdog.Reads as check-watchdog-reads
use Rattle.settings_rules.proofs.check_factors.Reads as check-factors-reads
use Rattle.settings_rules.proofs.check_applications.Reads as check-applications-reads

pub check_address : Determined check-address-reads.Post
check_address κs a r₁ r₂ s₁ s₂ p q = same_answer r₁ r₂ (p ∙ sym q)

pub check_slot_bits : Determined check-slot-bits-reads.Post
check_slot_bits κs a r₁ r₂ s₁ s₂ p q = same_answer r₁ r₂ (p ∙ sym q)

pub check_hsa : Determined check-hsa-reads.Post
check_hsa κs a r₁ r₂ s₁ s₂ p q = same_answer r₁ r₂ (p ∙ sym q)

pub check_rotation : Determined check-rotation-reads.Post
check_rotation κs a r₁ r₂ s₁ s₂ p q = same_answer r₁ r₂ (p ∙ sym q)

pub check_room : Determined check-room-reads.Post
check_room κs a r₁ r₂ s₁ s₂ p q = same_answer r₁ r₂ (p ∙ sym q)

pub check_gap_wait : Determined check-gap-wait-reads.Post
check_gap_wait κs a r₁ r₂ s₁ s₂ p q = same_answer r₁ r₂ (p ∙ sym q)

pub check_retry : Determined check-retry-reads.Post
check_retry κs a r₁ r₂ s₁ s₂ p q = same_answer r₁ r₂ (p ∙ sym q)

pub check_min_tsdr : Determined check-min-tsdr-reads.Post
check_min_tsdr κs a r₁ r₂ s₁ s₂ p q = same_answer r₁ r₂ (p ∙ sym q)

pub check_watchdog : Determined check-watchdog-reads.Post
check_watchdog κs a r₁ r₂ s₁ s₂ p q = same_answer r₁ r₂ (p ∙ sym q)

pub check_factors : Determined check-factors-reads.Post
check_factors κs a r₁ r₂ s₁ s₂ p q = same_answer r₁ r₂ (p ∙ sym q)

pub check_applications : Determined check-applications-reads.Post
check_applications κs a r₁ r₂ s₁ s₂ p q = same_answer r₁ r₂ (p ∙ sym q)
