-- Determined, for the public calls of bit_times. What an `Instant` is, clauses see as microseconds.
use Rattle.std.specs.Prelude.{ℕ}
use Rattle.std.proofs.Common.{◌∙◌, sym, ap}
use Rattle.bit_times.specs.declared.micros.Micros.{Micros}
use Rattle.theorem_determined.specs.Claim.{Determined}
use Rattle.bit_times.proofs.baud.BaudTryFromU8.try_from.Reads as try-from-reads
use Rattle.bit_times.proofs.baud.U8FromBaud.from.Reads as from-reads
use Rattle.bit_times.proofs.baud.Baud.to_rate.Reads as to-rate-reads
use Rattle.bit_times.proofs.baud.Baud.min_slot_bits.Reads as min-slot-bits-reads
use Rattle.bit_times.proofs.baud.Baud.bits_to_time.Reads as bits-to-time-reads
use Rattle.bit_times.proofs.instant.Instant.at.Reads as at-reads
use Rattle.bit_times.proofs.instant.Instant.micros.Reads as micros-reads

pub try_from : Determined try-from-reads.Post
try_from κs a r₁ r₂ s₁ s₂ p q = p ∙ sym q

pub from : Determined from-reads.Post
from κs a r₁ r₂ s₁ s₂ p q = p ∙ sym q

pub to_rate : Determined to-rate-reads.Post
to_rate κs a r₁ r₂ s₁ s₂ p q = p ∙ sym q

pub min_slot_bits : Determined min-slot-bits-reads.Post
min_slot_bits κs a r₁ r₂ s₁ s₂ p q = p ∙ sym q

pub bits_to_time : Determined bits-to-time-reads.Post
bits_to_time κs a r₁ r₂ s₁ s₂ p q = p ∙ sym q

-- a clock's value is its microseconds
abbrev clock_of : ℕ → Micros
clock_of micros = record { 0 = micros }

pub at : Determined at-reads.Post
at κs a r₁ r₂ s₁ s₂ p q = ap clock_of (p ∙ sym q)

pub micros : Determined micros-reads.Post
micros κs a r₁ r₂ s₁ s₂ p q = p.0 ∙ sym q.0
