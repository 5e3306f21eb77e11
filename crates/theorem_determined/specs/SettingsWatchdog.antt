-- Determined, for the public calls of settings_watchdog.
use Rattle.std.proofs.Common.{◌∙◌, sym}
use Rattle.theorem_determined.specs.Claim.{Determined}
use Rattle.settings_watchdog.proofs.units_of.Reads as units-of-reads
use Rattle.settings_watchdog.proofs.watchdog_factors.Reads as watchdog-factors-reads
use Rattle.settings_watchdog.proofs.watchdog_time.Reads as watchdog-time-reads

pub units_of : Determined units-of-reads.Post
units_of κs a r₁ r₂ s₁ s₂ p q = p ∙ sym q

pub watchdog_factors : Determined watchdog-factors-reads.Post
watchdog_factors κs a r₁ r₂ s₁ s₂ p q = p ∙ sym q

pub watchdog_time : Determined watchdog-time-reads.Post
watchdog_time κs a r₁ r₂ s₁ s₂ p q = p ∙ sym q
