-- Determined, for the public calls of settings_build.
use Rattle.std.proofs.Common.{◌∙◌, sym}
use Rattle.theorem_determined.specs.Claim.{Determined}
use Rattle.theorem_determined.specs.Refused.{same_answer}
use Rattle.settings_build.proofs.finished.finish.Reads as finish-reads
use Rattle.settings_build.proofs.plain.PlainSettingsFromParameters.from.Reads as from-reads
use Rattle.settings_build.proofs.plain.ParametersTryFromPlainSettings.try_from.Reads as try-from-reads
use Rattle.settings_build.proofs.plain.PlainSettings.check_early.Reads as check-early-reads
use Rattle.settings_build.proofs.plain.PlainSettings.check.Reads as check-reads

pub finish : Determined finish-reads.Post
finish κs a r₁ r₂ s₁ s₂ p q = p ∙ sym q

pub from : Determined from-reads.Post
from κs a r₁ r₂ s₁ s₂ p q = p ∙ sym q

pub try_from : Determined try-from-reads.Post
try_from κs a r₁ r₂ s₁ s₂ p q = p ∙ sym q

pub check_early : Determined check-early-reads.Post
check_early κs a r₁ r₂ s₁ s₂ p q = same_answer r₁ r₂ (p ∙ sym q)

pub check : Determined check-reads.Post
check κs a r₁ r₂ s₁ s₂ p q = same_answer r₁ r₂ (p ∙ sym q)
