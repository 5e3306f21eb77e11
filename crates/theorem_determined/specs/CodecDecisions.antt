-- Determined, for the public calls of codec_decisions.
use Rattle.std.proofs.Common.{◌∙◌, sym}
use Rattle.theorem_determined.specs.Claim.{Determined}
use Rattle.theorem_determined.specs.Refused.{same_answer}
use Rattle.codec_decisions.proofs.DecisionFromU64.from.Reads as to-decision-reads
use Rattle.codec_decisions.proofs.U64FromDecision.from.Reads as from-decision-reads
use Rattle.codec_decisions.proofs.check_word.Reads as check-word-reads

pub to_decision : Determined to-decision-reads.Post
to_decision κs a r₁ r₂ s₁ s₂ p q = p ∙ sym q

pub from_decision : Determined from-decision-reads.Post
from_decision κs a r₁ r₂ s₁ s₂ p q = p ∙ sym q

pub check_word : Determined check-word-reads.Post
check_word κs a r₁ r₂ s₁ s₂ p q = same_answer r₁ r₂ (p ∙ sym q)
