-- Determined, for the public calls of trace_headers.
use Rattle.std.proofs.Common.{◌∙◌, sym}
use Rattle.theorem_determined.specs.Claim.{Determined}
use Rattle.theorem_determined.specs.Refused.{same_answer}
use Rattle.trace_headers.proofs.Edition.of.Reads as of-reads
use Rattle.trace_headers.proofs.Edition.length.Reads as length-reads
use Rattle.trace_headers.proofs.header_length.Reads as header-length-reads
use Rattle.trace_headers.proofs.Header.read.Reads as read-reads
use Rattle.trace_headers.proofs.Header.check.Reads as check-reads

pub of : Determined of-reads.Post
of κs a r₁ r₂ s₁ s₂ p q = p ∙ sym q

pub length : Determined length-reads.Post
length κs a r₁ r₂ s₁ s₂ p q = p.0 ∙ sym q.0

pub header_length : Determined header-length-reads.Post
header_length κs a r₁ r₂ s₁ s₂ p q = p.0 ∙ sym q.0

pub read : Determined read-reads.Post
read κs a r₁ r₂ s₁ s₂ p q = p ∙ sym q

pub check : Determined check-reads.Post
check κs a r₁ r₂ s₁ s₂ p q = same_answer r₁ r₂ (p ∙ sym q)
