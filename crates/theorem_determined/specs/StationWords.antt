-- Determined, for the public calls of station_words.
use Rattle.std.proofs.Common.{◌∙◌, sym}
use Rattle.theorem_determined.specs.Claim.{Determined}
use Rattle.station_words.proofs.laps_in.Reads as laps-in-reads
use Rattle.station_words.proofs.words_of.Reads as words-of-reads
use Rattle.station_words.proofs.state_in.Reads as state-in-reads
use Rattle.station_words.proofs.core_in.Reads as core-in-reads
use Rattle.station_words.proofs.counts_in.Reads as counts-in-reads
use Rattle.station_words.proofs.ready_in.Reads as ready-in-reads
use Rattle.station_words.proofs.header_in.Reads as header-in-reads
use Rattle.station_words.proofs.same_words.Reads as same-words-reads

pub laps_in : Determined laps-in-reads.Post
laps_in κs a r₁ r₂ s₁ s₂ p q = p ∙ sym q

pub words_of : Determined words-of-reads.Post
words_of κs a r₁ r₂ s₁ s₂ p q = p ∙ sym q

pub state_in : Determined state-in-reads.Post
state_in κs a r₁ r₂ s₁ s₂ p q = p ∙ sym q

pub core_in : Determined core-in-reads.Post
core_in κs a r₁ r₂ s₁ s₂ p q = p ∙ sym q

pub counts_in : Determined counts-in-reads.Post
counts_in κs a r₁ r₂ s₁ s₂ p q = p ∙ sym q

pub ready_in : Determined ready-in-reads.Post
ready_in κs a r₁ r₂ s₁ s₂ p q = p ∙ sym q

pub header_in : Determined header-in-reads.Post
header_in κs a r₁ r₂ s₁ s₂ p q = p ∙ sym q

pub same_words : Determined same-words-reads.Post
same_words κs a r₁ r₂ s₁ s₂ p q = p ∙ sym q
