-- Determined, for the public calls of station_numbers.
use Rattle.std.proofs.Common.{◌∙◌, sym}
use Rattle.theorem_determined.specs.Claim.{Determined}
use Rattle.station_numbers.proofs.state_numbers.Reads as state-numbers-reads
use Rattle.station_numbers.proofs.state_from.Reads as state-from-reads
use Rattle.station_numbers.proofs.state_word.Reads as state-word-reads
use Rattle.station_numbers.proofs.numbers_in.Reads as numbers-in-reads

pub state_numbers : Determined state-numbers-reads.Post
state_numbers κs a r₁ r₂ s₁ s₂ p q = p ∙ sym q

pub state_from : Determined state-from-reads.Post
state_from κs a r₁ r₂ s₁ s₂ p q = p ∙ sym q

pub state_word : Determined state-word-reads.Post
state_word κs a r₁ r₂ s₁ s₂ p q = p ∙ sym q

pub numbers_in : Determined numbers-in-reads.Post
numbers_in κs a r₁ r₂ s₁ s₂ p q = p ∙ sym q
