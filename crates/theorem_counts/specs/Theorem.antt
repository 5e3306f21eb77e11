-- Counts, and by how much they are raised. The proof of request P6's statement is in proofs/Theorem.
use Rattle.std.specs.Prelude.{ℕ, ◌≤◌, ◌≡◌}
use Rattle.station.specs.declared.parts.Counts.{Counts}
use Rattle.station_answer.specs.Counted.{largest_count, raised_by}

-- From a step to the counts.

-- counts that fit their 32 bits
pub record InBits (k : Counts) : Type 0 where
  pub claims_fit : k.claims ≤ largest_count
  pub removals_fit : k.removals ≤ largest_count
  pub meetings_fit : k.meetings ≤ largest_count

-- counts that are so many higher than others
pub record Raised (before after : Counts) (a b c : ℕ) : Type 0 where
  pub claims_raised : after.claims ≡ raised_by before.claims a
  pub removals_raised : after.removals ≡ raised_by before.removals b
  pub meetings_raised : after.meetings ≡ raised_by before.meetings c
