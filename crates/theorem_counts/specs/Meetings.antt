-- What is said of a telegram: the collisions that it leads to, and that it does not lead to ClaimToken. The proof is in proofs/Meetings.
use Prim.Native.Nat.{ℕ}
use Rattle.std.specs.Prelude.{◌≡◌}
use Rattle.station.specs.Whole.{Heard}
use Rattle.theorem_counts.specs.Plain.{Elsewhere}

-- what a telegram leads to: so many collisions, and a state other than ClaimToken
pub record Said (met : ℕ) (h : Heard) : Type 0 where
  pub says : h.met ≡ met
  pub leads : Elsewhere h.state
