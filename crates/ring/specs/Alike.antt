-- What it is that the tables answer as the bits do that they replace. The proof is in proofs/Alike.
use Rattle.std.specs.Prelude.{ℕ, ◌≡◌}
use Rattle.ring.specs.Ring.{Ring, has, next_of, prev_of, gap_of}
use Rattle.ring.specs.BitRing.{BitRing, has_bit, next_bits, prev_bits, gap_bits}

-- the two forms answer alike, whatever is asked: own, laps, ready, each member, who is next, who is previous, and the gap walk
pub record AnswerAlike (r : Ring) (b : BitRing) : Type 0 where
  pub own_same : r.own ≡ b.own
  pub laps_same : r.laps ≡ b.laps
  pub ready_same : r.ready ≡ b.ready
  pub members_same : (x : ℕ) → has r x ≡ has_bit b x
  pub next_same : next_of r ≡ next_bits b
  pub previous_same : prev_of r ≡ prev_bits b
  pub gap_same : (a hsa : ℕ) → gap_of r a hsa ≡ gap_bits b a hsa
