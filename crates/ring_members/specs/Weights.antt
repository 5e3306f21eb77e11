-- How far the weights of a set's members are weighed, one after the other. That those of a byte, added, are the byte is proved in
-- proofs/WeightLaws. Assumes nothing.
use Rattle.std.specs.Prelude.{ℕ, ◌<◌, ◌≤◌, ◌≡◌, List, length, get_or}
use Rattle.ring_members.specs.Members.{weight_of, weighed}

-- the first a of the weights weighed
pub record Weighed (l : List ℕ) (a : ℕ) (w : List ℕ) : Type 0 where
  pub long : length w ≡ 128
  pub done : (x : ℕ) → x < a → get_or w x 0 ≡ weighed l x
  pub left : (x : ℕ) → a ≤ x → x < 128 → get_or w x 0 ≡ weight_of x
