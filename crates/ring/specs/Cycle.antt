-- What it is that the links close into a single cycle through own, and that a non-member holds 127 in both tables. The proof is in
-- proofs/Cycle.
use Rattle.std.specs.Prelude.{ℕ, ◌<◌, ◌≡◌, true, false, List, [], ◌∷◌, ◌⊎◌}
use Rattle.ring_addresses.specs.SetLaws.{Distinct}
use Rattle.ring.specs.Ring.{Ring, after, before, has, others}
use Rattle.ring.specs.Laws.{Other}

-- y stands after x in the first table, and x before y in the second
abbrev pub Link : List ℕ → ℕ → ℕ → Type 0
Link l x y = (after l x ≡ y) × (before l y ≡ x)

-- links lead from x through ys, in this order, and then to z
abbrev pub Chain : List ℕ → ℕ → List ℕ → ℕ → Type 0
Chain l x [] z = Link l x z
Chain l x (y ∷ ys) z = Link l x y × Chain l y ys z

-- x stands in a list
abbrev pub Among : ℕ → List ℕ → Type 0
Among x [] = ⊥
Among x (y ∷ ys) = (x ≡ y) ⊎ Among x ys

-- the tables are one cycle through own. Own is a member; the neighbours of a member are members, and after and before undo each
-- other; who is no member holds 127 twice, and a member holds addresses; going after from own meets the others, in ring order, and
-- comes back; and these are all other members, each once
pub record Linked (r : Ring) : Type 0 where
  pub own_in : has r r.own ≡ true
  pub both_in : (x : ℕ) → x < 126 → has r x ≡ true → (has r (after r.links x) ≡ true) × (has r (before r.links x) ≡ true)
  pub undone : (x : ℕ) → x < 126 → has r x ≡ true → (before r.links (after r.links x) ≡ x) × (after r.links (before r.links x) ≡ x)
  pub out : (x : ℕ) → x < 126 → has r x ≡ false → (after r.links x ≡ 127) × (before r.links x ≡ 127)
  pub low : (x : ℕ) → x < 126 → has r x ≡ true → (after r.links x < 126) × (before r.links x < 126)
  pub cycle : Chain r.links r.own (others r) r.own
  pub each : (x : ℕ) → Other r x → Among x (others r)
  pub once : Distinct (others r)
