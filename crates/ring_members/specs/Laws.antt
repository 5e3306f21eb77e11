-- What is said of a ring to which the addresses of a set are added: it is sound, and has them. The proof is in proofs/Laws.
use Rattle.std.specs.Prelude.{ℕ, ◌<◌, ◌≡◌, Bool, ◌||◌}
use Rattle.ring.specs.Ring.{Ring, has}
use Rattle.ring.specs.Laws.{SoundRing}

-- a ring r to which the addresses of g were added: it is sound, has them besides its own, and all else stays
pub record Grown (r grown : Ring) (g : ℕ → Bool) : Type 0 where
  pub sound : SoundRing grown
  pub own_is : grown.own ≡ r.own
  pub laps_is : grown.laps ≡ r.laps
  pub ready_is : grown.ready ≡ r.ready
  pub has_is : (x : ℕ) → x < 126 → has grown x ≡ (g x || has r x)
