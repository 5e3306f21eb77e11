-- Rings that are written down by their members: the set of a list, and what passes leave of it. The laws are in proofs/Worked.
use Rattle.std.specs.Prelude.{ℕ, Bool, true, false, ◌&&◌, ◌||◌, List, [], ◌∷◌, ltb, eqb}
use Rattle.ring_addresses.specs.Set.{keeps}
use Rattle.ring.specs.Ring.{Ring, witness_of}

-- the set of these
abbrev pub among : List ℕ → ℕ → Bool
among [] x = false
among (a ∷ more) x = eqb x a || among more x

-- the ring after passes, each from the first to the second, one after the other
abbrev pub witness_all : Ring → List (ℕ × ℕ) → Ring
witness_all r [] = r
witness_all r (pass ∷ more) = witness_all (witness_of r pass.0 pass.1) more

-- is x a member after them, if it was one before or not
abbrev pub kept_after : ℕ → Bool → List (ℕ × ℕ) → ℕ → Bool
kept_after own b [] x = b
kept_after own b (pass ∷ more) x = kept_after own (keeps own pass.0 pass.1 b x) more x

-- are all of them between addresses
abbrev pub addresses_only : List (ℕ × ℕ) → Bool
addresses_only [] = true
addresses_only (pass ∷ more) = (ltb pass.0 126 && ltb pass.1 126) && addresses_only more
