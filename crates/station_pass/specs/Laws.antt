-- Whom the token is passed to, in a ring as the calls make it whose own address is the station's.
use Rattle.std.specs.Prelude.{ℕ, ◌<◌, ◌≡◌, refl, List, [], ◌∷◌}
use Rattle.std.proofs.Common.{sym, ap, subst, ◌∙◌}
use Rattle.ring.specs.Ring.{Ring, others, next_of, witness_of, remove_of}
use Rattle.ring.specs.Laws.{SoundRing, first_or_own}
use Rattle.ring.proofs.Laws.{first_is, first_alone, first_low, next_is, next_alone, next_witness, remove_me}
use Rattle.station_pass.specs.Pass.{destination_of}

module _ (r : Ring) (own : ℕ) (s : SoundRing r) (is : r.own ≡ own) where
  -- the token goes to the first of the others, to ourselves if there is none
  pub destination_is : destination_of own (next_of r) ≡ first_or_own r
  destination_is = go (others r) refl
    where
      go : (os : List ℕ) → others r ≡ os → destination_of own (next_of r) ≡ first_or_own r
      go [] e = ap (destination_of own) (next_alone r s e) ∙ sym is ∙ sym (first_alone r e)
      go (x ∷ xs) e = ap (destination_of own) (next_is r x xs s e) ∙ sym (first_is r x xs e)

  -- so to a station, and never to the number of nobody
  pub destination_low : destination_of own (next_of r) < 126
  destination_low = subst (λ (a : ℕ). a < 126) (sym destination_is) (first_low r s)

  -- once the ring has witnessed the pass, who is next is answered as before it
  pub asked_again : next_of (witness_of r own (destination_of own (next_of r))) ≡ next_of r
  asked_again =
      ap (λ (o : ℕ). next_of (witness_of r o (destination_of own (next_of r)))) (sym is)
      ∙ ap (λ (a : ℕ). next_of (witness_of r r.own a)) destination_is
      ∙ next_witness r s

  -- when we are alone, taking out whom the token went to takes out nobody
  pub removed_alone : others r ≡ [] → remove_of r (destination_of own (next_of r)) ≡ r
  removed_alone e = ap (remove_of r) (destination_is ∙ first_alone r e) ∙ remove_me r
