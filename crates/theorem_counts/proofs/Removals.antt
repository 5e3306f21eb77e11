-- Who is missing from a ring: nobody of its own members, and after a third attempt the station that is taken out, alone.
use Prim.Native.Nat.{ℕ, suc, ◌<◌}
use Rattle.std.specs.Prelude.{List, [], ◌∷◌, ◌≡◌, None, Option, Some}
use Rattle.std.proofs.Math.Bool.{false}
use Rattle.std.proofs.Math.Path.{refl, ap, subst}
use Rattle.std.proofs.Common.{sym, ◌∙◌}
use Rattle.bit_times.specs.declared.micros.Micros.{Micros}
use Rattle.settings.specs.declared.parameters.Parameters.{Parameters}
use Rattle.ring_addresses.specs.SetLaws.{All}
use Rattle.ring.specs.Ring.{Ring, has, others, next_of, witness_of, remove_of}
use Rattle.ring.specs.Laws.{SoundRing, Other}
use Rattle.ring.proofs.Laws.{others_all, others_remove, next_is, next_alone, next_other, witness_next, remove_same, remove_own, sound_remove}
use Rattle.station.specs.declared.state.PassTokenAttempt.{PassTokenAttempt}
use Rattle.station.specs.declared.parts.Core.{Core}
use Rattle.station.specs.Whole.{RingStep}
use Rattle.station.specs.Steps.{pause_of}
use Rattle.station_pass.specs.Pass.{destination_of, pass_sent_on, pass_send, pass_token_of}
use Rattle.station_pass.specs.Laws.{destination_is}
use Rattle.theorem_sound.specs.Keeps.{either}
use Rattle.theorem_counts.specs.Events.{missing}
use Rattle.theorem_counts.specs.Removals.{goes, after_third}

-- nobody is missing who is a member of another ring with the same members
none_missing : (q r : Ring) (xs : List ℕ) → ((a : ℕ) → a < 126 → has q a ≡ has r a) → All (Other r) xs → missing q xs ≡ 0
unfolding missing
none_missing q r [] same all = refl
none_missing q r (a ∷ xs) same all = rw (same a all.0.low ∙ all.0.in_set_lem) (none_missing q r xs same all.1)

nobody_missing : (r : Ring) → missing r [] ≡ 0
unfolding missing
nobody_missing r = refl

-- nobody is missing from a ring of its own others
pub same_missing : (r : Ring) → SoundRing r → missing r (others r) ≡ 0
same_missing r s = none_missing r r (others r) (λ a l. refl) (others_all r s)

-- a token pass without a look at the gap keeps the members
sent_ring : (x : Option ℕ) (p : Parameters) (c : Core) (now : Micros) (k : PassTokenAttempt) (to : ℕ) (r : Ring) → (pass_sent_on x p c now k to r).ring ≡ r
unfolding pass_sent_on
sent_ring None p c now k to r = refl
sent_ring (Some a) p c now k to r = refl

module _ (p : Parameters) (c : Core) (r : Ring) (now : Micros) (k : PassTokenAttempt) (s : SoundRing r) (is : r.own ≡ p.address) (a : ℕ) (low : a < 126) where
  send_keeps : (d : Core) → has (pass_send p d r now k).ring a ≡ has r a
  unfolding pass_send
  send_keeps d =
      ap (λ (t : Ring). has t a) (sent_ring _ p d now k _ _)
      ∙ ap (λ (o : ℕ). has (witness_of r o (destination_of p.address (next_of r))) a) (sym is)
      ∙ ap (λ (to : ℕ). has (witness_of r r.own to) a) (destination_is r p.address s is)
      ∙ witness_next r a s low

  pass_keeps : has (pass_token_of p c r now false k).ring a ≡ has r a
  unfolding pass_token_of
  pass_keeps = either (λ (x : RingStep). has x.ring a ≡ has r a) (pause_of p c now).over _ _ (send_keeps _) refl

module _ (p : Parameters) (c : Core) (r : Ring) (now : Micros) (k : PassTokenAttempt) (s : SoundRing r) (is : r.own ≡ p.address) where
  -- with others: the first of them
  one_missing : (x : ℕ) (xs : List ℕ) → others r ≡ x ∷ xs → missing (pass_token_of p c (remove_of r x) now false k).ring (x ∷ xs) ≡ 1
  unfolding missing
  one_missing x xs e =
      let first = next_other r x xs s e in
      let out : has (remove_of r x) x ≡ false = remove_same r x s first.low first.not_own in
      let left : All (Other (remove_of r x)) xs = subst (All (Other (remove_of r x))) (others_remove r x xs s e) (others_all (remove_of r x) (sound_remove r x s)) in
      let own : (remove_of r x).own ≡ p.address = remove_own r x ∙ is in
      let same : (a : ℕ) → a < 126 → has (pass_token_of p c (remove_of r x) now false k).ring a ≡ has (remove_of r x) a = pass_keeps p c (remove_of r x) now k (sound_remove r x s) own in
      rw (same x first.low ∙ out) (ap suc (none_missing _ (remove_of r x) xs same left))

  pub third_missing : missing (after_third p c r now k) (others r) ≡ goes (next_of r)
  third_missing = go (others r) refl
    where
      go : (os : List ℕ) → others r ≡ os → missing (after_third p c r now k) (others r) ≡ goes (next_of r)
      go [] e = ap (missing (after_third p c r now k)) e ∙ nobody_missing (after_third p c r now k) ∙ sym (ap goes (next_alone r s e))
      go (x ∷ xs) e =
          ap (missing (after_third p c r now k)) e
          ∙ ap (λ (y : Option ℕ). missing (pass_token_of p c (remove_of r (destination_of p.address y)) now false k).ring (x ∷ xs)) (next_is r x xs s e)
          ∙ one_missing x xs e
          ∙ sym (ap goes (next_is r x xs s e))
