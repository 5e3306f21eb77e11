-- Passes worked out on sets, for rings that are written down by their members: where the definitions were computed link by link,
-- the checker would walk the tables anew for each entry.
use Rattle.std.specs.Prelude.{ℕ, ◌<◌, ◌≤◌, ◌≡◌, refl, Bool, true, ◌&&◌, ◌||◌, List, [], ◌∷◌, ltb, leb}
use Rattle.std.proofs.Common.{ap, ◌∙◌, ltb-true}
use Rattle.ring_addresses.specs.Set.{keeps, keeps_all, same_set}
use Rattle.ring_addresses.specs.SetLaws.{and_left, and_right, same_then}
use Rattle.ring.specs.Ring.{Ring, links_of, has, make, laps_of, passed, witness_of}
use Rattle.ring_links.specs.Sets.{links_same}
use Rattle.ring.specs.Laws.{SoundRing}
use Rattle.ring.proofs.Laws.{make_sound, has_make, witness_is, witness_has, witness_own, sound_witness}
use Rattle.ring.proofs.Alike.{same_alike}
use Rattle.ring.specs.Worked.{witness_all, kept_after, addresses_only}

-- a pass from s to d, seen by the ring with the members f, makes the ring with the members g, if these are what the pass leaves of
-- f, which a test tells
pub witness_of_members :
    (own laps s d : ℕ) (ready : Bool) (f g : ℕ → Bool)
    → own < 126
    → f own ≡ true
    → laps ≤ 2
    → s < 126
    → d < 126
    → same_set (keeps_all own s d f) g 126 ≡ true
    → witness_of (make own f laps ready) s d
    ≡ make own g (laps_of (same_set f g 126) laps s d) (ready || leb 2 (laps_of (same_set f g 126) laps s d))
unfolding passed make
witness_of_members own laps s d ready f g low own_in two ls ld left =
    witness_is (make own f laps ready) s d (make_sound own f laps ready low own_in two) ls ld
    ∙ (λ i. record { links = tables i; own = own; laps = counts i; ready = ready || leb 2 (counts i) })
  where
    held : (x : ℕ) → x < 126 → has (make own f laps ready) x ≡ f x
    held = has_make own f laps ready

    stays : (x : ℕ) → x < 126 → keeps own s d (has (make own f laps ready) x) x ≡ g x
    stays x l = ap (λ (b : Bool). keeps own s d b x) (held x l) ∙ same_then (keeps_all own s d f) g 126 left x l

    tables : links_of (keeps_all own s d (has (make own f laps ready))) ≡ links_of g
    tables = links_same (keeps_all own s d (has (make own f laps ready))) g stays

    counts :
        laps_of (same_set (has (make own f laps ready)) (keeps_all own s d (has (make own f laps ready))) 126) laps s d
        ≡ laps_of (same_set f g 126) laps s d
    counts = ap (λ (b : Bool). laps_of b laps s d) (same_alike (has (make own f laps ready)) f (keeps_all own s d (has (make own f laps ready))) g 126 held stays)

-- passes leave own
pub witnessed_own : (passes : List (ℕ × ℕ)) (r : Ring) → (witness_all r passes).own ≡ r.own
witnessed_own [] r = refl
witnessed_own (pass ∷ more) r = witnessed_own more (witness_of r pass.0 pass.1) ∙ witness_own r pass.0 pass.1

-- the members after passes
pub witnessed_has : (passes : List (ℕ × ℕ)) (r : Ring) (x : ℕ) → SoundRing r → addresses_only passes ≡ true → x < 126 → has (witness_all r passes) x ≡ kept_after r.own (has r x) passes x
witnessed_has [] r x w e l = refl
witnessed_has (pass ∷ more) r x w e l =
    let here = and_left (ltb pass.0 126 && ltb pass.1 126) (addresses_only more) e in
    let s = ltb-true pass.0 126 (and_left (ltb pass.0 126) (ltb pass.1 126) here) in
    let d = ltb-true pass.1 126 (and_right (ltb pass.0 126) (ltb pass.1 126) here) in
    let r' = witness_of r pass.0 pass.1 in
    witnessed_has more r' x (sound_witness r pass.0 pass.1 w) (and_right (ltb pass.0 126 && ltb pass.1 126) (addresses_only more) e) l
    ∙ ap (λ (own : ℕ). kept_after own (has r' x) more x) (witness_own r pass.0 pass.1)
    ∙ ap (λ (b : Bool). kept_after r.own b more x) (witness_has r pass.0 pass.1 x w s d l)
