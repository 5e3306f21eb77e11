-- Laws of the ring, which upper crates cite in place of the definitions' text. Their premises are `SoundRing` and bounds of addresses.
use Rattle.std.specs.Prelude.{ℕ, ◌+◌, ◌^◌, ◌<◌, ◌≤◌, min, ◌≡◌, refl, Bool, true, false, not, ◌&&◌, ◌||◌, ◌⊎◌, length, ltb, leb, eqb, None, Some}
use Rattle.std.proofs.Common.{sym, ap, subst, ◌∙◌, inl, inr, arith, lt-ltb, le-ltb, eq-eqb, ne_eqb, ltb-true, ltb-false, eqb-true}
use Rattle.std.proofs.Math.Bool.{cond, and-false, or-true}
use mathlib.Core.List.{List, [], ◌∷◌}
use Rattle.std.proofs.lemmas.Bool.{eqb-false}
use Rattle.ring_addresses.specs.Set.{up, walk, head_or, last_or, nearest, between_of, only, add_to, take_out, keeps, keeps_all, same_set}
use Rattle.ring_addresses.specs.SetLaws.{true≢false, walk_ext, walk_length, first, nobody, walk_nobody, All, Distinct, walk_all, walk_distinct, without, walk_without, without_head, last_walk, dist_of, between_on, between_start, keeps_start, keeps_end, keeps_between, keeps_else, keeps_me, same_if, same_then}
use Rattle.ring.specs.declared.GapState.{GapState}
use Rattle.ring.specs.declared.GapState.TheVariants.{Waiting, DoPoll}
use Rattle.ring.specs.Ring.{Ring, after, before, listed, links_of, unlink_of, insert_of, relink_of, has, make, claim_of, others, first_of, next_of, next_number, prev_of, fresh_of, with_links, add_of, remove_of, round_of, laps_of, passed, confirms_of, counted, witness_of, candidate_of, polls_on, polls, gap_of}
use Rattle.ring_links.specs.Sets.{links_same, after_at, before_at, listed_links}
use Rattle.ring_links.specs.LinkLaws.{unlink_links, insert_links}
use Rattle.ring_links.specs.Passes.{confirms_is, relink_links}
use Rattle.ring.specs.Laws.{MadeWith, SoundRing, laps_after, RingCall, add, claim, remove, witness, after_call, after_calls, first_or_own, Other, Polled}

-- How a ring is kept.

-- nobody above 125 is a member
pub has_out : (r : Ring) (a : ℕ) → 126 ≤ a → has r a ≡ false
unfolding has listed
has_out r a l = rw (le-ltb a 126 l)

-- the members of the ring made of a set are the set
pub has_make : (own : ℕ) (f : ℕ → Bool) (laps : ℕ) (ready : Bool) (x : ℕ) → x < 126 → has (make own f laps ready) x ≡ f x
unfolding has make
has_make own f laps ready x l = listed_links f x l

-- the ring made of a set has the own address, laps and ready that it was made with
pub make_made : (own : ℕ) (f : ℕ → Bool) (laps : ℕ) (ready : Bool) → MadeWith (make own f laps ready) own laps ready
unfolding make
make_made own f laps ready = record { own_is = refl; laps_is = refl; ready_is = refl }

-- claiming changes no member
pub claim_has : (r : Ring) (x : ℕ) → has (claim_of r) x ≡ has r x
unfolding has claim_of
claim_has r x = refl

-- claiming sets ready and leaves own and laps
pub claim_made : (r : Ring) → MadeWith (claim_of r) r.own r.laps true
unfolding claim_of
claim_made r = record { own_is = refl; laps_is = refl; ready_is = refl }

-- A ring as the calls make it.

-- the ring made of a set that own is in is sound
pub make_sound : (own : ℕ) (f : ℕ → Bool) (laps : ℕ) (ready : Bool) → own < 126 → f own ≡ true → laps ≤ 2 → SoundRing (make own f laps ready)
unfolding make
make_sound own f laps ready l i t =
    let m = make_made own f laps ready in
    record {
      own_low = rw m.own_is l;
      own_in = ap (has (make own f laps ready)) m.own_is ∙ has_make own f laps ready own l ∙ i;
      laps_two = rw m.laps_is t;
      linked = sym (links_same (has (make own f laps ready)) f (has_make own f laps ready));
    }

-- Own, laps and ready after each call.

-- fresh: own, 0 laps, not ready
pub fresh_made : (own : ℕ) → MadeWith (fresh_of own) own 0 false
unfolding fresh_of
fresh_made own = make_made own (only own) 0 false

-- adding leaves own, laps and ready
pub add_made : (r : Ring) (a : ℕ) → MadeWith (add_of r a) r.own r.laps r.ready
unfolding add_of
add_made r a = go (ltb a 126)
  where
    go : (b : Bool) → MadeWith (cond b (with_links r (insert_of r.links a)) r) r.own r.laps r.ready
    go true = record { own_is = refl; laps_is = refl; ready_is = refl }
    go false = record { own_is = refl; laps_is = refl; ready_is = refl }

-- removing leaves own, laps and ready
pub remove_made : (r : Ring) (a : ℕ) → MadeWith (remove_of r a) r.own r.laps r.ready
unfolding remove_of
remove_made r a = go (eqb a r.own) (ltb a 126)
  where
    go : (b c : Bool) → MadeWith (cond b r (cond c (with_links r (unlink_of r.links a)) r)) r.own r.laps r.ready
    go true c = record { own_is = refl; laps_is = refl; ready_is = refl }
    go false true = record { own_is = refl; laps_is = refl; ready_is = refl }
    go false false = record { own_is = refl; laps_is = refl; ready_is = refl }

-- What the links that a call stores mean on a sound ring.

-- the ring with an address more
pub add_is : (r : Ring) (a : ℕ) → SoundRing r → a < 126 → add_of r a ≡ make r.own (add_to a (has r)) r.laps r.ready
unfolding add_of make
add_is r a s l =
    rw (lt-ltb a 126 l) (ap (with_links r) (ap (λ (t : List ℕ). insert_of t a) s.linked ∙ insert_links (has r) a r.own l s.own_low s.own_in))

-- the ring without an address but own
pub remove_is : (r : Ring) (a : ℕ) → SoundRing r → a < 126 → (a ≡ r.own → ⊥) → remove_of r a ≡ make r.own (take_out a (has r)) r.laps r.ready
unfolding remove_of make
remove_is r a s l n =
    rw (ne_eqb a r.own n, lt-ltb a 126 l)
    (ap (with_links r) (ap (λ (t : List ℕ). unlink_of t a) s.linked ∙ unlink_links (has r) a r.own l s.own_low (λ e. n (sym e)) s.own_in))

-- a pass is what it means for the set, whether the links say it already or not
pub witness_is : (r : Ring) (s d : ℕ) → SoundRing r → s < 126 → d < 126 → witness_of r s d ≡ passed r s d
unfolding witness_of passed counted make
witness_is r s d w ls ld = rw (lt-ltb s 126 ls, lt-ltb d 126 ld, ap (λ (t : List ℕ). confirms_of r.own t s d) w.linked ∙ confirms) (go (same_set (has r) f 126) refl)
  where
    f : ℕ → Bool
    f = keeps_all r.own s d (has r)

    confirms : confirms_of r.own (links_of (has r)) s d ≡ same_set (has r) f 126
    confirms = confirms_is (has r) r.own s d w.own_low w.own_in ls ld

    go : (b : Bool) → same_set (has r) f 126 ≡ b
        → cond (same_set (has r) f 126) (counted r true r.links s d) (counted r false (relink_of r.own r.links s d) s d) ≡ make r.own f (laps_of (same_set (has r) f 126) r.laps s d) (r.ready || leb 2 (laps_of (same_set (has r) f 126) r.laps s d))
    go true q = rw q (ap (λ (t : List ℕ). counted r true t s d) (w.linked ∙ links_same (has r) f (same_then (has r) f 126 q)))
    go false q =
        rw q (ap (λ (t : List ℕ). counted r false t s d) (ap (λ (t : List ℕ). relink_of r.own t s d) w.linked ∙ relink_links (has r) r.own s d w.own_low w.own_in ls ld))

-- a pass between addresses leaves own, counts laps, and sets ready at 2
pub witness_made : (r : Ring) (s d : ℕ) → SoundRing r → s < 126 → d < 126 → MadeWith (witness_of r s d) r.own (laps_after r s d) (r.ready || leb 2 (laps_after r s d))
unfolding passed
witness_made r s d w ls ld = rw (witness_is r s d w ls ld) (make_made r.own (keeps_all r.own s d (has r)) (laps_after r s d) (r.ready || leb 2 (laps_after r s d)))

-- a pass from an address above 125 changes nothing
pub witness_out_s : (r : Ring) (s d : ℕ) → 126 ≤ s → witness_of r s d ≡ r
unfolding witness_of
witness_out_s r s d l = rw (le-ltb s 126 l)

-- a pass to an address above 125 changes nothing
pub witness_out_d : (r : Ring) (s d : ℕ) → 126 ≤ d → witness_of r s d ≡ r
unfolding witness_of
witness_out_d r s d l = rw (le-ltb d 126 l, and-false (ltb s 126))

-- by whether a pass is seen
seen : (P : Ring → Type 0) (r : Ring) (s d : ℕ) → (s < 126 → d < 126 → P (witness_of r s d)) → P r → P (witness_of r s d)
seen P r s d h n = go (ltb s 126) (ltb d 126) refl refl
  where
    go : (a b : Bool) → ltb s 126 ≡ a → ltb d 126 ≡ b → P (witness_of r s d)
    go true true p q = h (ltb-true s 126 p) (ltb-true d 126 q)
    go true false p q = subst P (sym (witness_out_d r s d (ltb-false d 126 q))) n
    go false b p q = subst P (sym (witness_out_s r s d (ltb-false s 126 p))) n

-- Own never changes.

-- claiming leaves own
pub claim_own : (r : Ring) → (claim_of r).own ≡ r.own
claim_own r = (claim_made r).own_is

-- adding leaves own
pub add_own : (r : Ring) (a : ℕ) → (add_of r a).own ≡ r.own
add_own r a = (add_made r a).own_is

-- removing leaves own
pub remove_own : (r : Ring) (a : ℕ) → (remove_of r a).own ≡ r.own
remove_own r a = (remove_made r a).own_is

-- witnessing leaves own
pub witness_own : (r : Ring) (s d : ℕ) → (witness_of r s d).own ≡ r.own
unfolding witness_of counted
witness_own r s d = go (ltb s 126 && ltb d 126) (confirms_of r.own r.links s d)
  where
    go : (a b : Bool) → (cond a (cond b (counted r true r.links s d) (counted r false (relink_of r.own r.links s d) s d)) r).own ≡ r.own
    go true true = refl
    go true false = refl
    go false b = refl

-- Ready never goes back.

-- claiming sets ready
pub claim_ready : (r : Ring) → (claim_of r).ready ≡ true
claim_ready r = (claim_made r).ready_is

-- adding leaves ready
pub add_ready : (r : Ring) (a : ℕ) → (add_of r a).ready ≡ r.ready
add_ready r a = (add_made r a).ready_is

-- removing leaves ready
pub remove_ready : (r : Ring) (a : ℕ) → (remove_of r a).ready ≡ r.ready
remove_ready r a = (remove_made r a).ready_is

-- witnessing leaves ready set
pub witness_ready : (r : Ring) (s d : ℕ) → r.ready ≡ true → (witness_of r s d).ready ≡ true
unfolding witness_of counted
witness_ready r s d e = go (ltb s 126 && ltb d 126) (confirms_of r.own r.links s d)
  where
    go : (a b : Bool) → (cond a (cond b (counted r true r.links s d) (counted r false (relink_of r.own r.links s d) s d)) r).ready ≡ true
    go true true = rw e
    go true false = rw e
    go false b = e

-- Members after each call.

-- fresh: own only
pub fresh_has : (own x : ℕ) → x < 126 → has (fresh_of own) x ≡ eqb x own
unfolding fresh_of
fresh_has own x l = has_make own (only own) 0 false x l

-- the members after adding: the address, and those that were
pub add_has : (r : Ring) (a x : ℕ) → SoundRing r → a < 126 → x < 126 → has (add_of r a) x ≡ (eqb x a || has r x)
unfolding add_to
add_has r a x w la lx = ap (λ (q : Ring). has q x) (add_is r a w la) ∙ has_make r.own (add_to a (has r)) r.laps r.ready x lx

-- adding an address above 125 changes nothing
pub add_out : (r : Ring) (a : ℕ) → 126 ≤ a → add_of r a ≡ r
unfolding add_of
add_out r a l = rw (le-ltb a 126 l)

-- an address that was added is a member
pub add_same : (r : Ring) (a : ℕ) → SoundRing r → a < 126 → has (add_of r a) a ≡ true
add_same r a w l = add_has r a a w l l ∙ rw (eq-eqb a a refl)

-- adding changes no other address
pub add_other : (r : Ring) (a x : ℕ) → SoundRing r → x < 126 → (x ≡ a → ⊥) → has (add_of r a) x ≡ has r x
add_other r a x w l n = go (ltb a 126) refl
  where
    go : (b : Bool) → ltb a 126 ≡ b → has (add_of r a) x ≡ has r x
    go true q = add_has r a x w (ltb-true a 126 q) l ∙ rw (ne_eqb x a n)
    go false q = ap (λ (q' : Ring). has q' x) (add_out r a (ltb-false a 126 q))

-- removing an address above 125 changes nothing
pub remove_out : (r : Ring) (a : ℕ) → 126 ≤ a → remove_of r a ≡ r
unfolding remove_of
remove_out r a l = rw (le-ltb a 126 l) (go (eqb a r.own))
  where
    go : (b : Bool) → cond b r r ≡ r
    go true = refl
    go false = refl

-- the members after removing an address but own: those that were, without it
pub remove_has : (r : Ring) (a x : ℕ) → SoundRing r → x < 126 → (a ≡ r.own → ⊥) → has (remove_of r a) x ≡ (not (eqb x a) && has r x)
unfolding take_out
remove_has r a x w l n = go (ltb a 126) refl
  where
    go : (b : Bool) → ltb a 126 ≡ b → has (remove_of r a) x ≡ (not (eqb x a) && has r x)
    go true q = ap (λ (q' : Ring). has q' x) (remove_is r a w (ltb-true a 126 q) n) ∙ has_make r.own (take_out a (has r)) r.laps r.ready x l
    go false q =
        let far : x ≡ a → ⊥ = (λ e. let h = ltb-false a 126 q in omega arith) in
        ap (λ (q' : Ring). has q' x) (remove_out r a (ltb-false a 126 q)) ∙ rw (ne_eqb x a far)

-- an address but own that was removed is no member
pub remove_same : (r : Ring) (a : ℕ) → SoundRing r → a < 126 → (a ≡ r.own → ⊥) → has (remove_of r a) a ≡ false
remove_same r a w l n = remove_has r a a w l n ∙ rw (eq-eqb a a refl)

-- removing own changes nothing
pub remove_me : (r : Ring) → remove_of r r.own ≡ r
unfolding remove_of
remove_me r = rw (eq-eqb r.own r.own refl)

-- removing changes no other address
pub remove_other : (r : Ring) (a x : ℕ) → SoundRing r → x < 126 → (x ≡ a → ⊥) → has (remove_of r a) x ≡ has r x
remove_other r a x w l n = go (eqb a r.own) refl
  where
    go : (b : Bool) → eqb a r.own ≡ b → has (remove_of r a) x ≡ has r x
    go true q = ap (λ (o : ℕ). has (remove_of r o) x) (eqb-true a r.own q) ∙ ap (λ (q' : Ring). has q' x) (remove_me r)
    go false q = remove_has r a x w l (eqb-false a r.own q) ∙ rw (ne_eqb x a n)

-- witnessing: s and d are members, every member but own strictly between them is gone, the others are as they were
pub witness_has : (r : Ring) (s d x : ℕ) → SoundRing r → s < 126 → d < 126 → x < 126 → has (witness_of r s d) x ≡ keeps r.own s d (has r x) x
unfolding passed
witness_has r s d x w ls ld lx =
    ap (λ (q : Ring). has q x) (witness_is r s d w ls ld) ∙ has_make r.own (keeps_all r.own s d (has r)) (laps_after r s d) (r.ready || leb 2 (laps_after r s d)) x lx

-- the start of a pass is a member
pub witness_start : (r : Ring) (s d : ℕ) → SoundRing r → s < 126 → d < 126 → has (witness_of r s d) s ≡ true
witness_start r s d w ls ld = witness_has r s d s w ls ld ls ∙ keeps_start r.own s d (has r s) s refl

-- the end of a pass is a member
pub witness_end : (r : Ring) (s d : ℕ) → SoundRing r → s < 126 → d < 126 → has (witness_of r s d) d ≡ true
witness_end r s d w ls ld = witness_has r s d d w ls ld ld ∙ keeps_end r.own s d (has r d) d refl

-- what lies strictly between them is no member, own excepted
pub witness_between : (r : Ring) (s d x : ℕ) → SoundRing r → s < 126 → d < 126 → x < 126 → (x ≡ r.own → ⊥) → between_of s x d ≡ true → has (witness_of r s d) x ≡ false
witness_between r s d x w ls ld lx n b = witness_has r s d x w ls ld lx ∙ keeps_between r.own s d (has r x) x n b

-- what is neither end nor between them is as it was
pub witness_else : (r : Ring) (s d x : ℕ) → SoundRing r → s < 126 → d < 126 → x < 126 → (x ≡ s → ⊥) → (x ≡ d → ⊥) → between_of s x d ≡ false → has (witness_of r s d) x ≡ has r x
witness_else r s d x w ls ld lx ns nd b = witness_has r s d x w ls ld lx ∙ keeps_else r.own s d (has r x) x ns nd b

-- Laps.

-- a lap more does not lead above 2
pub round_low : (laps s d : ℕ) → laps ≤ 2 → round_of laps s d ≤ 2
unfolding round_of
round_low laps s d l = go (leb d s)
  where
    go : (b : Bool) → cond b (min 2 (laps + 1)) laps ≤ 2
    go true = omega arith
    go false = l

-- laps never rise above 2
pub laps_low : (same : Bool) (laps s d : ℕ) → laps ≤ 2 → laps_of same laps s d ≤ 2
unfolding laps_of
laps_low true laps s d l = round_low laps s d l
laps_low false laps s d l = round_low 0 s d (omega arith)

-- Every ring that calls make of a fresh one is sound.

-- a fresh ring is sound
pub sound_fresh : (own : ℕ) → own < 126 → SoundRing (fresh_of own)
unfolding fresh_of
sound_fresh own l = make_sound own (only own) 0 false l (eq-eqb own own refl) (omega arith)

-- claiming keeps a ring sound
pub sound_claim : (r : Ring) → SoundRing r → SoundRing (claim_of r)
unfolding claim_of has
sound_claim r s =
    let m = claim_made r in
    record {
      own_low = rw m.own_is s.own_low;
      own_in = ap (has (claim_of r)) m.own_is ∙ claim_has r r.own ∙ s.own_in;
      laps_two = rw m.laps_is s.laps_two;
      linked = unfold has in s.linked;
    }

-- adding keeps a ring sound
pub sound_add : (r : Ring) (a : ℕ) → SoundRing r → SoundRing (add_of r a)
unfolding add_to
sound_add r a s = go (ltb a 126) refl
  where
    go : (b : Bool) → ltb a 126 ≡ b → SoundRing (add_of r a)
    go true q =
        subst SoundRing (sym (add_is r a s (ltb-true a 126 q)))
        (make_sound r.own (add_to a (has r)) r.laps r.ready s.own_low (rw s.own_in (or-true (eqb r.own a))) s.laps_two)
    go false q = subst SoundRing (sym (add_out r a (ltb-false a 126 q))) s

-- removing keeps a ring sound
pub sound_remove : (r : Ring) (a : ℕ) → SoundRing r → SoundRing (remove_of r a)
unfolding take_out
sound_remove r a s = go (eqb a r.own) refl (ltb a 126) refl
  where
    go : (b : Bool) → eqb a r.own ≡ b → (c : Bool) → ltb a 126 ≡ c → SoundRing (remove_of r a)
    go true q c h = subst SoundRing (sym (ap (remove_of r) (eqb-true a r.own q) ∙ remove_me r)) s
    go false q true h =
        subst SoundRing (sym (remove_is r a s (ltb-true a 126 h) (eqb-false a r.own q)))
        (make_sound r.own (take_out a (has r)) r.laps r.ready s.own_low (rw (ne_eqb r.own a (λ e. eqb-false a r.own q (sym e))) s.own_in) s.laps_two)
    go false q false h = subst SoundRing (sym (remove_out r a (ltb-false a 126 h))) s

-- witnessing keeps a ring sound
pub sound_witness : (r : Ring) (s d : ℕ) → SoundRing r → SoundRing (witness_of r s d)
unfolding passed
sound_witness r s d w = seen SoundRing r s d pass w
  where
    pass : s < 126 → d < 126 → SoundRing (witness_of r s d)
    pass ls ld =
        subst SoundRing (sym (witness_is r s d w ls ld))
        (make_sound r.own (keeps_all r.own s d (has r)) (laps_after r s d) (r.ready || leb 2 (laps_after r s d)) w.own_low
        (ap (λ (b : Bool). keeps r.own s d b r.own) w.own_in ∙ keeps_me r.own s d)
        (laps_low (same_set (has r) (keeps_all r.own s d (has r)) 126) r.laps s d w.laps_two))

-- Calls in any order.

-- a call keeps a ring sound
pub sound_after : (r : Ring) (c : RingCall) → SoundRing r → SoundRing (after_call r c)
unfolding after_call
sound_after r claim s = sound_claim r s
sound_after r (add a) s = sound_add r a s
sound_after r (remove a) s = sound_remove r a s
sound_after r (witness a b) s = sound_witness r a b s

own_after : (r : Ring) (c : RingCall) → (after_call r c).own ≡ r.own
unfolding after_call
own_after r claim = claim_own r
own_after r (add a) = add_own r a
own_after r (remove a) = remove_own r a
own_after r (witness a b) = witness_own r a b

ready_after : (r : Ring) (c : RingCall) → r.ready ≡ true → (after_call r c).ready ≡ true
unfolding after_call
ready_after r claim e = claim_ready r
ready_after r (add a) e = add_ready r a ∙ e
ready_after r (remove a) e = remove_ready r a ∙ e
ready_after r (witness a b) e = witness_ready r a b e

sound_run : (cs : List RingCall) (r : Ring) → SoundRing r → SoundRing (after_calls r cs)
unfolding after_calls
sound_run [] r s = s
sound_run (c ∷ cs) r s = sound_run cs (after_call r c) (sound_after r c s)

-- every ring made by calls from fresh is sound
pub sound_made : (own : ℕ) (cs : List RingCall) → own < 126 → SoundRing (after_calls (fresh_of own) cs)
sound_made own cs l = sound_run cs (fresh_of own) (sound_fresh own l)

-- no call changes own
pub own_run : (cs : List RingCall) (r : Ring) → (after_calls r cs).own ≡ r.own
unfolding after_calls
own_run [] r = refl
own_run (c ∷ cs) r = own_run cs (after_call r c) ∙ own_after r c

-- whatever is called, a ready ring stays ready
pub ready_run : (cs : List RingCall) (r : Ring) → r.ready ≡ true → (after_calls r cs).ready ≡ true
unfolding after_calls
ready_run [] r e = e
ready_run (c ∷ cs) r e = ready_run cs (after_call r c) (ready_after r c e)

-- The other members.

-- the member after own is the first going up from it, own if it is alone
after_own : (r : Ring) → SoundRing r → after r.links r.own ≡ nearest true (has r) r.own
after_own r s = ap (λ (t : List ℕ). after t r.own) s.linked ∙ after_at (has r) r.own s.own_low s.own_in

-- previous is the first member going down from own, own if it is alone
pub previous_nearest : (r : Ring) → SoundRing r → prev_of r ≡ nearest false (has r) r.own
unfolding prev_of
previous_nearest r s =
    rw (lt-ltb r.own 126 s.own_low) (ap (λ (t : List ℕ). before t r.own) s.linked ∙ before_at (has r) r.own s.own_low s.own_in)

away : (own d : ℕ) → own < 126 → 1 ≤ d → d < 126 → up own d ≡ own → ⊥
away own d l m n e = omega arith

-- next is the first of the others, nobody if there is none
pub next_first : (r : Ring) → SoundRing r → next_of r ≡ first_of (others r)
unfolding next_of others
next_first r s = rw (lt-ltb r.own 126 s.own_low, after_own r s) (unfold nearest in go (walk (has r) (up r.own) 125 1) refl)
  where
    go : (os : List ℕ) → walk (has r) (up r.own) 125 1 ≡ os → cond (eqb (head_or r.own os) r.own) None (Some (head_or r.own os)) ≡ first_of os
    go [] e = rw (eq-eqb r.own r.own refl)
    go (x ∷ xs) e =
        let w = first (has r) (up r.own) 125 1 x xs e in
        let far : x ≡ r.own → ⊥ = (λ q. away r.own w.dist s.own_low w.low (omega (arith, w.sum)) (sym w.is ∙ q)) in
        rw (ne_eqb x r.own far)

-- next is the head of the others
pub next_is : (r : Ring) (x : ℕ) (xs : List ℕ) → SoundRing r → others r ≡ x ∷ xs → next_of r ≡ Some x
next_is r x xs s e = next_first r s ∙ ap first_of e

-- with no others next is nobody
pub next_alone : (r : Ring) → SoundRing r → others r ≡ [] → next_of r ≡ None
next_alone r s e = next_first r s ∙ ap first_of e

-- with others the first of them is their head
pub first_is : (r : Ring) (x : ℕ) (xs : List ℕ) → others r ≡ x ∷ xs → first_or_own r ≡ x
first_is r x xs e = ap (head_or r.own) e

-- with no others the first is own
pub first_alone : (r : Ring) → others r ≡ [] → first_or_own r ≡ r.own
first_alone r e = ap (head_or r.own) e

-- previous is the last of the others, own if there is none
pub previous_last : (r : Ring) → SoundRing r → prev_of r ≡ last_or r.own (others r)
unfolding nearest others
previous_last r s = previous_nearest r s ∙ last_walk (has r) r.own r.own 125 (omega arith)

-- each of the others is an address, a member, and not own
pub others_all : (r : Ring) → SoundRing r → All (Other r) (others r)
unfolding others
others_all r s = walk_all (Other r) (has r) (up r.own) 125 1 (λ e l u i. record { low = omega arith; in_set_lem = i; not_own = away r.own e s.own_low l (omega arith) })

-- so is their head
pub next_other : (r : Ring) (x : ℕ) (xs : List ℕ) → SoundRing r → others r ≡ x ∷ xs → Other r x
next_other r x xs s e = (subst (All (Other r)) e (others_all r s)).0

-- no address stands twice among the others
pub others_distinct : (r : Ring) → Distinct (others r)
unfolding others
others_distinct r = walk_distinct (has r) r.own 125 1 (omega arith)

-- there are at most 125 others
pub others_length : (r : Ring) → length (others r) ≤ 125
unfolding others
others_length r = walk_length (has r) (up r.own) 125 1

-- the first of the others, and own, is an address
pub first_low : (r : Ring) → SoundRing r → first_or_own r < 126
first_low r s = go (others r) refl
  where
    go : (os : List ℕ) → others r ≡ os → head_or r.own os < 126
    go [] e = s.own_low
    go (y ∷ ys) e = (next_other r y ys s e).low

-- and a member
pub first_in : (r : Ring) → SoundRing r → has r (first_or_own r) ≡ true
first_in r s = go (others r) refl
  where
    go : (os : List ℕ) → others r ≡ os → has r (head_or r.own os) ≡ true
    go [] e = s.own_in
    go (y ∷ ys) e = (next_other r y ys s e).in_set_lem

-- the number of the next station has 7 bits: an address or, for nobody, 127
pub next_number_low : (r : Ring) → SoundRing r → next_number (next_of r) < 2 ^ 7
next_number_low r s = go (others r) refl
  where
    go : (os : List ℕ) → others r ≡ os → next_number (next_of r) < 2 ^ 7
    go [] e = rw (next_alone r s e) (omega arith)
    go (y ∷ ys) e = rw (next_is r y ys s e) (omega (arith, (next_other r y ys s e).low))

-- no station has nobody's number
pub next_number_apart : (r : Ring) (x : ℕ) (xs : List ℕ) → SoundRing r → others r ≡ x ∷ xs → next_number (next_of r) ≡ next_number None → ⊥
next_number_apart r x xs s e n =
    let is : next_number (next_of r) ≡ x = ap next_number (next_is r x xs s e) in
    omega (arith, (next_other r x xs s e).low)

-- what holds of each of a list, and of z, holds of its last
pub last_all : (P : ℕ → Type 0) (z : ℕ) (xs : List ℕ) → P z → All P xs → P (last_or z xs)
last_all P z [] h a = h
last_all P z (x ∷ xs) h a = last_all P x xs a.0 a.1

-- a member and an address
abbrev Member : Ring → ℕ → Type 0
Member r x = (x < 126) × (has r x ≡ true)

all_members : (r : Ring) (xs : List ℕ) → All (Other r) xs → All (Member r) xs
all_members r [] a = tt
all_members r (x ∷ xs) a = ((a.0.low, a.0.in_set_lem), all_members r xs a.1)

previous_member : (r : Ring) → SoundRing r → Member r (prev_of r)
previous_member r s = subst (Member r) (sym (previous_last r s)) (last_all (Member r) r.own (others r) (s.own_low, s.own_in) (all_members r (others r) (others_all r s)))

-- previous is an address
pub previous_low : (r : Ring) → SoundRing r → prev_of r < 126
previous_low r s = (previous_member r s).0

-- previous is a member
pub previous_in : (r : Ring) → SoundRing r → has r (prev_of r) ≡ true
previous_in r s = (previous_member r s).1

-- next is nobody exactly if there is no other: this is one way, `next_alone` the other
pub alone : (r : Ring) → SoundRing r → next_of r ≡ None → others r ≡ []
alone r s n = go (others r) refl
  where
    go : (os : List ℕ) → others r ≡ os → others r ≡ []
    go [] e = e
    go (y ∷ ys) e = absurd (next_number_apart r y ys s e (ap next_number n))

-- then own is the only member
pub alone_has : (r : Ring) (x : ℕ) → SoundRing r → x < 126 → others r ≡ [] → has r x ≡ true → x ≡ r.own
unfolding others
alone_has r x s l e h = go (eqb x r.own) refl
  where
    go : (b : Bool) → eqb x r.own ≡ b → x ≡ r.own
    go true q = eqb-true x r.own q
    go false q =
        let n : x ≡ r.own → ⊥ = eqb-false x r.own q in
        let o = s.own_low in
        let back : up r.own (dist_of r.own x) ≡ x = omega arith in
        absurd (true≢false (sym h ∙ ap (has r) (sym back) ∙ nobody (has r) (up r.own) 125 1 e (dist_of r.own x) (omega arith) (omega arith)))

-- nothing lies strictly between own and the first of the others
pub gap : (r : Ring) (x : ℕ) → SoundRing r → x < 126 → between_of r.own x (first_or_own r) ≡ true → has r x ≡ false
unfolding others
gap r x s l b = go (others r) refl (between_on r.own x (first_or_own r) s.own_low l (first_low r s) b)
  where
    go : (os : List ℕ) → others r ≡ os → (0 < dist_of r.own x) × (dist_of r.own x < dist_of r.own (head_or r.own os)) → has r x ≡ false
    go [] e h = let o = s.own_low in absurd (omega arith)
    go (y ∷ ys) e h =
        let w = first (has r) (up r.own) 125 1 y ys e in
        let is : y ≡ up r.own w.dist = w.is in
        let o = s.own_low in
        let back : up r.own (dist_of r.own x) ≡ x = omega arith in
        rw back at (w.none (dist_of r.own x) (omega arith) (omega arith))

others_at : (r : Ring) (own : ℕ) → r.own ≡ own → others r ≡ walk (has r) (up own) 125 1
unfolding others
others_at r own e = ap (λ (o : ℕ). walk (has r) (up o) 125 1) e

up_low : (own d : ℕ) → up own d < 126
up_low own d = omega arith

-- rings that agree on own and on who is a member have the same others
pub others_same : (q r : Ring) → q.own ≡ r.own → ((x : ℕ) → x < 126 → has q x ≡ has r x) → others q ≡ others r
unfolding others
others_same q r e h = others_at q r.own e ∙ walk_ext (has q) (has r) (up r.own) 125 1 (λ n l u. h (up r.own n) (up_low r.own n))

-- a fresh ring has no others
pub others_fresh : (own : ℕ) → own < 126 → others (fresh_of own) ≡ []
others_fresh own l =
    others_at (fresh_of own) own (fresh_made own).own_is
    ∙ walk_nobody (has (fresh_of own)) (up own) 125 1
    (λ e m u. fresh_has own (up own e) (up_low own e) ∙ ne_eqb (up own e) own (away own e l m (omega arith)))

-- claiming changes no other
pub others_claim : (r : Ring) → others (claim_of r) ≡ others r
others_claim r = others_same (claim_of r) r (claim_own r) (λ x l. claim_has r x)

-- after an address but own is removed the others are those that were, in order, without it
pub others_without : (r : Ring) (a : ℕ) → SoundRing r → (a ≡ r.own → ⊥) → others (remove_of r a) ≡ without a (others r)
unfolding others
others_without r a w n =
    others_at (remove_of r a) r.own (remove_own r a)
    ∙ walk_without (has r) (has (remove_of r a)) (up r.own) a 125 1 (λ e l u. remove_has r a (up r.own e) w (up_low r.own e) n)

-- after their head is removed the others are their tail
pub others_remove : (r : Ring) (x : ℕ) (xs : List ℕ) → SoundRing r → others r ≡ x ∷ xs → others (remove_of r x) ≡ xs
others_remove r x xs s e =
    others_without r x s (next_other r x xs s e).not_own ∙ ap (without x) e ∙ without_head x xs (subst Distinct e (others_distinct r))

-- what the pass from own to the first of the others would leave is what there is
next_keeps : (r : Ring) (x : ℕ) → SoundRing r → x < 126 → keeps r.own r.own (first_or_own r) (has r x) x ≡ has r x
next_keeps r x s l = own (eqb x r.own) refl
  where
    to : ℕ
    to = first_or_own r

    mid : (b : Bool) → between_of r.own x to ≡ b → (x ≡ r.own → ⊥) → (x ≡ to → ⊥) → keeps r.own r.own to (has r x) x ≡ has r x
    mid true b o' nn = keeps_between r.own r.own to (has r x) x o' b ∙ sym (gap r x s l b)
    mid false b o' nn = keeps_else r.own r.own to (has r x) x o' nn b

    next : (b : Bool) → eqb x to ≡ b → (x ≡ r.own → ⊥) → keeps r.own r.own to (has r x) x ≡ has r x
    next true q o' = keeps_end r.own r.own to (has r x) x (eqb-true x to q) ∙ sym (ap (has r) (eqb-true x to q) ∙ first_in r s)
    next false q o' = mid (between_of r.own x to) refl o' (eqb-false x to q)

    own : (b : Bool) → eqb x r.own ≡ b → keeps r.own r.own to (has r x) x ≡ has r x
    own true q = keeps_start r.own r.own to (has r x) x (eqb-true x r.own q) ∙ sym (ap (has r) (eqb-true x r.own q) ∙ s.own_in)
    own false q = next (eqb x to) refl (eqb-false x r.own q)

-- the token that goes from own to the first of the others, to own if there is none, changes no member
pub witness_next : (r : Ring) (x : ℕ) → SoundRing r → x < 126 → has (witness_of r r.own (first_or_own r)) x ≡ has r x
witness_next r x s l = witness_has r r.own (first_or_own r) x s s.own_low (first_low r s) l ∙ next_keeps r x s l

-- nor the list of the others
pub others_witness : (r : Ring) → SoundRing r → others (witness_of r r.own (first_or_own r)) ≡ others r
others_witness r s = others_same (witness_of r r.own (first_or_own r)) r (witness_own r r.own (first_or_own r)) (λ x l. witness_next r x s l)

-- so who is next is answered after the pass as before it
pub next_witness : (r : Ring) → SoundRing r → next_of (witness_of r r.own (first_or_own r)) ≡ next_of r
next_witness r s =
    next_first (witness_of r r.own (first_or_own r)) (sound_witness r r.own (first_or_own r) s) ∙ ap first_of (others_witness r s) ∙ sym (next_first r s)

-- and laps go on from where they were
pub witness_laps : (r : Ring) → SoundRing r → (witness_of r r.own (first_or_own r)).laps ≡ round_of r.laps r.own (first_or_own r)
unfolding laps_of
witness_laps r w =
    (witness_made r r.own (first_or_own r) w w.own_low (first_low r w)).laps_is
    ∙ rw (same_if (has r) (keeps_all r.own r.own (first_or_own r) (has r)) 126 (λ x l. sym (next_keeps r x w l)))

-- The gap walk.

candidate_below : (a hsa : ℕ) → (candidate_of a hsa < hsa) ⊎ (candidate_of a hsa ≡ 0)
unfolding candidate_of
candidate_below a hsa = go (ltb (a + 1) hsa) refl
  where
    go : (b : Bool) → ltb (a + 1) hsa ≡ b → (cond b (a + 1) 0 < hsa) ⊎ (cond b (a + 1) 0 ≡ 0)
    go true q = inl (ltb-true (a + 1) hsa q)
    go false q = inr refl

polled : (r : Ring) (x : ℕ) → SoundRing r → polls r x ≡ true → (x < 126) × (x ≡ r.own → ⊥) × (has r x ≡ false)
unfolding polls
polled r x s e = low (ltb x 126) refl
  where
    lone : (b : Bool) → has r x ≡ b → (x ≡ r.own → ⊥) → x < 126 → others r ≡ [] → has r x ≡ false
    lone true h n l o = absurd (n (alone_has r x s l o h))
    lone false h n l o = h

    own : (b : Bool) → eqb x r.own ≡ b → not (eqb x r.own) ≡ true → x < 126 → others r ≡ [] → (x < 126) × (x ≡ r.own → ⊥) × (has r x ≡ false)
    own true q h l o = absurd (true≢false (sym (rw q at h)))
    own false q h l o = (l, eqb-false x r.own q, lone (has r x) refl (eqb-false x r.own q) l o)

    by : (os : List ℕ) → others r ≡ os → polls_on (first_of os) r.own x ≡ true → x < 126 → (x < 126) × (x ≡ r.own → ⊥) × (has r x ≡ false)
    by [] o h l = own (eqb x r.own) refl h l o
    by (y ∷ ys) o h l = (
      l,
      λ z. true≢false (sym h ∙ ap (λ (u : ℕ). between_of r.own u y) z ∙ between_start r.own y),
      gap r x s l (ap (λ (os : List ℕ). between_of r.own x (head_or r.own os)) o ∙ h),
    )

    low : (b : Bool) → ltb x 126 ≡ b → (x < 126) × (x ≡ r.own → ⊥) × (has r x ≡ false)
    low true l = by (others r) refl (ap (λ n. polls_on n r.own x) (sym (next_first r s)) ∙ (rw l at e)) (ltb-true x 126 l)
    low false l = absurd (true≢false (sym (rw l at e)))

-- when we are alone every address but own is polled
pub alone_polls : (r : Ring) (x : ℕ) → SoundRing r → others r ≡ [] → x < 126 → (x ≡ r.own → ⊥) → polls r x ≡ true
unfolding polls
alone_polls r x s e l n = rw (lt-ltb x 126 l, next_alone r s e, ne_eqb x r.own n)

-- what the gap walk polls is an address as `Polled` says
pub gap_polls_lem : (r : Ring) (a hsa x : ℕ) → SoundRing r → gap_of r a hsa ≡ DoPoll x → Polled r a hsa x
unfolding gap_of
gap_polls_lem r a hsa x s e = go (polls r (candidate_of a hsa)) refl
  where
    go : (b : Bool) → polls r (candidate_of a hsa) ≡ b → Polled r a hsa x
    go true q =
        let h : ◌≡◌ {A = GapState} (DoPoll (candidate_of a hsa)) (DoPoll x) = rw q at e in
        let is : x ≡ candidate_of a hsa = cc in
        let p = polled r (candidate_of a hsa) s q in
        record {
          is = is;
          below = rw is (candidate_below a hsa);
          low = rw is p.0;
          not_own = rw is p.1;
          not_in = rw is p.2;
        }
    go false q =
        let h : ◌≡◌ {A = GapState} (Waiting 0) (DoPoll x) = rw q at e in
        let z : ◌≡◌ {A = ℕ} 0 1 = cc in
        absurd (omega arith)
