-- The links of a sound ring close into a single cycle through own, and a non-member holds 127 in both tables.
use Rattle.std.specs.Prelude.{ℕ, zero, suc, ◌+◌, ◌-◌, ◌<◌, ◌≤◌, ◌≡◌, refl, Bool, true, false, cond, List, [], ◌∷◌, ◌⊎◌}
use Rattle.std.proofs.Common.{sym, ap, subst, ◌∙◌, arith, eq-or-lt_of_le, inl, inr}
use Rattle.ring_addresses.specs.Set.{up, walk, head_or, nearest}
use Rattle.ring_addresses.specs.SetLaws.{true≢false, first, nobody, dist_of, place_lt}
use Rattle.ring.specs.Ring.{Ring, after, before, has, others, fresh_of}
use Rattle.ring_links.specs.Sets.{after_at, before_at, after_none, before_none, nearest_low, nearest_in}
use Rattle.ring_links.specs.Near.{near_member, head_at_lem, there_and_back}
use Rattle.ring.specs.Laws.{SoundRing, RingCall, after_calls}
use Rattle.ring.proofs.Laws.{others_distinct, sound_made}
use Rattle.ring.specs.Cycle.{Link, Chain, Among, Linked}

-- the member after one at distance d from own: the first further up, else own
next_from : (f : ℕ → Bool) (own d k : ℕ) → own < 126 → f own ≡ true → suc d + k ≡ 126 → nearest true f (up own d) ≡ head_or own (walk f (up own) k (suc d))
unfolding nearest
next_from f own d k l h s = go (walk f (up own) k (suc d)) refl
  where
    go : (os : List ℕ) → walk f (up own) k (suc d) ≡ os → head_or (up own d) (walk f (up (up own d)) 125 1) ≡ head_or own (walk f (up own) k (suc d))
    go (y ∷ ys) e =
        let w = first f (up own) k (suc d) y ys e in
        let low : suc d ≤ w.dist = w.low in
        let sum : suc w.dist + w.left ≡ suc d + k = w.sum in
        let there : up (up own d) (1 + (w.dist - suc d)) ≡ up own w.dist = omega arith in
        let is : y ≡ up own w.dist = w.is in
        rw e
        (head_at_lem f (up (up own d)) (up own d) 125 1 (w.dist - suc d) (omega arith) (rw (there, sym is) w.in_set_lem)
        (λ i m.
        let same : up (up own d) (1 + i) ≡ up own (suc d + i) = omega arith in
        rw same (w.none (suc d + i) (omega arith) (omega arith)))
        ∙ there
        ∙ sym is)
    go [] e = rw e (alone d refl)
      where
        alone : (d' : ℕ) → d ≡ d' → head_or (up own d) (walk f (up (up own d)) 125 1) ≡ own
        alone zero q =
            let here : up own d ≡ own = omega arith in
            let full : k ≡ 125 = omega arith in
            let one : suc d ≡ 1 = omega arith in
            rw here (ap (head_or own) (rw (full, one) at e))
        alone (suc c) q =
            let home : up (up own d) (1 + (125 - d)) ≡ own = omega arith in
            head_at_lem f (up (up own d)) (up own d) 125 1 (125 - d) (omega arith) (rw home h)
            (λ i m.
            let same : up (up own d) (1 + i) ≡ up own (suc d + i) = omega arith in
            rw same (nobody f (up own) k (suc d) e (suc d + i) (omega arith) (omega arith)))
            ∙ home

-- each member is linked with the one after it
link : (r : Ring) (x : ℕ) → SoundRing r → x < 126 → has r x ≡ true → Link r.links x (nearest true (has r) x)
link r x s l h = (
  ap (λ (t : List ℕ). after t x) s.linked ∙ after_at (has r) x l h,
  ap (λ (t : List ℕ). before t (nearest true (has r) x)) s.linked
      ∙ before_at (has r) (nearest true (has r) x) (nearest_low true (has r) x l) (nearest_in true (has r) x h)
      ∙ there_and_back true (has r) x l h,
)

chain : (r : Ring) (d k : ℕ) (ys : List ℕ) → SoundRing r → suc d + k ≡ 126 → has r (up r.own d) ≡ true → walk (has r) (up r.own) k (suc d) ≡ ys
    → Chain r.links (up r.own d) ys r.own
chain r d k [] s e h q =
    subst (λ (y : ℕ). Link r.links (up r.own d) y) (next_from (has r) r.own d k s.own_low s.own_in e ∙ ap (head_or r.own) q)
    (link r (up r.own d) s (place_lt true r.own d) h)
chain r d k (y ∷ ys) s e h q =
    let w = first (has r) (up r.own) k (suc d) y ys q in (
      subst (λ (z : ℕ). Link r.links (up r.own d) z) (next_from (has r) r.own d k s.own_low s.own_in e ∙ ap (head_or r.own) q)
          (link r (up r.own d) s (place_lt true r.own d) h),
      subst (λ (z : ℕ). Chain r.links z ys r.own) (sym w.is)
          (chain r w.dist w.left ys s (w.sum ∙ e) (subst (λ (z : ℕ). has r z ≡ true) w.is w.in_set_lem) (sym w.rest)),
    )

-- what a walk passes it has met
among_walk : (f : ℕ → Bool) (p : ℕ → ℕ) (k d e : ℕ) → d ≤ e → e < d + k → f (p e) ≡ true → Among (p e) (walk f p k d)
unfolding walk
among_walk f p zero d e l u h = absurd (omega arith)
among_walk f p (suc k) d e l u h = go (f (p d)) refl (λ more. among_walk f p k (suc d) e more (omega arith) h) (eq-or-lt_of_le l)
  where
    go : (b : Bool) → f (p d) ≡ b → (suc d ≤ e → Among (p e) (walk f p k (suc d))) → (d ≡ e) ⊎ (d < e) → Among (p e) (cond b (p d ∷ walk f p k (suc d)) (walk f p k (suc d)))
    go true q on (inl same) = inl (ap p (sym same))
    go true q on (inr more) = inr (on more)
    go false q on (inl same) = absurd (true≢false (sym h ∙ ap (λ (n : ℕ). f (p n)) (sym same) ∙ q))
    go false q on (inr more) = on more

-- a sound ring is one cycle
pub linked : (r : Ring) → SoundRing r → Linked r
unfolding others
linked r s =
    record {
      own_in = s.own_in;
      both_in = λ x l h. (ap (has r) (next x l h) ∙ near_member true (has r) x x l l h, ap (has r) (last x l h) ∙ near_member false (has r) x x l l h);
      undone = λ x l h. (
        ap (before r.links) (next x l h) ∙ last (nearest true (has r) x) (nearest_low true (has r) x l) (near_member true (has r) x x l l h) ∙ there_and_back true (has r) x l h,
        ap (after r.links) (last x l h) ∙ next (nearest false (has r) x) (nearest_low false (has r) x l) (near_member false (has r) x x l l h) ∙ there_and_back false (has r) x l h,
      );
      out = λ x l h. (
        ap (λ (t : List ℕ). after t x) s.linked ∙ after_none (has r) x l h,
        ap (λ (t : List ℕ). before t x) s.linked ∙ before_none (has r) x l h,
      );
      low = λ x l h. (rw (next x l h) (nearest_low true (has r) x l), rw (last x l h) (nearest_low false (has r) x l));
      cycle =
          subst (λ (z : ℕ). Chain r.links z (walk (has r) (up r.own) 125 1) r.own) here
          (chain r 0 125 (walk (has r) (up r.own) 125 1) s refl (rw here s.own_in) refl);
      each = λ x o.
          let far = o.not_own in
          let l = o.low in
          let m = s.own_low in
          let back : up r.own (dist_of r.own x) ≡ x = omega arith in
          subst (λ (z : ℕ). Among z (walk (has r) (up r.own) 125 1)) back (among_walk (has r) (up r.own) 125 1 (dist_of r.own x) (some r.own x m l far) (omega arith) (ap (has r) back ∙ o.in_set_lem));
      once = others_distinct r;
    }
  where
    here : up r.own 0 ≡ r.own
    here = let l = s.own_low in omega arith

    some : (a x : ℕ) → a < 126 → x < 126 → (x ≡ a → ⊥) → 1 ≤ dist_of a x
    some a x l m n = omega arith

    next : (x : ℕ) → x < 126 → has r x ≡ true → after r.links x ≡ nearest true (has r) x
    next x l h = ap (λ (t : List ℕ). after t x) s.linked ∙ after_at (has r) x l h

    last : (x : ℕ) → x < 126 → has r x ≡ true → before r.links x ≡ nearest false (has r) x
    last x l h = ap (λ (t : List ℕ). before t x) s.linked ∙ before_at (has r) x l h

-- document 02: after any sequence of ring calls from fresh the links close into a single cycle through own
pub linked_made : (own : ℕ) (cs : List RingCall) → own < 126 → Linked (after_calls (fresh_of own) cs)
linked_made own cs l = linked (after_calls (fresh_of own) cs) (sound_made own cs l)
