-- Who next and previous are, without a search: next is the one member other than own with no member strictly between own and it
-- going up, and previous the one with no member strictly between it and own. The same laws for both.
use Rattle.std.specs.Prelude.{ℕ, ◌+◌, ◌<◌, ◌≤◌, ◌≡◌, refl, Bool, true, false, List, [], ◌∷◌, ltb, Some}
use Rattle.std.proofs.Common.{sym, ap, subst, ◌∙◌, arith, ltb-true, ltb-false}
use borrow.Table.Steps.{cases}
use Rattle.ring_addresses.specs.Set.{up, down, walk, head_or, last_or, nearest, between_of}
use Rattle.ring_addresses.specs.SetLaws.{true≢false, All, first, nobody, dist_of, between_on, between_end}
use Rattle.ring.specs.Ring.{Ring, has, others, next_of, prev_of}
use Rattle.ring_links.specs.Distances.{dist_low, dist_some, up_dist, dist_up, dist_by, between_from}
use Rattle.ring.specs.Laws.{SoundRing, Other}
use Rattle.ring.proofs.Laws.{others_all, last_all, next_is, previous_nearest, previous_last, previous_low, alone_has}

-- the other members going down from own
abbrev down_from : Ring → List ℕ
down_from r = walk (has r) (down r.own) 125 1

-- previous is the first of them, own if there is none
previous_head : (r : Ring) → SoundRing r → prev_of r ≡ head_or r.own (down_from r)
unfolding nearest
previous_head r s = previous_nearest r s

-- with no others previous is own
pub previous_alone : (r : Ring) → SoundRing r → others r ≡ [] → prev_of r ≡ r.own
previous_alone r s e = previous_last r s ∙ ap (last_or r.own) e

-- with others previous is one of them
pub previous_other : (r : Ring) (x : ℕ) (xs : List ℕ) → SoundRing r → others r ≡ x ∷ xs → Other r (prev_of r)
previous_other r x xs s e =
    let all = subst (All (Other r)) e (others_all r s) in
    subst (Other r) (sym (previous_last r s ∙ ap (last_or r.own) e)) (last_all (Other r) x xs all.0 all.1)

-- previous is own exactly if there is no other: this is one way, `previous_alone` the other
pub alone_previous : (r : Ring) → SoundRing r → prev_of r ≡ r.own → others r ≡ []
alone_previous r s n = go (others r) refl
  where
    go : (os : List ℕ) → others r ≡ os → others r ≡ []
    go [] e = e
    go (y ∷ ys) e = absurd ((previous_other r y ys s e).not_own n)

-- Distances.

down_back : (own x : ℕ) → own < 126 → x < 126 → down own (dist_of x own) ≡ x
down_back own x l m = omega arith

-- the address at distance d down from own, seen from x, which lies further down
dist_down : (own x d : ℕ) → own < 126 → x < 126 → d < dist_of x own → dist_of x (down own d) + d ≡ dist_of x own
dist_down own x d l m h = omega arith

-- back up from the address at distance e down
dist_back : (own e : ℕ) → own < 126 → e < 126 → dist_of (down own e) own ≡ e
dist_back own e l m = omega arith

-- A search finds the one member that it passes no member before.
found : (f : ℕ → Bool) (p : ℕ → ℕ) (y : ℕ) (ys : List ℕ) (x d : ℕ) → walk f p 125 1 ≡ y ∷ ys → x ≡ p d → 0 < d → d < 126 → f x ≡ true → ((e : ℕ) → 0 < e → e < d → f (p e) ≡ false) → x ≡ y
found f p y ys x d walked at some low in_set_lem none =
    let w = first f p 125 1 y ys walked in
    cases (ltb d w.dist)
    (λ t. absurd (true≢false (sym in_set_lem ∙ ap f at ∙ w.none d some (ltb-true _ _ t))))
    (λ t. cases (ltb w.dist d)
    (λ u. absurd (true≢false (sym w.in_set_lem ∙ ap f w.is ∙ none w.dist w.low (ltb-true _ _ u))))
    (λ u. at ∙ ap p (same (ltb-false _ _ t) (ltb-false _ _ u)) ∙ sym w.is))
  where
    same : {a b : ℕ} → b ≤ a → a ≤ b → a ≡ b
    same l m = omega arith

-- nothing lies strictly between previous and own
pub previous_gap : (r : Ring) (x : ℕ) → SoundRing r → x < 126 → between_of (prev_of r) x r.own ≡ true → has r x ≡ false
previous_gap r x s l b = go (down_from r) refl (between_on (prev_of r) x r.own (previous_low r s) l s.own_low b)
  where
    here : down r.own (dist_of x r.own) ≡ x
    here = down_back r.own x s.own_low l

    apart : (x ≡ r.own → ⊥)
    apart e = absurd (true≢false (sym b ∙ ap (λ (z : ℕ). between_of (prev_of r) z r.own) e ∙ between_end (prev_of r) r.own))

    less : {a b : ℕ} → a < b → a ≤ b
    less k = omega arith

    closer : (a c d e : ℕ) → c + a ≡ d → d ≡ e → 0 < a → (1 ≤ dist_of x r.own → dist_of x r.own < e → has r (down r.own (dist_of x r.own)) ≡ false) → c ≡ dist_of x r.own → has r x ≡ false
    closer a c d e sum back some none is = ap (has r) (sym here) ∙ none (dist_some x r.own l s.own_low apart) (omega arith)

    go : (os : List ℕ) → down_from r ≡ os → (0 < dist_of (prev_of r) x) × (dist_of (prev_of r) x < dist_of (prev_of r) r.own) → has r x ≡ false
    go [] e h = let n : prev_of r ≡ r.own = previous_head r s ∙ ap (head_or r.own) e in let o = s.own_low in absurd (omega arith)
    go (y ∷ ys) e h =
        let w = first (has r) (down r.own) 125 1 y ys e in
        let is : prev_of r ≡ down r.own w.dist = previous_head r s ∙ ap (head_or r.own) e ∙ w.is in
        let sum = dist_by (prev_of r) x r.own (previous_low r s) l s.own_low (less h.1) in
        let back : dist_of (prev_of r) r.own ≡ w.dist = ap (λ (a : ℕ). dist_of a r.own) is ∙ dist_back r.own w.dist s.own_low (omega (arith, w.sum)) in
        closer (dist_of (prev_of r) x) (dist_of x r.own) (dist_of (prev_of r) r.own) w.dist sum back h.0 (w.none (dist_of x r.own)) refl

-- next is the only one of the others with no member strictly between own and it
pub next_only : (r : Ring) (x : ℕ) → SoundRing r → Other r x → ((y : ℕ) → y < 126 → between_of r.own y x ≡ true → has r y ≡ false) → next_of r ≡ Some x
unfolding others
next_only r x s o none = go (others r) refl
  where
    own : ℕ
    own = r.own

    near : (e : ℕ) → 0 < e → e < dist_of own x → has r (up own e) ≡ false
    near e h k =
        let is = dist_up own e s.own_low (omega (arith, dist_low own x)) in
        none (up own e) (omega arith) (between_from own (up own e) x s.own_low (omega arith) o.low (subst (λ (n : ℕ). 0 < n) (sym is) h) (subst (λ (n : ℕ). n < dist_of own x) (sym is) k))

    go : (os : List ℕ) → others r ≡ os → next_of r ≡ Some x
    go [] e = absurd (o.not_own (alone_has r x s o.low e o.in_set_lem))
    go (y ∷ ys) e =
        next_is r y ys s e
        ∙ ap Some (sym (found (has r) (up own) y ys x (dist_of own x) e (sym (up_dist own x s.own_low o.low)) (dist_some own x s.own_low o.low (λ z. o.not_own (sym z))) (dist_low own x) o.in_set_lem near))

-- previous is the only one of the others with no member strictly between it and own
pub previous_only : (r : Ring) (x : ℕ) → SoundRing r → Other r x → ((y : ℕ) → y < 126 → between_of x y r.own ≡ true → has r y ≡ false) → x ≡ prev_of r
previous_only r x s o none = go (down_from r) refl
  where
    own : ℕ
    own = r.own

    far : ℕ
    far = dist_of x own

    near : (e : ℕ) → 0 < e → e < far → has r (down own e) ≡ false
    near e h k =
        let sum = dist_down own x e s.own_low o.low k in
        none (down own e) (omega arith) (between_from x (down own e) own o.low (omega arith) s.own_low (omega (arith, sum)) (omega (arith, sum)))

    here : x ≡ down own far
    here = sym (down_back own x s.own_low o.low)

    go : (os : List ℕ) → down_from r ≡ os → x ≡ prev_of r
    go [] e = absurd (true≢false (sym o.in_set_lem ∙ ap (has r) here ∙ nobody (has r) (down own) 125 1 e far (dist_some x own o.low s.own_low o.not_own) (dist_low x own)))
    go (y ∷ ys) e =
        found (has r) (down own) y ys x far e here (dist_some x own o.low s.own_low o.not_own) (dist_low x own) o.in_set_lem near
        ∙ sym (previous_head r s ∙ ap (head_or own) e)
