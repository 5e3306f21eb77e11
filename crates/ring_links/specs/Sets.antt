-- Laws that link a ring's tables to its set.
use Rattle.std.specs.Prelude.{ℕ, ◌+◌, ◌-◌, ◌<◌, ◌≡◌, refl, Bool, true, false, cond, not, List, [], ◌∷◌, length, get_or, ltb, eqb}
use Rattle.std.proofs.Common.{ap, ◌∙◌, arith, lt-ltb, le-ltb, ne_eqb, ltb-true, ltb-false}
use Rattle.ring_addresses.specs.Set.{up, place_of, walk, head_or, nearest, between_of}
use Rattle.ring_addresses.specs.SetLaws.{walk_ext, place_lt, first, dist_of, between_on}
use Rattle.ring_links.specs.Links.{after, before, listed, after_of, before_of, link_at, links_of}
use Rattle.ring_links.specs.Tables.{length_tab, tab_at, tab_ext, tab_is}

-- sets that agree on the addresses have the same neighbours
pub nearest_ext : (way : Bool) (f g : ℕ → Bool) (a : ℕ) → ((x : ℕ) → x < 126 → f x ≡ g x) → nearest way f a ≡ nearest way g a
unfolding nearest
nearest_ext way f g a h = ap (head_or a) (walk_ext f g (place_of way a) 125 1 (λ e l u. h (place_of way a e) (place_lt way a e)))

link_ext : (f g : ℕ → Bool) (i : ℕ) → i < 252 → ((x : ℕ) → x < 126 → f x ≡ g x) → link_at f i ≡ link_at g i
unfolding link_at after_of before_of
link_ext f g i l h = go (ltb i 126) refl
  where
    go : (b : Bool) → ltb i 126 ≡ b
        → cond (ltb i 126) (after_of f i) (before_of f (i - 126)) ≡ cond (ltb i 126) (after_of g i) (before_of g (i - 126))
    go true q = rw (q, h i (ltb-true i 126 q), nearest_ext true f g i h)
    go false q = let far = ltb-false i 126 q in rw (q, h (i - 126) (omega arith), nearest_ext false f g (i - 126) h)

-- sets that agree on the addresses have the same tables
pub links_same : (f g : ℕ → Bool) → ((x : ℕ) → x < 126 → f x ≡ g x) → links_of f ≡ links_of g
unfolding links_of
links_same f g h = tab_ext (link_at f) (link_at g) 252 (λ i l. link_ext f g i l h)

-- a list of 252 whose two halves are the entries is the tables
pub links_is : (f : ℕ → Bool) (l : List ℕ) → length l ≡ 252 → ((k : ℕ) → k < 126 → get_or l k 0 ≡ after_of f k) → ((k : ℕ) → k < 126 → get_or l (126 + k) 0 ≡ before_of f k) → l ≡ links_of f
unfolding links_of link_at
links_is f l e p q = tab_is 0 (link_at f) 252 l e (λ i m. go i m (ltb i 126) refl)
  where
    go : (i : ℕ) → i < 252 → (b : Bool) → ltb i 126 ≡ b → get_or l i 0 ≡ cond (ltb i 126) (after_of f i) (before_of f (i - 126))
    go i m true c = rw c (p i (ltb-true i 126 c))
    go i m false c =
        let far = ltb-false i 126 c in
        let back : 126 + (i - 126) ≡ i = omega arith in
        rw c (rw back at (q (i - 126) (omega arith)))

-- the entries of the tables of a set
pub after_links : (f : ℕ → Bool) (x : ℕ) → x < 126 → after (links_of f) x ≡ after_of f x
unfolding links_of link_at
after_links f x l = tab_at 0 (link_at f) 252 x (omega arith) ∙ rw (lt-ltb x 126 l)

pub before_links : (f : ℕ → Bool) (x : ℕ) → x < 126 → before (links_of f) x ≡ before_of f x
unfolding links_of link_at
before_links f x l =
    let back : 126 + x - 126 ≡ x = omega arith in
    tab_at 0 (link_at f) 252 (126 + x) (omega arith) ∙ rw (le-ltb (126 + x) 126 (omega arith), back)

-- of a member
pub after_at : (f : ℕ → Bool) (x : ℕ) → x < 126 → f x ≡ true → after (links_of f) x ≡ nearest true f x
unfolding after_of
after_at f x l h = after_links f x l ∙ rw h

pub before_at : (f : ℕ → Bool) (x : ℕ) → x < 126 → f x ≡ true → before (links_of f) x ≡ nearest false f x
unfolding before_of
before_at f x l h = before_links f x l ∙ rw h

-- of a non-member
pub after_none : (f : ℕ → Bool) (x : ℕ) → x < 126 → f x ≡ false → after (links_of f) x ≡ 127
unfolding after_of
after_none f x l h = after_links f x l ∙ rw h

pub before_none : (f : ℕ → Bool) (x : ℕ) → x < 126 → f x ≡ false → before (links_of f) x ≡ 127
unfolding before_of
before_none f x l h = before_links f x l ∙ rw h

-- there are 252
pub length_links : (f : ℕ → Bool) → length (links_of f) ≡ 252
unfolding links_of
length_links f = length_tab (link_at f) 252 0

-- a neighbour is an address
pub nearest_low : (way : Bool) (f : ℕ → Bool) (a : ℕ) → a < 126 → nearest way f a < 126
unfolding nearest
nearest_low way f a l = go (walk f (place_of way a) 125 1) refl
  where
    go : (os : List ℕ) → walk f (place_of way a) 125 1 ≡ os → head_or a (walk f (place_of way a) 125 1) < 126
    go [] e = rw e l
    go (y ∷ ys) e =
        let w = first f (place_of way a) 125 1 y ys e in
        rw (e, w.is) (place_lt way a w.dist)

-- the tables of a set list the set
pub listed_links : (f : ℕ → Bool) (x : ℕ) → x < 126 → listed (links_of f) x ≡ f x
unfolding listed
listed_links f x l = rw (lt-ltb x 126 l) (go (f x) refl)
  where
    go : (b : Bool) → f x ≡ b → not (eqb (get_or (links_of f) x 0) 127) ≡ f x
    go true q =
        let low : nearest true f x < 126 = nearest_low true f x l in
        rw (after_at f x l q, ne_eqb (nearest true f x) 127 (omega arith), q)
    go false q = rw (after_none f x l q, q)

-- the neighbour of a member is a member
pub nearest_in : (way : Bool) (f : ℕ → Bool) (a : ℕ) → f a ≡ true → f (nearest way f a) ≡ true
unfolding nearest
nearest_in way f a h = go (walk f (place_of way a) 125 1) refl
  where
    go : (os : List ℕ) → walk f (place_of way a) 125 1 ≡ os → f (head_or a (walk f (place_of way a) 125 1)) ≡ true
    go [] e = rw e h
    go (y ∷ ys) e =
        let w = first f (place_of way a) 125 1 y ys e in
        rw e w.in_set_lem

-- nothing lies strictly between an address and its neighbour going up
pub gap_at : (f : ℕ → Bool) (a x : ℕ) → a < 126 → x < 126 → between_of a x (nearest true f a) ≡ true → f x ≡ false
unfolding nearest
gap_at f a x la lx b = go (walk f (up a) 125 1) refl (between_on a x (nearest true f a) la lx (nearest_low true f a la) b)
  where
    go : (os : List ℕ) → walk f (up a) 125 1 ≡ os → (0 < dist_of a x) × (dist_of a x < dist_of a (head_or a (walk f (up a) 125 1))) → f x ≡ false
    go [] e h = let n : dist_of a x < dist_of a a = rw e at h.1 in absurd (omega arith)
    go (y ∷ ys) e h =
        let w = first f (up a) 125 1 y ys e in
        let is : y ≡ up a w.dist = w.is in
        let n : dist_of a x < dist_of a y = rw e at h.1 in
        let back : up a (dist_of a x) ≡ x = omega arith in
        rw back at (w.none (dist_of a x) (omega arith) (omega arith))
