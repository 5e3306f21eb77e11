-- Laws of sets of addresses: they say nothing of how a ring is kept.
use Rattle.std.specs.Prelude.{ℕ, zero, suc, ◌+◌, ◌-◌, ◌%◌, ◌<◌, ◌≤◌, ◌≡◌, refl, Bool, true, false, cond, not, ◌&&◌, ◌||◌, List, [], ◌∷◌, ◌++◌, ◌⊎◌, length, ltb, eqb}
use Rattle.std.proofs.Common.{sym, ap, subst, ◌∙◌, ⊎_elim, inl, inr, eq-or-lt_of_le, add-zero, arith, add-one, lt-ltb, le-ltb, eq-eqb, ne_eqb, ltb-true, ltb-false, eqb-true}
use Rattle.std.proofs.Math.Bool.{and-false, or-true}
use Rattle.std.proofs.lemmas.Bool.{eqb-false}
use Rattle.ring_addresses.specs.Set.{up, down, place_of, walk, head_or, last_or, between_of, keeps, eq_b, same_set}

-- the two truth values differ
pub true≢false : true ≡ false → ⊥
true≢false e = let z : ◌≡◌ {A = ℕ} 0 1 = cc in omega arith

-- both of two that hold together
pub and_left : (a b : Bool) → a && b ≡ true → a ≡ true
and_left true b e = refl
and_left false b e = e

pub and_right : (a b : Bool) → a && b ≡ true → b ≡ true
and_right true b e = e
and_right false b e = absurd (true≢false (sym e))

-- Walks.

-- one step of a walk that ends before distance n: a member
pub walk_stop : (f : ℕ → Bool) (p : ℕ → ℕ) (n d : ℕ) → d < n → f (p d) ≡ true → walk f p (n - d) d ≡ p d ∷ walk f p (n - (d + 1)) (d + 1)
unfolding walk
walk_stop f p n d l h =
    let more : n - d ≡ suc (n - (d + 1)) = omega arith in
    rw more (simp (h, add-one))

-- one step of it: no member
pub walk_pass : (f : ℕ → Bool) (p : ℕ → ℕ) (n d : ℕ) → d < n → f (p d) ≡ false → walk f p (n - d) d ≡ walk f p (n - (d + 1)) (d + 1)
unfolding walk
walk_pass f p n d l h =
    let more : n - d ≡ suc (n - (d + 1)) = omega arith in
    rw more (simp (h, add-one))

-- at distance n there is nothing left
pub walk_end : (f : ℕ → Bool) (p : ℕ → ℕ) (n d : ℕ) → n ≤ d → walk f p (n - d) d ≡ []
unfolding walk
walk_end f p n d l =
    let none : n - d ≡ 0 = omega arith in
    rw none

-- a place is an address
pub place_lt : (way : Bool) (own d : ℕ) → place_of way own d < 126
place_lt true own d = omega arith
place_lt false own d = omega arith

-- the place behind a place
pub place_on : (way : Bool) (own d e : ℕ) → d + e ≤ 126 → place_of way (place_of way own d) e ≡ place_of way own (d + e)
place_on true own d e l = omega arith
place_on false own d e l = omega arith

-- two sets that agree on the k places from distance d on have the same walk
pub walk_ext : (f g : ℕ → Bool) (p : ℕ → ℕ) (k d : ℕ) → ((e : ℕ) → d ≤ e → e < d + k → f (p e) ≡ g (p e)) → walk f p k d ≡ walk g p k d
unfolding walk
walk_ext f g p zero d h = refl
walk_ext f g p (suc k) d h =
    let rest : walk f p k (suc d) ≡ walk g p k (suc d) = walk_ext f g p k (suc d) (λ e l u. h e (omega arith) (omega arith)) in
    let here : f (p d) ≡ g (p d) = h d (omega arith) (omega arith) in
    rw (here, rest)

-- a walk of k places meets at most k members
pub walk_length : (f : ℕ → Bool) (p : ℕ → ℕ) (k d : ℕ) → length (walk f p k d) ≤ k
unfolding walk
walk_length f p zero d = omega arith
walk_length f p (suc k) d = go (f (p d)) (walk_length f p k (suc d))
  where
    go : (b : Bool) → length (walk f p k (suc d)) ≤ k → length (cond b (p d ∷ walk f p k (suc d)) (walk f p k (suc d))) ≤ suc k
    go true h = omega arith
    go false h = omega arith

-- a walk that is not empty: the distance of its head, before which the set has nothing, and after which the rest is walked
pub record First (f : ℕ → Bool) (p : ℕ → ℕ) (k d x : ℕ) (xs : List ℕ) : Type 0 where
  pub dist : ℕ
  pub left : ℕ
  pub low : d ≤ dist
  pub sum : suc dist + left ≡ d + k
  pub is : x ≡ p dist
  pub in_set_lem : f x ≡ true
  pub none : (e : ℕ) → d ≤ e → e < dist → f (p e) ≡ false
  pub rest : xs ≡ walk f p left (suc dist)

-- an empty list has no head
pub empty : (x : ℕ) (xs : List ℕ) → ◌≡◌ {A = List ℕ} [] (x ∷ xs) → ⊥
empty x xs e = let z : ◌≡◌ {A = ℕ} 0 1 = cc in omega arith

stop : (f : ℕ → Bool) (p : ℕ → ℕ) (k d x : ℕ) (xs : List ℕ) → f (p d) ≡ true → p d ∷ walk f p k (suc d) ≡ x ∷ xs → First f p (suc k) d x xs
stop f p k d x xs q e =
    let is : x ≡ p d = cc in
    record {
      dist = d;
      left = k;
      low = omega arith;
      sum = omega arith;
      is = is;
      in_set_lem = ap f is ∙ q;
      none = λ e l u. absurd (omega arith);
      rest = cc;
    }

skip : (f : ℕ → Bool) (p : ℕ → ℕ) (k d x : ℕ) (xs : List ℕ) → f (p d) ≡ false → First f p k (suc d) x xs → First f p (suc k) d x xs
skip f p k d x xs q w =
    record {
      dist = w.dist;
      left = w.left;
      low = omega arith;
      sum = omega arith;
      is = w.is;
      in_set_lem = w.in_set_lem;
      none = λ e l u. ⊎_elim (λ same. subst (λ (n : ℕ). f (p n) ≡ false) same q) (λ more. w.none e more u) (eq-or-lt_of_le l);
      rest = w.rest;
    }

-- a walk that is not empty has a first member
pub first : (f : ℕ → Bool) (p : ℕ → ℕ) (k d x : ℕ) (xs : List ℕ) → walk f p k d ≡ x ∷ xs → First f p k d x xs
unfolding walk
first f p zero d x xs e = absurd (empty x xs e)
first f p (suc k) d x xs e = go (f (p d)) refl (λ e'. first f p k (suc d) x xs e')
  where
    go : (b : Bool) → f (p d) ≡ b → (walk f p k (suc d) ≡ x ∷ xs → First f p k (suc d) x xs) → First f p (suc k) d x xs
    go true q ih = stop f p k d x xs q (rw q at e)
    go false q ih = skip f p k d x xs q (ih (rw q at e))

-- an empty walk: no place has a member
pub nobody : (f : ℕ → Bool) (p : ℕ → ℕ) (k d : ℕ) → walk f p k d ≡ [] → (e : ℕ) → d ≤ e → e < d + k → f (p e) ≡ false
unfolding walk
nobody f p zero d q e l u = absurd (omega arith)
nobody f p (suc k) d q e l u = go (f (p d)) refl (λ q' l'. nobody f p k (suc d) q' e l' (omega arith))
  where
    go : (b : Bool) → f (p d) ≡ b → (walk f p k (suc d) ≡ [] → suc d ≤ e → f (p e) ≡ false) → f (p e) ≡ false
    go true h ih = absurd (empty _ _ (sym (rw h at q)))
    go false h ih = ⊎_elim (λ same. subst (λ (n : ℕ). f (p n) ≡ false) same h) (λ more. ih (rw h at q) more) (eq-or-lt_of_le l)

-- where no place has a member the walk is empty
pub walk_nobody : (f : ℕ → Bool) (p : ℕ → ℕ) (k d : ℕ) → ((e : ℕ) → d ≤ e → e < d + k → f (p e) ≡ false) → walk f p k d ≡ []
unfolding walk
walk_nobody f p zero d h = refl
walk_nobody f p (suc k) d h =
    rw (h d (omega arith) (omega arith)) (walk_nobody f p k (suc d) (λ e l u. h e (omega arith) (omega arith)))

-- a property of each address of a list
abbrev pub All : (ℕ → Type 0) → List ℕ → Type 0
All P [] = Unit {0}
All P (x ∷ xs) = P x × All P xs

-- what holds of every member at its place holds of all that a walk meets
pub walk_all : (P : ℕ → Type 0) (f : ℕ → Bool) (p : ℕ → ℕ) (k d : ℕ) → ((e : ℕ) → d ≤ e → e < d + k → f (p e) ≡ true → P (p e)) → All P (walk f p k d)
unfolding walk
walk_all P f p zero d h = tt
walk_all P f p (suc k) d h = go (f (p d)) refl (walk_all P f p k (suc d) (λ e l u. h e (omega arith) (omega arith)))
  where
    go : (b : Bool) → f (p d) ≡ b → All P (walk f p k (suc d)) → All P (cond b (p d ∷ walk f p k (suc d)) (walk f p k (suc d)))
    go true q ih = (h d (omega arith) (omega arith) q, ih)
    go false q ih = ih

-- no address twice
abbrev pub Distinct : List ℕ → Type 0
Distinct [] = Unit {0}
Distinct (x ∷ xs) = All (λ y. x ≡ y → ⊥) xs × Distinct xs

-- two distances below 126 with one address are one distance
up_inj : (own d e : ℕ) → d < 126 → e < 126 → up own d ≡ up own e → d ≡ e
up_inj own d e p q h = omega arith

apart : (own d e : ℕ) → e < 126 → d < e → up own d ≡ up own e → ⊥
apart own d e p q s = let same : d ≡ e = up_inj own d e (omega arith) p s in omega arith

-- a walk of at most one round meets no address twice
pub walk_distinct : (f : ℕ → Bool) (own k d : ℕ) → d + k ≤ 126 → Distinct (walk f (up own) k d)
unfolding walk
walk_distinct f own zero d m = tt
walk_distinct f own (suc k) d m = go (f (up own d)) (walk_distinct f own k (suc d) (omega arith))
  where
    go : (b : Bool) → Distinct (walk f (up own) k (suc d)) → Distinct (cond b (up own d ∷ walk f (up own) k (suc d)) (walk f (up own) k (suc d)))
    go true ih = (walk_all (λ y. up own d ≡ y → ⊥) f (up own) k (suc d) (λ e l u i. apart own d e (omega arith) (omega arith)), ih)
    go false ih = ih

-- the list without an address
abbrev pub without : ℕ → List ℕ → List ℕ
without a [] = []
without a (x ∷ xs) = cond (eqb x a) (without a xs) (x ∷ without a xs)

-- a set without an address walks the list without it
pub walk_without : (f g : ℕ → Bool) (p : ℕ → ℕ) (a k d : ℕ) → ((e : ℕ) → d ≤ e → e < d + k → g (p e) ≡ (not (eqb (p e) a) && f (p e))) → walk g p k d ≡ without a (walk f p k d)
unfolding walk
walk_without f g p a zero d h = refl
walk_without f g p a (suc k) d h = rw (h d (omega arith) (omega arith), walk_without f g p a k (suc d) (λ e l u. h e (omega arith) (omega arith))) (go (f (p d)) (eqb (p d) a) refl)
  where
    rest : List ℕ
    rest = walk f p k (suc d)

    go : (b c : Bool) → eqb (p d) a ≡ c
        → cond (not (eqb (p d) a) && b) (p d ∷ without a rest) (without a rest) ≡ without a (cond b (p d ∷ rest) rest)
    go true true q = rw q
    go true false q = rw q
    go false true q = rw q
    go false false q = rw q

without_none : (a : ℕ) (xs : List ℕ) → All (λ y. a ≡ y → ⊥) xs → without a xs ≡ xs
without_none a [] h = refl
without_none a (x ∷ xs) h = rw (ne_eqb x a (λ e. h.0 (sym e)), without_none a xs h.1)

-- without its head a list of distinct addresses is its tail
pub without_head : (x : ℕ) (xs : List ℕ) → Distinct (x ∷ xs) → without x (x ∷ xs) ≡ xs
without_head x xs h = rw (eq-eqb x x refl) (without_none x xs h.0)

-- The last place of a walk going up is the first one going down.

push : (b : Bool) (x : ℕ) (l m : List ℕ) → cond b (x ∷ (l ++ m)) (l ++ m) ≡ cond b (x ∷ l) l ++ m
push true x l m = refl
push false x l m = refl

abbrev one : (ℕ → Bool) → ℕ → List ℕ
one f x = cond (f x) (x ∷ []) []

snoc : (f : ℕ → Bool) (p : ℕ → ℕ) (k d : ℕ) → walk f p (suc k) d ≡ walk f p k d ++ one f (p (d + k))
unfolding walk
snoc f p zero d = simp add-zero
snoc f p (suc k) d =
    ap (λ (l : List ℕ). cond (f (p d)) (p d ∷ l) l) (snoc f p k (suc d))
    ∙ push (f (p d)) (p d) (walk f p k (suc d)) (one f (p (suc d + k)))
    ∙ ap (λ (e : ℕ). walk f p (suc k) d ++ one f (p e)) (omega arith)

last_more : (b : Bool) (z x : ℕ) (l : List ℕ) → last_or z (l ++ cond b (x ∷ []) []) ≡ cond b x (last_or z l)
last_more true z x [] = refl
last_more false z x [] = refl
last_more b z x (y ∷ l) = last_more b y x l

head_cond : (b : Bool) (z x : ℕ) (l : List ℕ) → head_or z (cond b (x ∷ l) l) ≡ cond b x (head_or z l)
head_cond true z x l = refl
head_cond false z x l = refl

turned : (own k : ℕ) → k < 126 → down own (125 - k) ≡ up own (suc k)
turned own k l = omega arith

-- the first member met going down is the last one met going up
pub last_walk : (f : ℕ → Bool) (own z k : ℕ) → k ≤ 125 → head_or z (walk f (down own) k (126 - k)) ≡ last_or z (walk f (up own) k 1)
unfolding walk
last_walk f own z zero l = refl
last_walk f own z (suc k) l =
    let here : 126 - suc k ≡ 125 - k = omega arith in
    let next : suc (125 - k) ≡ 126 - k = omega arith in
    let end : 1 + k ≡ suc k = omega arith in
    ap (λ (d : ℕ). head_or z (walk f (down own) (suc k) d)) here
    ∙ head_cond (f (down own (125 - k))) z (down own (125 - k)) (walk f (down own) k (suc (125 - k)))
    ∙ ap (λ (a : ℕ). cond (f a) a (head_or z (walk f (down own) k (suc (125 - k))))) (turned own k (omega arith))
    ∙ ap (λ (d : ℕ). cond (f (up own (suc k))) (up own (suc k)) (head_or z (walk f (down own) k d))) next
    ∙ ap (cond (f (up own (suc k))) (up own (suc k))) (last_walk f own z k (omega arith))
    ∙ sym
    (ap (last_or z) (snoc f (up own) k 1)
    ∙ ap (λ (d : ℕ). last_or z (walk f (up own) k 1 ++ one f (up own d))) end
    ∙ last_more (f (up own (suc k))) z (up own (suc k)) (walk f (up own) k 1))

-- What lies between.

-- how far up from a to b
abbrev pub dist_of : ℕ → ℕ → ℕ
dist_of a b = (b + 126 - a) % 126

-- x is nearer to a, going up, than b, and is not a
abbrev pub nearer : ℕ → ℕ → ℕ → Bool
nearer a x b = ltb 0 (dist_of a x) && ltb (dist_of a x) (dist_of a b)

nearer_on : (a x b : ℕ) → 0 < dist_of a x → dist_of a x < dist_of a b → nearer a x b ≡ true
nearer_on a x b l m = rw (lt-ltb 0 (dist_of a x) l, lt-ltb (dist_of a x) (dist_of a b) m)

nearer_off : (a x b : ℕ) → dist_of a b ≤ dist_of a x → nearer a x b ≡ false
nearer_off a x b l = rw (le-ltb (dist_of a x) (dist_of a b) l) (and-false (ltb 0 (dist_of a x)))

-- x at or below a, and not below b where that is below a
nearer_back : (a x b : ℕ) → a < 126 → x ≤ a → b < 126 → (b ≤ x) ⊎ (a < b) → nearer a x b ≡ false
nearer_back a x b la l lb h = go (eqb x a) refl
  where
    go : (c : Bool) → eqb x a ≡ c → nearer a x b ≡ false
    go true q =
        let e = eqb-true x a q in
        rw (le-ltb 0 (dist_of a x) (omega arith))
    go false q =
        let n : x ≡ a → ⊥ = eqb-false x a q in
        ⊎_elim (λ m. nearer_off a x b (omega arith)) (λ m. nearer_off a x b (omega arith)) h

-- what lies strictly between a and b going up is what is nearer to a than b
pub between_is : (a x b : ℕ) → a < 126 → x < 126 → b < 126 → between_of a x b ≡ nearer a x b
unfolding between_of
between_is a x b la lx lb = go (ltb a b) refl (eqb a b) refl (ltb a x) refl (ltb x b) refl
  where
    go : (p : Bool) → ltb a b ≡ p → (q : Bool) → eqb a b ≡ q → (u : Bool) → ltb a x ≡ u → (v : Bool) → ltb x b ≡ v
        → cond (ltb a b) (cond (ltb a x) (ltb x b) false) (cond (eqb a b) false (cond (ltb a x) true (ltb x b))) ≡ nearer a x b
    go true p q' q true u true v =
        let h = ltb-true a x u in
        let k = ltb-true x b v in
        rw (p, u, v) (sym (nearer_on a x b (omega arith) (omega arith)))
    go true p q' q true u false v =
        let h = ltb-true a x u in
        let k = ltb-false x b v in
        let m = ltb-true a b p in
        rw (p, u, v) (sym (nearer_off a x b (omega arith)))
    go true p q' q false u v' v = rw (p, u) (sym (nearer_back a x b la (ltb-false a x u) lb (inr (ltb-true a b p))))
    go false p true q u' u v' v =
        let e = eqb-true a b q in
        rw (p, q) (sym (nearer_off a x b (omega arith)))
    go false p false q true u v' v =
        let h = ltb-true a x u in
        let k = ltb-false a b p in
        let n : a ≡ b → ⊥ = eqb-false a b q in
        rw (p, q, u) (sym (nearer_on a x b (omega arith) (omega arith)))
    go false p false q false u true v =
        let h = ltb-true x b v in
        let k = ltb-false a b p in
        let n : a ≡ b → ⊥ = eqb-false a b q in
        rw (p, q, u, v) (sym (nearer_on a x b (omega arith) (omega arith)))
    go false p false q false u false v = rw (p, q, u, v) (sym (nearer_back a x b la (ltb-false a x u) lb (inl (ltb-false x b v))))

-- so its distance lies between
pub between_on : (a x b : ℕ) → a < 126 → x < 126 → b < 126 → between_of a x b ≡ true → (0 < dist_of a x) × (dist_of a x < dist_of a b)
between_on a x b la lx lb e =
    let h : nearer a x b ≡ true = sym (between_is a x b la lx lb) ∙ e in (
      ltb-true 0 (dist_of a x) (and_left (ltb 0 (dist_of a x)) (ltb (dist_of a x) (dist_of a b)) h),
      ltb-true (dist_of a x) (dist_of a b) (and_right (ltb 0 (dist_of a x)) (ltb (dist_of a x) (dist_of a b)) h),
    )

-- the start is not between
pub between_start : (a b : ℕ) → between_of a a b ≡ false
unfolding between_of
between_start a b = rw (le-ltb a a (omega arith)) (go (ltb a b) refl (eqb a b))
  where
    go : (p : Bool) → ltb a b ≡ p → (q : Bool) → cond (ltb a b) false (cond q false (ltb a b)) ≡ false
    go true p q = rw p
    go false p true = rw p
    go false p false = rw p

-- the end is not between
pub between_end : (a b : ℕ) → between_of a b b ≡ false
unfolding between_of
between_end a b = rw (le-ltb b b (omega arith)) (go (ltb a b) refl (eqb a b))
  where
    go : (p : Bool) → ltb a b ≡ p → (q : Bool) → cond (ltb a b) (cond (ltb a b) false false) (cond q false (cond (ltb a b) true false)) ≡ false
    go true p q = rw p
    go false p true = rw p
    go false p false = rw p

-- What a token pass leaves.

plain : (was o : Bool) → (was || false || false) && (o || not false) ≡ was
plain true true = refl
plain true false = refl
plain false true = refl
plain false false = refl

both : (was a b o : Bool) → a || b ≡ true → (was || a || b) && (o || not false) ≡ true
both true a b o e = or-true o
both false a b o e = rw e (or-true o)

own_plain : (b : Bool) → (b || false || false) && true ≡ b
own_plain true = refl
own_plain false = refl

-- the start of a pass is a member
pub keeps_start : (own s d : ℕ) (was : Bool) (x : ℕ) → x ≡ s → keeps own s d was x ≡ true
unfolding keeps
keeps_start own s d was x e = rw e (rw (between_start s d) (both was (eqb s s) (eqb s d) (eqb s own) (rw (eq-eqb s s refl))))

-- the end of a pass is a member
pub keeps_end : (own s d : ℕ) (was : Bool) (x : ℕ) → x ≡ d → keeps own s d was x ≡ true
unfolding keeps
keeps_end own s d was x e =
    rw e (rw (between_end s d) (both was (eqb d s) (eqb d d) (eqb d own) (rw (eq-eqb d d refl) (or-true (eqb d s)))))

-- own is no other than it was, where it is no end
pub keeps_own : (own s d : ℕ) (was : Bool) (x : ℕ) → (x ≡ s → ⊥) → (x ≡ d → ⊥) → x ≡ own → keeps own s d was x ≡ was
unfolding keeps
keeps_own own s d was x ns nd e = rw (ne_eqb x s ns, ne_eqb x d nd, eq-eqb x own e) (own_plain was)

-- what lies between goes, own excepted
pub keeps_between : (own s d : ℕ) (was : Bool) (x : ℕ) → (x ≡ own → ⊥) → between_of s x d ≡ true → keeps own s d was x ≡ false
unfolding keeps
keeps_between own s d was x n b = rw (ne_eqb x own n, b) (and-false (was || eqb x s || eqb x d))

-- what is neither end nor between them stays as it was
pub keeps_else : (own s d : ℕ) (was : Bool) (x : ℕ) → (x ≡ s → ⊥) → (x ≡ d → ⊥) → between_of s x d ≡ false → keeps own s d was x ≡ was
unfolding keeps
keeps_else own s d was x ns nd b = rw (ne_eqb x s ns, ne_eqb x d nd, b) (plain was (eqb x own))

-- own stays
pub keeps_me : (own s d : ℕ) → keeps own s d true own ≡ true
unfolding keeps
keeps_me own s d = rw (eq-eqb own own refl)

-- The same set.

eq_b_refl : (a b : Bool) → a ≡ b → eq_b a b ≡ true
eq_b_refl true b e = sym e
eq_b_refl false b e = ap not (sym e)

eq_b_true : (a b : Bool) → eq_b a b ≡ true → a ≡ b
eq_b_true true b e = sym e
eq_b_true false true e = e
eq_b_true false false e = refl

-- sets that agree below n are the same there
pub same_if : (f g : ℕ → Bool) (n : ℕ) → ((x : ℕ) → x < n → f x ≡ g x) → same_set f g n ≡ true
unfolding same_set
same_if f g zero h = refl
same_if f g (suc n) h = rw (same_if f g n (λ x l. h x (omega arith)), eq_b_refl (f n) (g n) (h n (omega arith)))

-- sets that are the same below n agree there
pub same_then : (f g : ℕ → Bool) (n : ℕ) → same_set f g n ≡ true → (x : ℕ) → x < n → f x ≡ g x
unfolding same_set
same_then f g zero e x l = absurd (omega arith)
same_then f g (suc n) e x l = ⊎_elim (λ q. subst (λ (m : ℕ). f m ≡ g m) (let s : n ≡ x = omega arith in s) (eq_b_true (f n) (g n) (and_right (same_set f g n) (eq_b (f n) (g n)) e))) (λ q. same_then f g n (and_left (same_set f g n) (eq_b (f n) (g n)) e) x (omega arith)) (eq-or-lt_of_le l)
