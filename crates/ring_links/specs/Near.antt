-- The distance of the first member behind an address, going up or down: laws that say who is after and before whom, and what
-- taking an address out, or putting it in, changes of that. Each is said once for both ways.
use Rattle.std.specs.Prelude.{ℕ, zero, suc, ◌+◌, ◌-◌, ◌<◌, ◌≤◌, ◌≡◌, refl, Bool, true, false, not, List, [], ◌∷◌, ltb, eqb}
use Rattle.std.proofs.Common.{sym, ap, ◌∙◌, arith, add-zero, ltb-true, ltb-false, eqb-true}
use Rattle.std.proofs.lemmas.Bool.{eqb-false}
use Rattle.ring_addresses.specs.Set.{place_of, walk, head_or, nearest}
use Rattle.ring_addresses.specs.SetLaws.{true≢false, first, nobody, walk_nobody, place_lt, place_on, dist_of}

-- e is the distance from x of the first member behind it; 126, all the way round, where no other address is a member
pub record Near (way : Bool) (f : ℕ → Bool) (x e : ℕ) : Type 0 where
  pub low : 1 ≤ e
  pub high : e ≤ 126
  pub in_set_lem : f (place_of way x e) ≡ true
  pub none : (i : ℕ) → 1 ≤ i → i < e → f (place_of way x i) ≡ false

-- such a distance
pub record SomeNear (way : Bool) (f : ℕ → Bool) (x : ℕ) : Type 0 where
  pub dist : ℕ
  pub near : Near way f x dist

-- Places.

-- all the way round
place_round : (way : Bool) (x : ℕ) → x < 126 → place_of way x 126 ≡ x
place_round true x l = omega arith
place_round false x l = omega arith

-- back from a place
place_back : (way : Bool) (x i j : ℕ) → x < 126 → j ≤ i → i ≤ 126 → place_of (not way) (place_of way x i) j ≡ place_of way x (i - j)
place_back true x i j l m n = omega arith
place_back false x i j l m n = omega arith

-- no distance from 1 to 125 leads back
place_away : (way : Bool) (x i : ℕ) → x < 126 → 1 ≤ i → i < 126 → place_of way x i ≡ x → ⊥
place_away true x i l m n e = omega arith
place_away false x i l m n e = omega arith

-- no distance at all
place_here : (way : Bool) (x : ℕ) → x < 126 → place_of way x 0 ≡ x
place_here true x l = omega arith
place_here false x l = omega arith

-- how far y is from x
abbrev far_of : Bool → ℕ → ℕ → ℕ
far_of true x y = dist_of x y
far_of false x y = dist_of y x

far_there : (way : Bool) (x y : ℕ) → x < 126 → y < 126 → place_of way x (far_of way x y) ≡ y
far_there true x y l m = omega arith
far_there false x y l m = omega arith

far_low : (way : Bool) (x y : ℕ) → far_of way x y < 126
far_low true x y = omega arith
far_low false x y = omega arith

far_some : (way : Bool) (x y : ℕ) → x < 126 → y < 126 → (y ≡ x → ⊥) → 1 ≤ far_of way x y
far_some true x y l m n = omega arith
far_some false x y l m n = omega arith

-- Who is nearest.

-- the head of a walk whose first member stands j places on
pub head_at_lem : (f : ℕ → Bool) (p : ℕ → ℕ) (z k d j : ℕ) → j < k → f (p (d + j)) ≡ true → ((i : ℕ) → i < j → f (p (d + i)) ≡ false) → head_or z (walk f p k d) ≡ p (d + j)
unfolding walk
head_at_lem f p z zero d j l h n = absurd (omega arith)
head_at_lem f p z (suc k) d zero l h n =
    let here : d + 0 ≡ d = add-zero d in
    rw (rw here at h, here)
head_at_lem f p z (suc k) d (suc j) l h n =
    let here : d + 0 ≡ d = add-zero d in
    let on : d + suc j ≡ suc d + j = omega arith in
    let off : f (p d) ≡ false = rw here at (n 0 (omega arith)) in
    rw (off, on)
    (head_at_lem f p z k (suc d) j (omega arith) (rw on at h)
    (λ i m.
    let same : suc d + i ≡ d + suc i = omega arith in
    rw same (n (suc i) (omega arith))))

-- the first member behind x is the nearest
pub near_is : (way : Bool) (f : ℕ → Bool) (x e : ℕ) → x < 126 → Near way f x e → nearest way f x ≡ place_of way x e
unfolding nearest
near_is way f x e l n = go (ltb e 126) refl
  where
    go : (b : Bool) → ltb e 126 ≡ b → head_or x (walk f (place_of way x) 125 1) ≡ place_of way x e
    go true q =
        let h = ltb-true e 126 q in
        let m = n.low in
        let on : 1 + (e - 1) ≡ e = omega arith in
        head_at_lem f (place_of way x) x 125 1 (e - 1) (omega arith) (rw on n.in_set_lem) (λ i u. n.none (1 + i) (omega arith) (omega arith)) ∙ ap (place_of way x) on
    go false q =
        let h = ltb-false e 126 q in
        let m = n.high in
        let all : e ≡ 126 = omega arith in
        ap (head_or x) (walk_nobody f (place_of way x) 125 1 (λ i a u. n.none i a (omega arith))) ∙ sym (ap (place_of way x) all ∙ place_round way x l)

-- where anyone is a member there is a first one behind every address
pub near_some : (way : Bool) (f : ℕ → Bool) (x z : ℕ) → x < 126 → z < 126 → f z ≡ true → SomeNear way f x
near_some way f x z l m h = go (walk f (place_of way x) 125 1) refl
  where
    same : (b : Bool) → eqb z x ≡ b → walk f (place_of way x) 125 1 ≡ [] → z ≡ x
    same true q e = eqb-true z x q
    same false q e =
        absurd (true≢false (sym h ∙ ap f (sym (far_there way x z l m)) ∙ nobody f (place_of way x) 125 1 e (far_of way x z) (far_some way x z l m (eqb-false z x q)) (omega (arith, far_low way x z))))

    go : (os : List ℕ) → walk f (place_of way x) 125 1 ≡ os → SomeNear way f x
    go [] e =
        record {
          dist = 126;
          near = record {
            low = omega arith;
            high = omega arith;
            in_set_lem = ap f (place_round way x l ∙ sym (same (eqb z x) refl e)) ∙ h;
            none = λ i a u. nobody f (place_of way x) 125 1 e i a (omega arith);
          };
        }
    go (y ∷ ys) e =
        let w = first f (place_of way x) 125 1 y ys e in
        record {
          dist = w.dist;
          near = record {
            low = w.low;
            high = omega (arith, w.sum);
            in_set_lem = ap f (sym w.is) ∙ w.in_set_lem;
            none = w.none;
          };
        }

-- the nearest is a member
pub near_member : (way : Bool) (f : ℕ → Bool) (x z : ℕ) → x < 126 → z < 126 → f z ≡ true → f (nearest way f x) ≡ true
near_member way f x z l m h = let s = near_some way f x z l m h in ap f (near_is way f x s.dist l s.near) ∙ s.near.in_set_lem

-- who is the only member is nearest to itself
pub near_alone : (way : Bool) (f : ℕ → Bool) (x : ℕ) → x < 126 → f x ≡ true → ((y : ℕ) → y < 126 → (y ≡ x → ⊥) → f y ≡ false) → nearest way f x ≡ x
near_alone way f x l h n =
    near_is way f x 126 l
    (record {
      low = omega arith;
      high = omega arith;
      in_set_lem = ap f (place_round way x l) ∙ h;
      none = λ i m u. n (place_of way x i) (place_lt way x i) (place_away way x i l m (omega arith));
    })
    ∙ place_round way x l

-- there and back
pub near_back : (way : Bool) (f : ℕ → Bool) (x e : ℕ) → x < 126 → f x ≡ true → Near way f x e → Near (not way) f (place_of way x e) e
near_back way f x e l h n =
    let m = n.high in
    let none : e - e ≡ 0 = omega arith in
    record {
      low = n.low;
      high = m;
      in_set_lem = ap f (place_back way x e e l (omega arith) m ∙ ap (place_of way x) none ∙ place_here way x l) ∙ h;
      none = λ i a u. ap f (place_back way x e i l (omega arith) m) ∙ n.none (e - i) (omega arith) (omega arith);
    }

-- the one before the one after a member is that member, and the other way round
pub there_and_back : (way : Bool) (f : ℕ → Bool) (x : ℕ) → x < 126 → f x ≡ true → nearest (not way) f (nearest way f x) ≡ x
there_and_back way f x l h =
    let s = near_some way f x x l l h in
    let e = s.dist in
    let n = s.near in
    let none : e - e ≡ 0 = omega arith in
    ap (nearest (not way) f) (near_is way f x e l n)
    ∙ near_is (not way) f (place_of way x e) e (place_lt way x e) (near_back way f x e l h n)
    ∙ place_back way x e e l (omega arith) n.high
    ∙ ap (place_of way x) none
    ∙ place_here way x l

-- A set with an address a, and the same set without it.
module _ (f g : ℕ → Bool) (a : ℕ) (low : a < 126) (with_a : f a ≡ true) (without_a : g a ≡ false) (alike : (x : ℕ) → x < 126 → (x ≡ a → ⊥) → g x ≡ f x) where
  -- who is no member of the one is none of the other
  less : (x : ℕ) → x < 126 → f x ≡ false → g x ≡ false
  less x l h = go (eqb x a) refl
    where
      go : (b : Bool) → eqb x a ≡ b → g x ≡ false
      go true q = ap g (eqb-true x a q) ∙ without_a
      go false q = alike x l (eqb-false x a q) ∙ h

  -- the first member behind a is the same, where a is not alone
  near_same : (way : Bool) (k : ℕ) → k < 126 → Near way f a k → Near way g a k
  near_same way k l n =
      record {
        low = n.low;
        high = n.high;
        in_set_lem = alike (place_of way a k) (place_lt way a k) (place_away way a k low n.low l) ∙ n.in_set_lem;
        none = λ i m u. less (place_of way a i) (place_lt way a i) (n.none i m u);
      }

  -- so is that behind another address, where it is not a
  near_other : (way : Bool) (x e : ℕ) → x < 126 → Near way f x e → (place_of way x e ≡ a → ⊥) → Near way g x e
  near_other way x e l n far =
      record {
        low = n.low;
        high = n.high;
        in_set_lem = alike (place_of way x e) (place_lt way x e) far ∙ n.in_set_lem;
        none = λ i m u. less (place_of way x i) (place_lt way x i) (n.none i m u);
      }

  -- and where it is a, it is then the one behind a
  near_over : (way : Bool) (x e k : ℕ) → x < 126 → (x ≡ a → ⊥) → f x ≡ true → Near way f x e → place_of way x e ≡ a → k < 126 → Near way f a k
      → Near way g x (e + k)
  near_over way x e k l far h n at m na =
      let nl = n.low in
      record {
        low = omega (arith, n.low);
        high = fits;
        in_set_lem = ap g there ∙ (near_same way k m na).in_set_lem;
        none = λ i u v. go i u v (ltb i e) refl;
      }
    where
      e_low : e < 126
      e_low = by (ltb e 126) refl
        where
          by : (b : Bool) → ltb e 126 ≡ b → e < 126
          by true q = ltb-true e 126 q
          by false q =
              let q' = ltb-false e 126 q in
              let all : e ≡ 126 = omega (arith, n.high) in
              absurd (far (sym (ap (place_of way x) all ∙ place_round way x l) ∙ at))

      -- x, seen from a
      home : place_of way a (126 - e) ≡ x
      home =
          let sum : e + (126 - e) ≡ 126 = omega arith in
          ap (λ (y : ℕ). place_of way y (126 - e)) (sym at) ∙ place_on way x e (126 - e) (omega arith) ∙ ap (place_of way x) sum ∙ place_round way x l

      fits : e + k ≤ 126
      fits = by (ltb (126 - e) k) refl
        where
          by : (b : Bool) → ltb (126 - e) k ≡ b → e + k ≤ 126
          by true q = absurd (true≢false (sym h ∙ ap f (sym home) ∙ na.none (126 - e) (omega (arith, e_low)) (ltb-true (126 - e) k q)))
          by false q = let v = ltb-false (126 - e) k q in omega arith

      there : place_of way x (e + k) ≡ place_of way a k
      there = sym (place_on way x e k fits) ∙ ap (λ (y : ℕ). place_of way y k) at

      go : (i : ℕ) → 1 ≤ i → i < e + k → (b : Bool) → ltb i e ≡ b → g (place_of way x i) ≡ false
      go i u v true q = less (place_of way x i) (place_lt way x i) (n.none i u (ltb-true i e q))
      go i u v false q = let far = ltb-false i e q in by (i - e) (omega arith) far
        where
          by : (j : ℕ) → i ≡ e + j → e ≤ i → g (place_of way x i) ≡ false
          by zero s w = let here : i ≡ e = omega arith in ap g (ap (place_of way x) here ∙ at) ∙ without_a
          by (suc j) s w =
              ap g (ap (place_of way x) s ∙ sym (place_on way x e (suc j) (omega (arith, fits))) ∙ ap (λ (y : ℕ). place_of way y (suc j)) at)
              ∙ (near_same way k m na).none (suc j) (omega arith) (omega arith)

  -- The same for the nearest, where some z other than a is a member.
  module _ (z : ℕ) (z_low : z < 126) (z-far : z ≡ a → ⊥) (z-in : f z ≡ true) where
    -- the distance behind a
    behind : (way : Bool) → SomeNear way f a
    behind way = near_some way f a z low z_low z-in

    behind_low : (way : Bool) → (behind way).dist < 126
    behind_low way = by (ltb (behind way).dist 126) refl
      where
        by : (b : Bool) → ltb (behind way).dist 126 ≡ b → (behind way).dist < 126
        by true q = ltb-true _ 126 q
        by false q =
            let far = ltb-false (behind way).dist 126 q in
            absurd (true≢false (sym z-in ∙ ap f (sym (far_there way a z low z_low)) ∙ (behind way).near.none (far_of way a z) (far_some way a z low z_low z-far) (omega (arith, far_low way a z))))

    -- behind a comes the same one
    pub nearest_same : (way : Bool) → nearest way g a ≡ nearest way f a
    nearest_same way =
        let b = behind way in
        near_is way g a b.dist low (near_same way b.dist (behind_low way) b.near) ∙ sym (near_is way f a b.dist low b.near)

    -- it is not a
    pub nearest_apart : (way : Bool) → nearest way f a ≡ a → ⊥
    nearest_apart way e =
        let b = behind way in
        place_away way a b.dist low b.near.low (behind_low way) (sym (near_is way f a b.dist low b.near) ∙ e)

    -- behind the one before a comes the one behind a, where a is not there
    pub nearest_over : (way : Bool) (x : ℕ) → x < 126 → (x ≡ a → ⊥) → f x ≡ true → nearest way f x ≡ a → nearest way g x ≡ nearest way f a
    nearest_over way x l far h at =
        let b = behind way in
        let s = near_some way f x z l z_low z-in in
        let here : place_of way x s.dist ≡ a = sym (near_is way f x s.dist l s.near) ∙ at in
        let over = near_over way x s.dist b.dist l far h s.near here (behind_low way) b.near in
        near_is way g x (s.dist + b.dist) l over
        ∙ sym (place_on way x s.dist b.dist over.high)
        ∙ ap (λ (y : ℕ). place_of way y b.dist) here
        ∙ sym (near_is way f a b.dist low b.near)

    -- behind every other member comes the one that came
    pub nearest_else : (way : Bool) (x : ℕ) → x < 126 → (nearest way f x ≡ a → ⊥) → nearest way g x ≡ nearest way f x
    nearest_else way x l far =
        let s = near_some way f x z l z_low z-in in
        let is = near_is way f x s.dist l s.near in
        near_is way g x s.dist l (near_other way x s.dist l s.near (λ e. far (is ∙ e))) ∙ sym is
