-- What a pass makes of the tables of a set: the tables of the set that it leaves; and the links say a pass already exactly if it
-- leaves the set as it was.
use Rattle.std.specs.Prelude.{ℕ, ◌<◌, ◌≡◌, Bool, cond, not, ◌&&◌, ◌||◌, List, ltb}
use Rattle.std.proofs.Math.Path.{refl, sym}
use Rattle.std.proofs.Common.{ap, subst, ◌∙◌, arith}
use Rattle.std.proofs.Math.Bool.{true, false, or-true}
use Rattle.std.proofs.Math.Logic.{⊎_elim}
use Rattle.std.proofs.Math.Dec.{eqb}
use borrow.Author.Tests.{lt-ltb, eq-eqb, ltb-true, eqb-true, eqb-false}
use Rattle.ring_addresses.specs.Set.{nearest, between_of, add_to, keeps, keeps_all, same_set}
use Rattle.ring_addresses.specs.SetLaws.{true≢false, keeps_start, keeps_end, keeps_own, keeps_between, keeps_else, same_if, same_then}
use Rattle.ring_links.specs.Links.{after, listed, links_of, insert_of, sweep_of, relink_of, follows_of, confirms_of}
use Rattle.ring_links.specs.Sets.{links_same, after_at, after_none, listed_links, nearest_low, gap_at}
use Rattle.ring_links.specs.Distances.{dist_low, beside, between_on_from}
use Rattle.ring_links.specs.Near.{near_member}
use Rattle.ring_links.specs.LinkLaws.{insert_links, sweep_links, swept, passes, moves}

-- nothing lies between an address and itself
between_none : (s x : ℕ) → between_of s x s ≡ false
unfolding between_of
between_none s x = rw (eq-eqb s s refl) (go (ltb s s) refl)
  where
    go : (b : Bool) → ltb s s ≡ b → cond b (cond (ltb s x) (ltb x s) false) false ≡ false
    go true q = let l = ltb-true s s q in absurd (omega arith)
    go false q = refl

module _ (f : ℕ → Bool) (own s d : ℕ) (lo : own < 126) (io : f own ≡ true) (ls : s < 126) (ld : d < 126) where
  -- an address whose entry is an address is a member, and the entry is the member after it
  entry_in : (x y : ℕ) → x < 126 → y < 126 → after (links_of f) x ≡ y → f x ≡ true
  entry_in x y l m e = go (f x) refl
    where
      go : (b : Bool) → f x ≡ b → f x ≡ true
      go true q = q
      go false q = let none : 127 ≡ y = sym (after_none f x l q) ∙ e in absurd (omega (arith, none))

  entry_is : (x y : ℕ) → x < 126 → y < 126 → after (links_of f) x ≡ y → nearest true f x ≡ y
  entry_is x y l m e = sym (after_at f x l (entry_in x y l m e)) ∙ e

  -- a pass between members with no other member but own between them leaves the set
  stays : f s ≡ true → f d ≡ true → ((x : ℕ) → x < 126 → (x ≡ own → ⊥) → between_of s x d ≡ true → f x ≡ false) → (x : ℕ) → x < 126 → keeps own s d (f x) x ≡ f x
  stays is id none x l = start (eqb x s) refl
    where
      mid : (b : Bool) → between_of s x d ≡ b → (x ≡ s → ⊥) → (x ≡ d → ⊥) → (x ≡ own → ⊥) → keeps own s d (f x) x ≡ f x
      mid true b ns nd o' = keeps_between own s d (f x) x o' b ∙ sym (none x l o' b)
      mid false b ns nd o' = keeps_else own s d (f x) x ns nd b

      mine : (b : Bool) → eqb x own ≡ b → (x ≡ s → ⊥) → (x ≡ d → ⊥) → keeps own s d (f x) x ≡ f x
      mine true q ns nd = keeps_own own s d (f x) x ns nd (eqb-true x own q)
      mine false q ns nd = mid (between_of s x d) refl ns nd (eqb-false x own q)

      end : (b : Bool) → eqb x d ≡ b → (x ≡ s → ⊥) → keeps own s d (f x) x ≡ f x
      end true q ns = keeps_end own s d (f x) x (eqb-true x d q) ∙ sym (ap f (eqb-true x d q) ∙ id)
      end false q ns = mine (eqb x own) refl ns (eqb-false x d q)

      start : (b : Bool) → eqb x s ≡ b → keeps own s d (f x) x ≡ f x
      start true q = keeps_start own s d (f x) x (eqb-true x s q) ∙ sym (ap f (eqb-true x s q) ∙ is)
      start false q = end (eqb x d) refl (eqb-false x s q)

  -- what the links say leaves the set
  confirms_then : confirms_of own (links_of f) s d ≡ true → (x : ℕ) → x < 126 → keeps own s d (f x) x ≡ f x
  unfolding confirms_of follows_of
  confirms_then c = self (eqb s d) refl
    where
      over : (b : Bool) → eqb (after (links_of f) s) own ≡ b → eqb s d ≡ false → eqb (after (links_of f) s) d ≡ false → (x : ℕ) → x < 126 → keeps own s d (f x) x ≡ f x
      over true q n p =
          let o = eqb-true (after (links_of f) s) own q in
          let e : eqb (after (links_of f) own) d ≡ true = rw (n, p, q, lt-ltb own 126 lo) at c in
          let first = entry_is s own ls lo o in
          let second = entry_is own d lo ld (eqb-true (after (links_of f) own) d e) in
          stays (entry_in s own ls lo o) (ap f (sym second) ∙ near_member true f own own lo lo io)
          (λ x l m b.
          ⊎_elim (λ h. gap_at f s x ls l (subst (λ (y : ℕ). between_of s x y ≡ true) (sym first) h))
          (λ h. gap_at f own x lo l (subst (λ (y : ℕ). between_of own x y ≡ true) (sym second) h))
          (beside s own d x ls lo ld l m b))
      over false q n p = absurd (true≢false (sym (rw (n, p, q) at c)))

      direct : (b : Bool) → eqb (after (links_of f) s) d ≡ b → eqb s d ≡ false → (x : ℕ) → x < 126 → keeps own s d (f x) x ≡ f x
      direct true q n =
          let e = eqb-true (after (links_of f) s) d q in
          let is = entry_in s d ls ld e in
          let at = entry_is s d ls ld e in
          stays is (ap f (sym at) ∙ near_member true f s s ls ls is) (λ x l o' b. gap_at f s x ls l (subst (λ (y : ℕ). between_of s x y ≡ true) (sym at) b))
      direct false q n = over (eqb (after (links_of f) s) own) refl n q

      self : (b : Bool) → eqb s d ≡ b → (x : ℕ) → x < 126 → keeps own s d (f x) x ≡ f x
      self true q =
          let e = eqb-true s d q in
          let is : f s ≡ true = sym (listed_links f s ls) ∙ (rw q at c) in
          stays is (ap f (sym e) ∙ is) (λ x l o' b. absurd (true≢false (sym b ∙ ap (between_of s x) (sym e) ∙ between_none s x)))
      self false q = direct (eqb (after (links_of f) s) d) refl q

  -- and what leaves the set the links say
  confirms_if : ((x : ℕ) → x < 126 → keeps own s d (f x) x ≡ f x) → confirms_of own (links_of f) s d ≡ true
  unfolding confirms_of follows_of
  confirms_if h = self (eqb s d) refl
    where
      is : f s ≡ true
      is = sym (h s ls) ∙ keeps_start own s d (f s) s refl

      id : f d ≡ true
      id = sym (h d ld) ∙ keeps_end own s d (f d) d refl

      -- a member between them is own
      mine : (x : ℕ) → x < 126 → f x ≡ true → between_of s x d ≡ true → x ≡ own
      mine x l m b = go (eqb x own) refl
        where
          go : (c : Bool) → eqb x own ≡ c → x ≡ own
          go true q = eqb-true x own q
          go false q = absurd (true≢false (sym m ∙ sym (h x l) ∙ keeps_between own s d (f x) x (eqb-false x own q) b))

      second : (b : Bool) → eqb (nearest true f own) d ≡ b → between_of s own d ≡ true → (own ≡ d → ⊥) → eqb (nearest true f own) d ≡ true
      second true q b n = q
      second false q b n =
          let apart : d ≡ own → ⊥ = (λ e. n (sym e)) in
          let z_low = nearest_low true f own lo in
          let on = passes f own d lo ld apart id (eqb-false (nearest true f own) d q) in
          absurd (moves f own d lo ld apart id (mine (nearest true f own) z_low (near_member true f own own lo lo io) (between_on_from s own d (nearest true f own) ls lo ld z_low b on)))

      first : (b : Bool) → eqb (nearest true f s) d ≡ b → (s ≡ d → ⊥)
          → cond b true (cond (eqb (nearest true f s) own) (cond (ltb own 126) (eqb (after (links_of f) own) d) false) false) ≡ true
      first true q n = refl
      first false q n =
          let nd = eqb-false (nearest true f s) d q in
          let on = passes f s d ls ld (λ e. n (sym e)) id nd in
          let e = mine (nearest true f s) (nearest_low true f s ls) (near_member true f s s ls ls is) on in
          rw (eq-eqb (nearest true f s) own e, lt-ltb own 126 lo, after_at f own lo io) (second (eqb (nearest true f own) d) refl (subst (λ (x : ℕ). between_of s x d ≡ true) e on) (λ z. nd (e ∙ z)))

      self : (b : Bool) → eqb s d ≡ b → cond b (listed (links_of f) s) (cond (eqb (after (links_of f) s) d) true (cond (eqb (after (links_of f) s) own) (cond (ltb own 126) (eqb (after (links_of f) own) d) false) false)) ≡ true
      self true q = listed_links f s ls ∙ is
      self false q = ap (λ (x : ℕ). cond (eqb x d) true (cond (eqb x own) (cond (ltb own 126) (eqb (after (links_of f) own) d) false) false)) (after_at f s ls is) ∙ first (eqb (nearest true f s) d) refl (eqb-false s d q)

  -- the links say a pass exactly if it leaves the set
  pub confirms_is : confirms_of own (links_of f) s d ≡ same_set f (keeps_all own s d f) 126
  confirms_is = go (confirms_of own (links_of f) s d) refl (same_set f (keeps_all own s d f) 126) refl
    where
      go : (a : Bool) → confirms_of own (links_of f) s d ≡ a → (b : Bool) → same_set f (keeps_all own s d f) 126 ≡ b → confirms_of own (links_of f) s d ≡ same_set f (keeps_all own s d f) 126
      go true p b q = p ∙ sym (same_if f (keeps_all own s d f) 126 (λ x l. sym (confirms_then p x l)))
      go false p true q = absurd (true≢false (sym (confirms_if (λ x l. sym (same_then f (keeps_all own s d f) 126 q x l))) ∙ p))
      go false p false q = p ∙ sym q

  -- the tables after a pass are those of the set that it leaves
  pub relink_links : relink_of own (links_of f) s d ≡ links_of (keeps_all own s d f)
  unfolding relink_of add_to keeps
  relink_links = go (eqb s d) refl
    where
      both : add_to d (add_to s f) own ≡ true
      both = rw io (rw (or-true (eqb own s)) (or-true (eqb own d)))

      one : (x : ℕ) → add_to s f x ≡ keeps_all own s s f x
      one x = rw (between_none s x) (table (f x) (eqb x s) (eqb x own))
        where
          table : (a b c : Bool) → (b || a) ≡ ((a || b || b) && (c || true))
          table true true true = refl
          table true true false = refl
          table true false true = refl
          table true false false = refl
          table false true true = refl
          table false true false = refl
          table false false true = refl
          table false false false = refl

      two : (a b c e : Bool) → ((c || (b || a)) && e) ≡ ((a || b || c) && e)
      two true true true e = refl
      two true true false e = refl
      two true false true e = refl
      two true false false e = refl
      two false true true e = refl
      two false true false e = refl
      two false false true e = refl
      two false false false e = refl

      go : (b : Bool) → eqb s d ≡ b → cond b (insert_of (links_of f) s) (sweep_of own d 126 s (insert_of (insert_of (links_of f) s) d)) ≡ links_of (keeps_all own s d f)
      go true q =
          insert_links f s own ls lo io ∙ links_same (add_to s f) (keeps_all own s s f) (λ x l. one x) ∙ ap (λ (y : ℕ). links_of (keeps_all own s y f)) (eqb-true s d q)
      go false q =
          let far = eqb-false s d q in
          let f1 = add_to s f in
          let o1 : add_to s f own ≡ true = rw io (or-true (eqb own s)) in
          let g = add_to d (add_to s f) in
          let is : add_to d (add_to s f) s ≡ true = rw (eq-eqb s s refl) (or-true (eqb s d)) in
          let id : add_to d (add_to s f) d ≡ true = rw (eq-eqb d d refl) in
          ap (λ (l : List ℕ). sweep_of own d 126 s (insert_of l d)) (insert_links f s own ls lo io)
          ∙ ap (sweep_of own d 126 s) (insert_links (add_to s f) d own ld lo o1)
          ∙ sweep_links 126 (add_to d (add_to s f)) own d s lo ld ls both id is (λ e. far (sym e)) (dist_low (nearest true (add_to d (add_to s f)) s) d)
          ∙ links_same (swept own s d (add_to d (add_to s f))) (keeps_all own s d f) (λ x l. two (f x) (eqb x s) (eqb x d) (eqb x own || not (between_of s x d)))
