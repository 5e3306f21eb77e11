-- What taking out, putting in and sweeping along the links make of the tables of a set: the tables of the set that is meant.
use Rattle.std.specs.Prelude.{ℕ, zero, suc, ◌+◌, ◌<◌, ◌≤◌, ◌≡◌, Bool, not, ◌&&◌, ◌||◌, List, length, get_or, ltb}
use Rattle.std.proofs.Math.Path.{refl, ap}
use Rattle.std.proofs.Common.{sym, subst, ◌∙◌, ⊎_elim, arith}
use Rattle.std.proofs.Math.Bool.{true, false, cond, and-false}
use Rattle.std.proofs.Math.Dec.{eqb}
use borrow.Author.Tests.{lt-ltb, eq-eqb, ne_eqb, ltb-true, ltb-false, eqb-true, eqb-false}
use Rattle.ring_addresses.specs.Set.{up, nearest, between_of, only, add_to, take_out}
use Rattle.ring_addresses.specs.SetLaws.{true≢false, dist_of}
use Rattle.ring_links.specs.Links.{after, before, listed, after_of, before_of, links_of, put, link_of, unlink_of, behind_of, insert_of, sweep_of}
use Rattle.ring_links.specs.Tables.{length_put, after_put, before_put}
use Rattle.ring_links.specs.Sets.{links_same, links_is, after_links, before_links, after_at, before_at, after_none, length_links, listed_links, nearest_low, nearest_ext, gap_at}
use Rattle.ring_links.specs.Distances.{dist_low, dist_some, up_dist, dist_up, between_from, beside, between_on_from}
use Rattle.ring_links.specs.Near.{Near, near_is, near_some, near_member, near_alone, there_and_back, nearest_same, nearest_apart, nearest_over, nearest_else}

-- two sets that differ in a alone: f has it, g has not, and there is another member
pub record Apart (f g : ℕ → Bool) (a : ℕ) : Type 0 where
  pub low : a < 126
  pub with_a : f a ≡ true
  pub without_a : g a ≡ false
  pub alike : (x : ℕ) → x < 126 → (x ≡ a → ⊥) → g x ≡ f x
  pub other : ℕ
  pub other_low : other < 126
  pub other_far : other ≡ a → ⊥
  pub other_in : f other ≡ true

module _ (f g : ℕ → Bool) (a : ℕ) (w : Apart f g a) where
  -- who stands beside a, after it or before it
  abbrev beside_a : Bool → ℕ
  beside_a way = nearest way f a

  beside_low : (way : Bool) → beside_a way < 126
  beside_low way = nearest_low way f a w.low

  beside_in : (way : Bool) → f (beside_a way) ≡ true
  beside_in way = near_member way f a a w.low w.low w.with_a

  beside_far : (way : Bool) → beside_a way ≡ a → ⊥
  beside_far way = nearest_apart f g a w.low w.with_a w.without_a w.alike w.other w.other_low w.other_far w.other_in way

  beside_stays : (way : Bool) → g (beside_a way) ≡ true
  beside_stays way = w.alike (beside_a way) (beside_low way) (beside_far way) ∙ beside_in way

  -- it is the same without a
  beside_same : (way : Bool) → nearest way g a ≡ beside_a way
  beside_same way = nearest_same f g a w.low w.with_a w.without_a w.alike w.other w.other_low w.other_far w.other_in way

  -- from the one before a the next is a
  turned : (way : Bool) → nearest way f (beside_a (not way)) ≡ a
  turned true = there_and_back false f a w.low w.with_a
  turned false = there_and_back true f a w.low w.with_a

  -- without a it is the one after a
  joint : (way : Bool) → nearest way g (beside_a (not way)) ≡ beside_a way
  joint way =
      nearest_over f g a w.low w.with_a w.without_a w.alike w.other w.other_low w.other_far w.other_in way (beside_a (not way)) (beside_low (not way)) (beside_far (not way)) (beside_in (not way)) (turned way)

  -- all else stands as it stood
  around : (way : Bool) (k : ℕ) → k < 126 → (k ≡ a → ⊥) → (k ≡ beside_a (not way) → ⊥) → cond (g k) (nearest way g k) 127 ≡ cond (f k) (nearest way f k) 127
  around way k l far off = rw (w.alike k l far) (go (f k) refl)
    where
      go : (b : Bool) → f k ≡ b → cond b (nearest way g k) 127 ≡ cond b (nearest way f k) 127
      go true h =
          nearest_else f g a w.low w.with_a w.without_a w.alike w.other w.other_low w.other_far w.other_in way k l
          (λ e. off (sym (there_and_back way f k l h) ∙ ap (nearest (not way) f) e))
      go false h = refl

  -- an entry of the tables without a
  leaves : (way : Bool) (k v : ℕ) → k < 126 → (k ≡ a → v ≡ 127) → ((k ≡ a → ⊥) → k ≡ beside_a (not way) → v ≡ beside_a way)
      → ((k ≡ a → ⊥) → (k ≡ beside_a (not way) → ⊥) → v ≡ cond (f k) (nearest way f k) 127) → v ≡ cond (g k) (nearest way g k) 127
  leaves way k v l here near far = go (eqb k a) refl (eqb k (beside_a (not way))) refl
    where
      go : (b : Bool) → eqb k a ≡ b → (c : Bool) → eqb k (beside_a (not way)) ≡ c → v ≡ cond (g k) (nearest way g k) 127
      go true p c q = let e = eqb-true k a p in here e ∙ sym (rw (ap g e ∙ w.without_a))
      go false p true q =
          let e = eqb-true k (beside_a (not way)) q in
          near (eqb-false k a p) e ∙ sym (rw (ap g e ∙ beside_stays (not way)) (ap (nearest way g) e ∙ joint way))
      go false p false q =
          far (eqb-false k a p) (eqb-false k (beside_a (not way)) q) ∙ sym (around way k l (eqb-false k a p) (eqb-false k (beside_a (not way)) q))

  -- an entry of the tables with a
  enters : (way : Bool) (k v : ℕ) → k < 126 → (k ≡ a → v ≡ beside_a way) → ((k ≡ a → ⊥) → k ≡ beside_a (not way) → v ≡ a)
      → ((k ≡ a → ⊥) → (k ≡ beside_a (not way) → ⊥) → v ≡ cond (g k) (nearest way g k) 127) → v ≡ cond (f k) (nearest way f k) 127
  enters way k v l here near far = go (eqb k a) refl (eqb k (beside_a (not way))) refl
    where
      go : (b : Bool) → eqb k a ≡ b → (c : Bool) → eqb k (beside_a (not way)) ≡ c → v ≡ cond (f k) (nearest way f k) 127
      go true p c q = let e = eqb-true k a p in here e ∙ sym (rw (ap f e ∙ w.with_a) (ap (nearest way f) e))
      go false p true q =
          let e = eqb-true k (beside_a (not way)) q in
          near (eqb-false k a p) e ∙ sym (rw (ap f e ∙ beside_in (not way)) (ap (nearest way f) e ∙ turned way))
      go false p false q =
          far (eqb-false k a p) (eqb-false k (beside_a (not way)) q) ∙ around way k l (eqb-false k a p) (eqb-false k (beside_a (not way)) q)

  abbrev p : ℕ
  p = beside_a false

  abbrev n : ℕ
  n = beside_a true

  -- the stores that take a out
  out_is : put (link_of (links_of f) p n) a 127 a 127 ≡ links_of g
  unfolding link_of after_of before_of
  out_is =
      let first = length_put (links_of f) p n n p ∙ length_links f in
      links_is g (put (put (links_of f) p n n p) a 127 a 127) (length_put (put (links_of f) p n n p) a 127 a 127 ∙ first)
      (λ k l.
      let is : after (put (put (links_of f) p n n p) a 127 a 127) k ≡ cond (eqb k a) 127 (cond (eqb k p) n (after (links_of f) k)) = after_put (put (links_of f) p n n p) a 127 a 127 k first w.low l ∙ ap (cond (eqb k a) 127) (after_put (links_of f) p n n p k (length_links f) (beside_low false) l) in
      leaves true k _ l (λ e. is ∙ rw (eq-eqb k a e)) (λ far e. is ∙ rw (ne_eqb k a far, eq-eqb k p e)) (λ far off. is ∙ rw (ne_eqb k a far, ne_eqb k p off) (after_links f k l)))
      (λ k l.
      let is : before (put (put (links_of f) p n n p) a 127 a 127) k ≡ cond (eqb k a) 127 (cond (eqb k n) p (before (links_of f) k)) = before_put (put (links_of f) p n n p) a 127 a 127 k first w.low w.low l ∙ ap (cond (eqb k a) 127) (before_put (links_of f) p n n p k (length_links f) (beside_low false) (beside_low true) l) in
      leaves false k _ l (λ e. is ∙ rw (eq-eqb k a e)) (λ far e. is ∙ rw (ne_eqb k a far, eq-eqb k n e)) (λ far off. is ∙ rw (ne_eqb k a far, ne_eqb k n off) (before_links f k l)))

  -- the stores that put a in
  in_is : link_of (link_of (links_of g) p a) a n ≡ links_of f
  unfolding link_of after_of before_of
  in_is =
      let first = length_put (links_of g) p a a p ∙ length_links g in
      links_is f (put (put (links_of g) p a a p) a n n a) (length_put (put (links_of g) p a a p) a n n a ∙ first)
      (λ k l.
      let is : after (put (put (links_of g) p a a p) a n n a) k ≡ cond (eqb k a) n (cond (eqb k p) a (after (links_of g) k)) = after_put (put (links_of g) p a a p) a n n a k first w.low l ∙ ap (cond (eqb k a) n) (after_put (links_of g) p a a p k (length_links g) (beside_low false) l) in
      enters true k _ l (λ e. is ∙ rw (eq-eqb k a e)) (λ far e. is ∙ rw (ne_eqb k a far, eq-eqb k p e)) (λ far off. is ∙ rw (ne_eqb k a far, ne_eqb k p off) (after_links g k l)))
      (λ k l.
      let is : before (put (put (links_of g) p a a p) a n n a) k ≡ cond (eqb k n) a (cond (eqb k a) p (before (links_of g) k)) = before_put (put (links_of g) p a a p) a n n a k first w.low (beside_low true) l ∙ ap (cond (eqb k n) a) (before_put (links_of g) p a a p k (length_links g) (beside_low false) w.low l) in
      enters false k _ l (λ e. is ∙ rw (ne_eqb k n (λ z. beside_far true (sym z ∙ e)), eq-eqb k a e)) (λ far e. is ∙ rw (eq-eqb k n e)) (λ far off. is ∙ rw (ne_eqb k n off, ne_eqb k a far) (before_links g k l)))

-- Tables that hold 127 everywhere.
module _ (l : List ℕ) (long : length l ≡ 252) (empty : (k : ℕ) → k < 252 → get_or l k 0 ≡ 127) (own : ℕ) where
  -- they are those of own alone, where that is no address
  pub none_links : 126 ≤ own → l ≡ links_of (only own)
  unfolding after_of before_of
  none_links high =
      links_is (only own) l long (λ k m. empty k (omega arith) ∙ rw (ne_eqb k own (λ e. omega arith))) (λ k m. empty (126 + k) (omega arith) ∙ rw (ne_eqb k own (λ e. omega arith)))

  -- with own after own and before own they are those of own alone
  pub alone_links : own < 126 → put l own own own own ≡ links_of (only own)
  unfolding after_of before_of
  alone_links low =
      links_is (only own) (put l own own own own) (length_put l own own own own ∙ long)
      (λ k m. after_put l own own own own k long low m ∙ entry true k m (eqb k own) refl (empty k (omega arith)))
      (λ k m. before_put l own own own own k long low low m ∙ entry false k m (eqb k own) refl (empty (126 + k) (omega arith)))
    where
      entry : (way : Bool) (k : ℕ) → k < 126 → {v : ℕ} (b : Bool) → eqb k own ≡ b → v ≡ 127 → cond (eqb k own) own v ≡ cond (eqb k own) (nearest way (only own) k) 127
      entry way k m true q e =
          let same = eqb-true k own q in
          rw q (sym (ap (nearest way (only own)) same ∙ near_alone way (only own) own low (eq-eqb own own refl) (λ y u n. ne_eqb y own n)))
      entry way k m false q e = rw q e

-- taking an address out of the tables of a set with another member leaves the tables of the set without it
pub unlink_links : (f : ℕ → Bool) (a z : ℕ) → a < 126 → z < 126 → (z ≡ a → ⊥) → f z ≡ true → unlink_of (links_of f) a ≡ links_of (take_out a f)
unfolding unlink_of take_out
unlink_links f a z l m far h = go (f a) refl
  where
    go : (b : Bool) → f a ≡ b
        → cond (ltb (after (links_of f) a) 126) (cond (ltb (before (links_of f) a) 126) (put (link_of (links_of f) (before (links_of f) a) (after (links_of f) a)) a 127 a 127) (links_of f)) (links_of f) ≡ links_of (take_out a f)
    go true q =
        let apart : Apart f (take_out a f) a = record { low = l; with_a = q; without_a = rw (eq-eqb a a refl); alike = λ x u n. rw (ne_eqb x a n); other = z; other_low = m; other_far = far; other_in = h } in
        rw (after_at f a l q, before_at f a l q, lt-ltb (nearest true f a) 126 (nearest_low true f a l), lt-ltb (nearest false f a) 126 (nearest_low false f a l)) (out_is f (take_out a f) a apart)
    go false q = rw (after_none f a l q) (links_same f (take_out a f) (λ x u. same x (eqb x a) refl))
      where
        same : (x : ℕ) (b : Bool) → eqb x a ≡ b → f x ≡ (not (eqb x a) && f x)
        same x true e = rw e (ap f (eqb-true x a e) ∙ q)
        same x false e = rw e

-- putting an address into the tables of a set with a member leaves the tables of the set with it
pub insert_links : (f : ℕ → Bool) (a z : ℕ) → a < 126 → z < 126 → f z ≡ true → insert_of (links_of f) a ≡ links_of (add_to a f)
unfolding insert_of behind_of add_to
insert_links f a z l m h = go (f a) refl
  where
    go : (b : Bool) → f a ≡ b
        → cond (listed (links_of f) a) (links_of f)
        (cond (ltb (after (links_of f) (nearest false (listed (links_of f)) a)) 126) (link_of (link_of (links_of f) (nearest false (listed (links_of f)) a) a) a (after (links_of f) (nearest false (listed (links_of f)) a))) (links_of f)) ≡ links_of (add_to a f)
    go true q = rw (listed_links f a l ∙ q) (links_same f (add_to a f) (λ x u. same x (eqb x a) refl))
      where
        same : (x : ℕ) (b : Bool) → eqb x a ≡ b → f x ≡ (eqb x a || f x)
        same x true e = rw e (ap f (eqb-true x a e) ∙ q)
        same x false e = rw e
    go false q =
        let far : z ≡ a → ⊥ = (λ e. true≢false (sym h ∙ ap f e ∙ q)) in
        let apart : Apart (add_to a f) f a = record { low = l; with_a = rw (eq-eqb a a refl); without_a = q; alike = λ x u n. rw (ne_eqb x a n); other = z; other_low = m; other_far = far; other_in = rw (ne_eqb z a far, h) } in
        let before_is : nearest false (listed (links_of f)) a ≡ nearest false (add_to a f) a = nearest_ext false (listed (links_of f)) f a (listed_links f) ∙ beside_same (add_to a f) f a apart false in
        let p_low = nearest_low false (add_to a f) a l in
        let p_in = beside_stays (add_to a f) f a apart false in
        let after_is : after (links_of f) (nearest false (add_to a f) a) ≡ nearest true (add_to a f) a = after_at f (nearest false (add_to a f) a) p_low p_in ∙ joint (add_to a f) f a apart true in
        rw (listed_links f a l ∙ q, before_is, after_is, lt-ltb (nearest true (add_to a f) a) 126 (nearest_low true (add_to a f) a l)) (in_is (add_to a f) f a apart)

-- Going on from p towards d, a member.

dist_less : (p d e : ℕ) → p < 126 → d < 126 → 1 ≤ e → e ≤ dist_of p d → dist_of (up p e) d < dist_of p d
dist_less p d e l m a b = omega arith

-- the first member behind p stands no further than d
ahead : (f : ℕ → Bool) (p d e : ℕ) → p < 126 → d < 126 → (d ≡ p → ⊥) → f d ≡ true → Near true f p e → e ≤ dist_of p d
ahead f p d e l m far h n = go (ltb (dist_of p d) e) refl
  where
    go : (b : Bool) → ltb (dist_of p d) e ≡ b → e ≤ dist_of p d
    go true q = absurd (true≢false (sym h ∙ ap f (sym (up_dist p d l m)) ∙ n.none (dist_of p d) (dist_some p d l m (λ e. far (sym e))) (ltb-true _ e q)))
    go false q = ltb-false _ e q

-- so it is nearer to d than p
closer : (f : ℕ → Bool) (p d : ℕ) → p < 126 → d < 126 → (d ≡ p → ⊥) → f d ≡ true → dist_of (nearest true f p) d < dist_of p d
closer f p d l m far h =
    let s = near_some true f p d l m h in
    subst (λ (x : ℕ). dist_of x d < dist_of p d) (sym (near_is true f p s.dist l s.near))
    (dist_less p d s.dist l m s.near.low (ahead f p d s.dist l m far h s.near))

-- and it lies between p and d, or is d
pub passes : (f : ℕ → Bool) (p d : ℕ) → p < 126 → d < 126 → (d ≡ p → ⊥) → f d ≡ true → (nearest true f p ≡ d → ⊥) → between_of p (nearest true f p) d ≡ true
passes f p d l m far h off =
    let s = near_some true f p d l m h in
    let e = s.dist in
    let is : nearest true f p ≡ up p e = near_is true f p e l s.near in
    let upto = ahead f p d e l m far h s.near in
    let short : e < dist_of p d = less e upto (λ q. off (is ∙ ap (up p) q ∙ up_dist p d l m)) in
    let at : dist_of p (nearest true f p) ≡ e = ap (dist_of p) is ∙ dist_up p e l (omega (arith, short, dist_low p d)) in
    between_from p (nearest true f p) d l (nearest_low true f p l) m (subst (λ (n : ℕ). 0 < n) (sym at) s.near.low) (subst (λ (n : ℕ). n < dist_of p d) (sym at) short)
  where
    less : (e : ℕ) → e ≤ dist_of p d → (e ≡ dist_of p d → ⊥) → e < dist_of p d
    less e a b = omega arith

-- it is not p
pub moves : (f : ℕ → Bool) (p d : ℕ) → p < 126 → d < 126 → (d ≡ p → ⊥) → f d ≡ true → nearest true f p ≡ p → ⊥
moves f p d l m far h e =
    let c = closer f p d l m far h in
    let same : dist_of (nearest true f p) d ≡ dist_of p d = ap (λ (x : ℕ). dist_of x d) e in
    omega (arith, c, same)

-- without an address a set has all others
out_a : (f : ℕ → Bool) (a : ℕ) → take_out a f a ≡ false
unfolding take_out
out_a f a = rw (eq-eqb a a refl)

out_else : (f : ℕ → Bool) (a x : ℕ) → x < 126 → (x ≡ a → ⊥) → take_out a f x ≡ f x
unfolding take_out
out_else f a x l n = rw (ne_eqb x a n)

-- the set without those between p and d, but for own
abbrev pub swept : ℕ → ℕ → ℕ → (ℕ → Bool) → ℕ → Bool
swept own p d f x = f x && (eqb x own || not (between_of p x d))

keep_all : (a b : Bool) → a ≡ (a && (b || true))
keep_all true true = refl
keep_all true false = refl
keep_all false b = refl

-- sweeping the tables of a set leaves the tables of that set
pub sweep_links : (k : ℕ) (f : ℕ → Bool) (own d p : ℕ) → own < 126 → d < 126 → p < 126 → f own ≡ true → f d ≡ true → f p ≡ true → (d ≡ p → ⊥) → dist_of (nearest true f p) d < k
    → sweep_of own d k p (links_of f) ≡ links_of (swept own p d f)
unfolding sweep_of
sweep_links zero f own d p lo ld lp io id ip far m = absurd (omega arith)
sweep_links (suc k) f own d p lo ld lp io id ip far m =
    rw (after_at f p lp ip, lt-ltb (nearest true f p) 126 (nearest_low true f p lp)) (go (λ g q. sweep_links k g own d q lo ld) (eqb (nearest true f p) d) refl (eqb (nearest true f p) own) refl)
  where
    at_end : nearest true f p ≡ d → (y : ℕ) → y < 126 → f y ≡ swept own p d f y
    at_end e y l = by (between_of p y d) refl
      where
        by : (b : Bool) → between_of p y d ≡ b → f y ≡ (f y && (eqb y own || not (between_of p y d)))
        by true q = rw (gap_at f p y lp l (subst (λ (z : ℕ). between_of p y z ≡ true) (sym e) q))
        by false q = rw q (keep_all (f y) (eqb y own))

    over_own : nearest true f p ≡ own → (own ≡ d → ⊥) → (y : ℕ) → y < 126 → swept own own d f y ≡ swept own p d f y
    over_own e off y l = by (eqb y own) refl (f y) refl (between_of own y d) refl (between_of p y d) refl
      where
        own_between : between_of p own d ≡ true
        own_between = subst (λ (z : ℕ). between_of p z d ≡ true) e (passes f p d lp ld far id (λ z. off (sym e ∙ z)))

        by : (a : Bool) → eqb y own ≡ a → (b : Bool) → f y ≡ b → (u : Bool) → between_of own y d ≡ u → (v : Bool) → between_of p y d ≡ v
            → (f y && (eqb y own || not (between_of own y d))) ≡ (f y && (eqb y own || not (between_of p y d)))
        by true qa b qb u qu v qv = rw qa
        by false qa false qb u qu v qv = rw qb
        by false qa true qb true qu true qv = rw (qu, qv)
        by false qa true qb false qu false qv = rw (qu, qv)
        by false qa true qb true qu false qv = absurd (true≢false (sym (between_on_from p own d y lp lo ld l own_between qu) ∙ qv))
        by false qa true qb false qu true qv =
            absurd
            (⊎_elim (λ (h : between_of p y own ≡ true). true≢false (sym qb ∙ gap_at f p y lp l (subst (λ (z : ℕ). between_of p y z ≡ true) (sym e) h))) (λ (h : between_of own y d ≡ true). true≢false (sym h ∙ qu))
            (beside p own d y lp lo ld l (eqb-false y own qa) qv))

    gone : (nearest true f p ≡ d → ⊥) → (nearest true f p ≡ own → ⊥) → (y : ℕ) → y < 126 → swept own p d (take_out (nearest true f p) f) y ≡ swept own p d f y
    gone nd nw y l = by (eqb y (nearest true f p)) refl
      where
        by : (b : Bool) → eqb y (nearest true f p) ≡ b → (take_out (nearest true f p) f y && (eqb y own || not (between_of p y d))) ≡ (f y && (eqb y own || not (between_of p y d)))
        by true q =
            let e = eqb-true y (nearest true f p) q in
            rw (ap (take_out (nearest true f p) f) e ∙ out_a f (nearest true f p), ap (λ (z : ℕ). eqb z own) e ∙ ne_eqb (nearest true f p) own nw, ap (λ (z : ℕ). between_of p z d) e ∙ passes f p d lp ld far id nd) (sym (and-false (f y)))
        by false q = rw (out_else f (nearest true f p) y l (eqb-false y (nearest true f p) q))

    go : ((g : ℕ → Bool) (q : ℕ) → q < 126 → g own ≡ true → g d ≡ true → g q ≡ true → (d ≡ q → ⊥) → dist_of (nearest true g q) d < k → sweep_of own d k q (links_of g) ≡ links_of (swept own q d g))
        → (b : Bool) → eqb (nearest true f p) d ≡ b → (c : Bool) → eqb (nearest true f p) own ≡ c
        → cond b (links_of f) (cond c (sweep_of own d k (nearest true f p) (links_of f)) (sweep_of own d k p (unlink_of (links_of f) (nearest true f p)))) ≡ links_of (swept own p d f)
    go on true q c r = links_same f (swept own p d f) (at_end (eqb-true _ d q))
    go on false q true r =
        let e = eqb-true (nearest true f p) own r in
        let off : own ≡ d → ⊥ = (λ z. eqb-false (nearest true f p) d q (e ∙ z)) in
        let near = closer f own d lo ld (λ z. off (sym z)) id in
        let was : dist_of own d < suc k = subst (λ (z : ℕ). dist_of z d < suc k) e m in
        ap (λ (z : ℕ). sweep_of own d k z (links_of f)) e
        ∙ on f own lo io id io (λ z. off (sym z)) (omega (arith, near, was))
        ∙ links_same (swept own own d f) (swept own p d f) (over_own e off)
    go on false q false r =
        let nd = eqb-false (nearest true f p) d q in
        let nw = eqb-false (nearest true f p) own r in
        let np = moves f p d lp ld far id in
        let lx = nearest_low true f p lp in
        let ix = near_member true f p p lp lp ip in
        let g = take_out (nearest true f p) f in
        let over : nearest true g p ≡ nearest true f (nearest true f p) = nearest_over f g (nearest true f p) lx ix (out_a f (nearest true f p)) (out_else f (nearest true f p)) own lo (λ z. nw (sym z)) io true p lp (λ z. np (sym z)) ip refl in
        let near = closer f (nearest true f p) d lx ld (λ z. nd (sym z)) id in
        ap (sweep_of own d k p) (unlink_links f (nearest true f p) own lx lo (λ z. nw (sym z)) io)
        ∙ on g p lp (out_else f (nearest true f p) own lo (λ z. nw (sym z)) ∙ io) (out_else f (nearest true f p) d ld (λ z. nd (sym z)) ∙ id) (out_else f (nearest true f p) p lp (λ z. np (sym z)) ∙ ip) far
        (subst (λ (z : ℕ). dist_of z d < k) (sym over) (omega (arith, near, m)))
        ∙ links_same (swept own p d g) (swept own p d f) (gone nd nw)
