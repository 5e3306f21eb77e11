-- The loop that takes out who stands between two stations: one step of it, and what is left after so many.
use Rattle.std.specs.Prelude.{ℕ, zero, suc, ◌+◌, ◌-◌, ◌<◌, ◌≤◌, ◌≡◌, refl, Bool, true, false, cond, List, eqb}
use Rattle.std.proofs.Common.{sym, ap, ◌∙◌, arith, lt-ltb, le-ltb, eq-eqb, ne_eqb}
use Rattle.ring_links.specs.Links.{after, unlink_of, sweep_of}

-- a sweep that meets what is no address is over
sweep_lost : (own d k p : ℕ) (l : List ℕ) → 126 ≤ after l p → sweep_of own d k p l ≡ l
unfolding sweep_of
sweep_lost own d zero p l h = refl
sweep_lost own d (suc k) p l h = rw (le-ltb (after l p) 126 h)

-- so is one that meets d
sweep_met : (own d k p : ℕ) (l : List ℕ) → after l p < 126 → after l p ≡ d → sweep_of own d k p l ≡ l
unfolding sweep_of
sweep_met own d zero p l h e = refl
sweep_met own d (suc k) p l h e = rw (lt-ltb (after l p) 126 h, eq-eqb (after l p) d e)

-- and one with no step left
sweep_none : (own d k p : ℕ) (l : List ℕ) → k ≡ 0 → sweep_of own d k p l ≡ l
unfolding sweep_of
sweep_none own d k p l e = rw e

-- any other goes on with one step less, from own or without the one that it met
sweep_on : (own d k p q : ℕ) (l m : List ℕ) → 0 < k → after l p < 126 → (after l p ≡ d → ⊥) → q ≡ cond (eqb (after l p) own) (after l p) p → m ≡ cond (eqb (after l p) own) l (unlink_of l (after l p))
    → sweep_of own d (k - 1) q m ≡ sweep_of own d k p l
unfolding sweep_of
sweep_on own d zero p q l m o h n e t = absurd (omega arith)
sweep_on own d (suc k) p q l m o h n e t =
    let less : suc k - 1 ≡ k = omega arith in
    rw (less, e, t, lt-ltb (after l p) 126 h, ne_eqb (after l p) d n) (go (eqb (after l p) own))
  where
    go : (b : Bool) → sweep_of own d k (cond b (after l p) p) (cond b l (unlink_of l (after l p))) ≡ cond b (sweep_of own d k (after l p) l) (sweep_of own d k p (unlink_of l (after l p)))
    go true = refl
    go false = refl

-- it is at an address again
pub sweep_place : (own x p q : ℕ) → x < 126 → p < 126 → q ≡ cond (eqb x own) x p → q < 126
sweep_place own x p q l m e = rw e (go (eqb x own))
  where
    go : (b : Bool) → cond b x p < 126
    go true = l
    go false = m

-- what is left to sweep from here, with i steps done, is the whole
pub record Swept (own d s : ℕ) (was : List ℕ) (i place : ℕ) (is : List ℕ) : Type 0 where
  pub rest : sweep_of own d (126 - i) place is ≡ sweep_of own d 126 s was
  pub address : place < 126

pub sweep_start : (own d s : ℕ) (was : List ℕ) → s < 126 → Swept own d s was 0 s was
sweep_start own d s was l = record { rest = refl; address = l }

module _ (own d s : ℕ) (was : List ℕ) (i place : ℕ) (is : List ℕ) (w : Swept own d s was i place is) where
  -- it is over where no address is met, or d, and after 126 steps
  pub sweep_lost_here : 126 ≤ after is place → is ≡ sweep_of own d 126 s was
  sweep_lost_here h = sym (sweep_lost own d (126 - i) place is h) ∙ w.rest

  pub sweep_met_here : after is place < 126 → after is place ≡ d → is ≡ sweep_of own d 126 s was
  sweep_met_here l h = sym (sweep_met own d (126 - i) place is l h) ∙ w.rest

  pub sweep_ends : 126 ≤ i → is ≡ sweep_of own d 126 s was
  sweep_ends l = sym (sweep_none own d (126 - i) place is (omega arith)) ∙ w.rest

  less : (q : ℕ) (xs ys : List ℕ) → sweep_of own d (126 - i - 1) q xs ≡ ys → sweep_of own d (126 - (i + 1)) q xs ≡ ys
  less q xs ys t = ap (λ k. sweep_of own d k q xs) (omega arith) ∙ t

  -- own is passed over
  pub sweep_passes : i < 126 → after is place < 126 → (after is place ≡ d → ⊥) → after is place ≡ own → Swept own d s was (i + 1) (after is place) is
  sweep_passes l m n h =
      let pick : after is place ≡ cond (eqb (after is place) own) (after is place) place = rw (eq-eqb (after is place) own h) refl in
      let keep : is ≡ cond (eqb (after is place) own) is (unlink_of is (after is place)) = rw (eq-eqb (after is place) own h) refl in
      record { rest = less _ _ _ (sweep_on own d (126 - i) place (after is place) is is (omega arith) m n pick keep) ∙ w.rest; address = m }

  -- any other is taken out
  pub sweep_takes : i < 126 → after is place < 126 → (after is place ≡ d → ⊥) → (after is place ≡ own → ⊥) → Swept own d s was (i + 1) place (unlink_of is (after is place))
  sweep_takes l m n o =
      let stay : place ≡ cond (eqb (after is place) own) (after is place) place = rw (ne_eqb (after is place) own o) refl in
      let taken : unlink_of is (after is place) ≡ cond (eqb (after is place) own) is (unlink_of is (after is place)) = rw (ne_eqb (after is place) own o) refl in
      record {
        rest = less _ _ _ (sweep_on own d (126 - i) place place is (unlink_of is (after is place)) (omega arith) m n stay taken) ∙ w.rest;
        address = w.address;
      }
