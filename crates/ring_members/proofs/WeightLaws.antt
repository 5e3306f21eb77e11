-- The weights of a byte's members, weighed one after the other (`Weighed`) and added, are the byte. Assumes nothing.
use Rattle.std.specs.Prelude.{ℕ, ◌+◌, ◌-◌, ◌*◌, ◌%◌, ◌^◌, ◌<◌, ◌≤◌, ◌≡◌, refl, Bool, true, false, cond, not, List, ◌++◌, length, get_or, set, take, replicate, eqb, ltb}
use Rattle.std.proofs.Common.{sym, ap, subst, ◌∙◌, arith, eqb-true, ltb-true, length-set, get_or-set_same, get_or-set_other}
use Rattle.std.proofs.lemmas.Bool.{eqb-false}
use Rattle.std.proofs.lemmas.List.{get_or-take, get_or_append_left, length-append}
use borrow.Table.Steps.{cases}
use Rattle.codec_fields.specs.Fields.{bit_number}
use Rattle.ring_links.specs.Links.{listed, tab}
use Rattle.ring_links.specs.Tables.{length_tab, tab_at, tab_is}
use Rattle.ring_members.specs.Members.{weight_of, weighed, eight_added, bits_of}
use Rattle.ring_members.specs.Weights.{Weighed}

pub weighed_none : (l w : List ℕ) → w ≡ tab weight_of 128 0 → Weighed l 0 w
weighed_none l w e =
    record {
      long = ap length e ∙ length_tab weight_of 128 0;
      done = λ x u. absurd (omega (arith, u));
      left = λ x u low. ap (λ (t : List ℕ). get_or t x 0) e ∙ tab_at 0 weight_of 128 x low;
    }

-- of 128 entries, the first 126 of which are the table, the two more weigh nothing
entry_weighed : (l t : List ℕ) (a : ℕ) → length t ≡ 128 → t ≡ take 126 l ++ replicate 2 127 → cond (eqb (get_or t a 0) 127) 0 (weight_of a) ≡ weighed l a
unfolding weighed weight_of
entry_weighed l t a long entries = cases (ltb a 126) (λ h. address (ltb-true a 126 h)) (λ h. rw h (zeros (eqb (get_or t a 0) 127) (eqb (get_or l a 0) 127)))
  where
    table : length (take 126 l) ≡ 126
    table = let both : length (take 126 l ++ replicate {A = ℕ} 2 127) ≡ 128 = sym (ap length entries) ∙ long in omega (arith, length-append (take 126 l) (replicate {A = ℕ} 2 127), both)

    address : a < 126 → cond (eqb (get_or t a 0) 127) 0 (cond (ltb a 126) (2 ^ (7 - a % 8)) 0) ≡ cond (eqb (get_or l a 0) 127) 0 (cond (ltb a 126) (2 ^ (7 - a % 8)) 0)
    address h =
        ap (λ (n : ℕ). cond (eqb n 127) 0 (cond (ltb a 126) (2 ^ (7 - a % 8)) 0))
        (ap (λ (xs : List ℕ). get_or xs a 0) entries ∙ get_or_append_left (take 126 l) (replicate 2 127) 0 a (omega (arith, table)) ∙ get_or-take 126 l a 0 h)

    zeros : (b c : Bool) → ◌≡◌ {A = ℕ} (cond b 0 0) (cond c 0 0)
    zeros true true = refl
    zeros true false = refl
    zeros false true = refl
    zeros false false = refl

pub weighed_more : (l t w : List ℕ) (a v : ℕ) → a < 128 → length t ≡ 128 → t ≡ take 126 l ++ replicate 2 127 → Weighed l a w → v ≡ cond (eqb (get_or t a 0) 127) 0 (get_or w a 0) → Weighed l (a + 1) (set w a v)
weighed_more l t w a v low long entries k e =
    record {
      long = length-set w a v ∙ k.long;
      done = λ x u. cases (eqb x a) (λ t. here x (eqb-true x a t)) (λ f. get_or-set_other w a x v 0 (eqb-false x a f) ∙ k.done x (omega (arith, u, eqb-false x a f)));
      left = λ x u lx. get_or-set_other w a x v 0 (λ z. omega (arith, z, u)) ∙ k.left x (omega (arith, u)) lx;
    }
  where
    here : (x : ℕ) → x ≡ a → get_or (set w a v) x 0 ≡ weighed l x
    here x z =
        ap (λ (n : ℕ). get_or (set w a v) n 0) z
        ∙ get_or-set_same w a v 0 (omega (arith, k.long, low))
        ∙ e
        ∙ ap (λ (n : ℕ). cond (eqb (get_or t a 0) 127) 0 n) (k.left a (omega arith) low)
        ∙ entry_weighed l t a long entries
        ∙ ap (weighed l) (sym z)

pub weighed_all : (l w : List ℕ) (a : ℕ) → a ≡ 128 → Weighed l a w → w ≡ tab (weighed l) 128 0
weighed_all l w a e k = tab_is 0 (weighed l) 128 w k.long (λ x u. k.done x (omega (arith, u, e)))

-- A byte.

-- a weight is that of its bit, or none
weight_is : (l : List ℕ) (i k : ℕ) → i < 16 → k < 8 → weighed l (8 * i + k) ≡ bit_number (listed l (8 * i + k)) * 2 ^ (7 - k)
unfolding weighed weight_of listed
weight_is l i k li lk =
    let place : (8 * i + k) % 8 ≡ k = omega (arith, lk) in
    rw place (go (ltb (8 * i + k) 126) refl (eqb (get_or l (8 * i + k) 0) 127) refl)
  where
    go : (b : Bool) → ltb (8 * i + k) 126 ≡ b → (c : Bool) → eqb (get_or l (8 * i + k) 0) 127 ≡ c
        → cond (eqb (get_or l (8 * i + k) 0) 127) 0 (cond (ltb (8 * i + k) 126) (2 ^ (7 - k)) 0) ≡ bit_number (cond (ltb (8 * i + k) 126) (not (eqb (get_or l (8 * i + k) 0) 127)) false) * 2 ^ (7 - k)
    go true q true r = rw (q, r) (omega arith)
    go true q false r = rw (q, r) (omega arith)
    go false q true r = rw (q, r) (omega arith)
    go false q false r = rw (q, r) (omega arith)

-- it is no more than its bit's
pub weight_most : (l w : List ℕ) (i k : ℕ) → w ≡ tab (weighed l) 128 0 → i < 16 → k < 8 → get_or w (8 * i + k) 0 ≤ 2 ^ (7 - k)
weight_most l w i k e li lk =
    let is = ap (λ (t : List ℕ). get_or t (8 * i + k) 0) e ∙ tab_at 0 (weighed l) 128 (8 * i + k) (omega (arith, li, lk)) ∙ weight_is l i k li lk in
    subst (λ (n : ℕ). n ≤ 2 ^ (7 - k)) (sym is) (most (listed l (8 * i + k)) (2 ^ (7 - k)))
  where
    most : (b : Bool) (n : ℕ) → bit_number b * n ≤ n
    most true n = omega arith
    most false n = omega arith

-- eight weights added are the byte
pub byte_added_up : (l w : List ℕ) (i : ℕ) → w ≡ tab (weighed l) 128 0 → i < 16 → eight_added w (8 * i) ≡ bits_of (listed l) (8 * i) 8
unfolding eight_added bits_of
byte_added_up l w i e li =
    let zero_on : 8 * i + 0 ≡ 8 * i = omega arith in
    let b0 = ap (λ (n : ℕ). get_or w n 0) (sym zero_on) ∙ at 0 (omega arith) in
    omega (arith, b0, at 1 (omega arith), at 2 (omega arith), at 3 (omega arith), at 4 (omega arith), at 5 (omega arith), at 6 (omega arith), at 7 (omega arith))
  where
    at : (k : ℕ) → k < 8 → get_or w (8 * i + k) 0 ≡ bit_number (listed l (8 * i + k)) * 2 ^ (7 - k)
    at k lk = ap (λ (t : List ℕ). get_or t (8 * i + k) 0) e ∙ tab_at 0 (weighed l) 128 (8 * i + k) (omega (arith, li, lk)) ∙ weight_is l i k li lk

-- the most that each of eight weights of a byte can be
pub eight_fit :
    (w : List ℕ) (a : ℕ)
    → ((k : ℕ) → k < 8 → get_or w (a + k) 0 ≤ 2 ^ (7 - k))
    → (get_or w a 0 ≤ 128) × (get_or w (a + 1) 0 ≤ 64) × (get_or w (a + 2) 0 ≤ 32) × (get_or w (a + 3) 0 ≤ 16) × (get_or w (a + 4) 0 ≤ 8) × (get_or w (a + 5) 0 ≤ 4) × (get_or w (a + 6) 0 ≤ 2) × (get_or w (a + 7) 0 ≤ 1)
eight_fit w a h =
    let here : get_or w (a + 0) 0 ≡ get_or w a 0 = ap (λ (n : ℕ). get_or w n 0) (omega arith) in (
      subst (λ (n : ℕ). n ≤ 128) here (h 0 (omega arith)),
      h 1 (omega arith),
      h 2 (omega arith),
      h 3 (omega arith),
      h 4 (omega arith),
      h 5 (omega arith),
      h 6 (omega arith),
      h 7 (omega arith),
    )
