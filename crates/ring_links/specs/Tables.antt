-- Laws of tables: a list that is a function at every index, and what a store changes.
use Rattle.std.specs.Prelude.{ℕ, zero, suc, ◌+◌, ◌<◌, ◌≡◌, refl, Bool, true, false, cond, List, length, get_or, set, eqb}
use Rattle.std.proofs.Common.{sym, ap, ◌∙◌, add-zero, zero-add, arith, length-set, get_or-set_same, get_or-set_other, ext_get_or, eqb-true}
use Rattle.std.proofs.lemmas.Bool.{eqb-false}
use Rattle.ring_links.specs.Links.{after, before, put, tab}

get_d_tab : (z : ℕ) (f : ℕ → ℕ) (n i x : ℕ) → x < n → get_or (tab f n i) x z ≡ f (i + x)
unfolding tab
get_d_tab z f zero i x l = absurd (omega arith)
get_d_tab z f (suc n) i zero l = rw (add-zero i)
get_d_tab z f (suc n) i (suc x) l = get_d_tab z f n (suc i) x (omega arith) ∙ ap f (omega arith)

pub length_tab : (f : ℕ → ℕ) (n i : ℕ) → length (tab f n i) ≡ n
unfolding tab
length_tab f zero i = refl
length_tab f (suc n) i = ap suc (length_tab f n (suc i))

pub tab_at : (z : ℕ) (f : ℕ → ℕ) (n x : ℕ) → x < n → get_or (tab f n 0) x z ≡ f x
tab_at z f n x l = get_d_tab z f n 0 x l ∙ ap f (zero-add x)

-- a list that is f at every index is the table of f
pub tab_is : (z : ℕ) (f : ℕ → ℕ) (n : ℕ) (l : List ℕ) → length l ≡ n → ((x : ℕ) → x < n → get_or l x z ≡ f x) → l ≡ tab f n 0
tab_is z f n l e h = ext_get_or z l (tab f n 0) (e ∙ sym (length_tab f n 0)) (λ x b. h x (omega arith) ∙ sym (tab_at z f n x (omega arith)))

-- functions that agree have one table
pub tab_ext : (f g : ℕ → ℕ) (n : ℕ) → ((x : ℕ) → x < n → f x ≡ g x) → tab f n 0 ≡ tab g n 0
tab_ext f g n h = tab_is 0 g n (tab f n 0) (length_tab f n 0) (λ x l. tab_at 0 f n x l ∙ h x l)

-- a store leaves the length
pub length_put : (l : List ℕ) (x u y v : ℕ) → length (put l x u y v) ≡ length l
length_put l x u y v = length-set (set l x u) (126 + y) v ∙ length-set l x u

-- it changes one entry of the first table
pub after_put : (l : List ℕ) (x u y v k : ℕ) → length l ≡ 252 → x < 126 → k < 126 → after (put l x u y v) k ≡ cond (eqb k x) u (after l k)
after_put l x u y v k n lx lk = get_or-set_other (set l x u) (126 + y) k v 0 (omega arith) ∙ go (eqb k x) refl
  where
    go : (b : Bool) → eqb k x ≡ b → get_or (set l x u) k 0 ≡ cond b u (get_or l k 0)
    go true q = ap (λ (j : ℕ). get_or (set l x u) j 0) (eqb-true k x q) ∙ get_or-set_same l x u 0 (omega arith)
    go false q = let far : k ≡ x → ⊥ = eqb-false k x q in get_or-set_other l x k u 0 (omega arith)

-- and one of the second
pub before_put : (l : List ℕ) (x u y v k : ℕ) → length l ≡ 252 → x < 126 → y < 126 → k < 126 → before (put l x u y v) k ≡ cond (eqb k y) v (before l k)
before_put l x u y v k n lx ly lk = go (eqb k y) refl
  where
    go : (b : Bool) → eqb k y ≡ b → get_or (put l x u y v) (126 + k) 0 ≡ cond b v (get_or l (126 + k) 0)
    go true q =
        let long : length (set l x u) ≡ 252 = length-set l x u ∙ n in
        ap (λ (j : ℕ). get_or (put l x u y v) (126 + j) 0) (eqb-true k y q) ∙ get_or-set_same (set l x u) (126 + y) v 0 (omega arith)
    go false q =
        let far : k ≡ y → ⊥ = eqb-false k y q in
        get_or-set_other (set l x u) (126 + y) (126 + k) v 0 (omega arith) ∙ get_or-set_other l x (126 + k) u 0 (omega arith)
