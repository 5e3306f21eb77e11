-- Rings of station 0 whose members are 0, 1, .. k.
use Rattle.std.specs.Prelude.{ℕ, zero, suc, ◌+◌, ◌≤◌, ◌<◌, Bool, true, false, cond, not, ◌||◌, ◌≡◌, refl, List, [], ◌∷◌, length, eqb, leb, ltb, Option}
use Rattle.std.proofs.Common.{sym, ap, ◌∙◌, arith, le-leb, le-ltb, lt-ltb, ne_eqb, leb-true, leb-false, eqb-true}
use Rattle.std.proofs.lemmas.Bool.{lt-leb}
use borrow.Table.Steps.{cases}
use Rattle.ring_addresses.specs.Set.{up, walk, between_of, keeps, same_set}
use Rattle.ring_addresses.specs.SetLaws.{true≢false, walk_ext, walk_nobody, same_then}
use Rattle.ring.specs.Ring.{Ring, has, others, first_of, next_of, polls_on, polls, witness_of}
use Rattle.ring.specs.Laws.{SoundRing}
use Rattle.ring.proofs.Laws.{next_first, next_other, witness_has}
use Rattle.ring.specs.Worked.{witness_all, kept_after, addresses_only}
use Rattle.ring.proofs.Worked.{witnessed_has}

-- the members are 0, 1, .. k
abbrev pub UpTo : Ring → ℕ → Type 0
UpTo r k = (x : ℕ) → x < 126 → has r x ≡ leb x k

-- walking on from d, at most one past k, finds those that are left up to k
walk_up : (n d k : ℕ) → d + n ≡ 126 → d ≤ suc k → k ≤ 125 → length (walk (λ (x : ℕ). leb x k) (up 0) n d) + d ≡ suc k
unfolding walk
walk_up zero d k e l m = omega arith
walk_up (suc n) d k e l m =
    let here : up 0 d ≡ d = omega arith in
    cases (leb d k)
    (λ t. rw (here, t) (omega (arith, walk_up n (suc d) k (omega arith) (omega (arith, leb-true d k t)) m)))
    (λ f.
    let none = walk_nobody (λ (x : ℕ). leb x k) (up 0) n (suc d) (λ x a b. lt-leb (up 0 x) k (omega (arith, leb-false d k f))) in
    rw (here, f, none) (omega (arith, leb-false d k f)))

-- such a ring has k others
pub others_up_to : (r : Ring) (k : ℕ) → r.own ≡ 0 → k ≤ 125 → UpTo r k → length (others r) ≡ k
unfolding others
others_up_to r k own l h =
    let same = walk_ext (has r) (λ (x : ℕ). leb x k) (up 0) 125 1 (λ e a b. h (up 0 e) (omega arith)) in
    ap (λ (o : ℕ). length (walk (has r) (up o) 125 1)) own ∙ ap length same ∙ omega (arith, walk_up 125 1 k (omega arith) (omega arith) l)

-- a ring that has these but not 1 has one other less
walk_skip : (f : ℕ → Bool) (n d : ℕ) → f (up 0 d) ≡ false → walk f (up 0) (suc n) d ≡ walk f (up 0) n (suc d)
unfolding walk
walk_skip f n d e = rw e

pub others_but_one : (r : Ring) (k : ℕ) → r.own ≡ 0 → 1 ≤ k → k ≤ 125 → has r 1 ≡ false → ((x : ℕ) → x < 126 → (eqb x 1 || has r x) ≡ leb x k) → length (others r) + 1 ≡ k
unfolding others
others_but_one r k own l m out h =
    let same = walk_ext (has r) (λ (x : ℕ). leb x k) (up 0) 124 2 (λ e a b. ap (λ (c : Bool). c || has r (up 0 e)) (sym (ne_eqb (up 0 e) 1 (λ z. omega arith))) ∙ h (up 0 e) (omega arith)) in
    let rest : length (walk (has r) (up 0) 125 1) ≡ length (walk (λ (x : ℕ). leb x k) (up 0) 124 2) = ap length (walk_skip (has r) 124 1 out ∙ same) in
    ap (λ (o : ℕ). length (walk (has r) (up o) 125 1) + 1) own ∙ omega (arith, walk_up 124 2 k (omega arith) (omega arith) m)

-- the members that station 0 has after passes between addresses, told by a test
pub members_of : (passes : List (ℕ × ℕ)) (r : Ring) (f g : ℕ → Bool) → SoundRing r → r.own ≡ 0 → ((x : ℕ) → x < 126 → has r x ≡ f x) → addresses_only passes ≡ true → same_set (λ (x : ℕ). kept_after 0 (f x) passes x) g 126 ≡ true → (x : ℕ) → x < 126 → has (witness_all r passes) x ≡ g x
members_of passes r f g sound own held low left x l =
    witnessed_has passes r x sound low l
    ∙ ap (λ (o : ℕ). kept_after o (has r x) passes x) own
    ∙ ap (λ (b : Bool). kept_after 0 b passes x) (held x l)
    ∙ same_then (λ (y : ℕ). kept_after 0 (f y) passes y) g 126 left x l

-- who lies strictly between k and 0 going up: whoever is above k
above : (k x : ℕ) → 1 ≤ k → between_of k x 0 ≡ ltb k x
unfolding between_of
above k x l = rw (le-ltb k 0 (omega arith), ne_eqb k 0 (λ e. omega arith), le-ltb x 0 (omega arith)) (either (ltb k x))
  where
    either : (b : Bool) → cond b true false ≡ b
    either true = refl
    either false = refl

-- a token from k to 0 takes out who is above k, and nobody else
keeps_cut : (k x : ℕ) → 1 ≤ k → keeps 0 k 0 true x ≡ leb x k
unfolding keeps
keeps_cut k x l =
    cases (leb x k)
    (λ t.
    let low = leb-true x k t in
    rw (t, above k x l, le-ltb k x low) (either (eqb x 0)))
    (λ f.
    let high = leb-false x k f in
    rw (f, above k x l, lt-ltb k x high, ne_eqb x 0 (λ e. omega arith)))
  where
    either : (b : Bool) → (b || true) ≡ true
    either true = refl
    either false = refl

-- of all members those up to k stay
pub cut_all : (r : Ring) (k : ℕ) → SoundRing r → r.own ≡ 0 → 1 ≤ k → k ≤ 125 → ((x : ℕ) → x < 126 → has r x ≡ true) → UpTo (witness_of r k 0) k
cut_all r k sound own l m h x a =
    witness_has r k 0 x sound (omega arith) (omega arith) a
    ∙ ap (λ (o : ℕ). keeps o k 0 (has r x) x) own
    ∙ ap (λ (b : Bool). keeps 0 k 0 b x) (h x a)
    ∙ keeps_cut k x l

-- of all members but 1 those up to k stay, and 1 comes in
pub cut_added : (r : Ring) (k : ℕ) → SoundRing r → r.own ≡ 0 → 2 ≤ k → k ≤ 125 → ((x : ℕ) → x < 126 → has r x ≡ not (eqb x 1)) → (x : ℕ) → x < 126 → (eqb x 1 || has (witness_of r k 0) x) ≡ leb x k
cut_added r k sound own l m h x a =
    cases (eqb x 1) (λ e. rw e (sym (le-leb x k (omega (arith, eqb-true x 1 e)))))
    (λ e.
    rw e
    (witness_has r k 0 x sound (omega arith) (omega arith) a
    ∙ ap (λ (o : ℕ). keeps o k 0 (has r x) x) own
    ∙ ap (λ (b : Bool). keeps 0 k 0 b x) (h x a ∙ ap not e)
    ∙ keeps_cut k x (omega arith)))

-- 1 stays out
pub one_out : (r : Ring) (k : ℕ) → SoundRing r → 2 ≤ k → k ≤ 125 → has r 1 ≡ false → has (witness_of r k 0) 1 ≡ false
unfolding keeps
one_out r k sound l m out = witness_has r k 0 1 sound (omega arith) (omega arith) (omega arith) ∙ rw (out, ne_eqb 1 k (λ e. omega arith))

-- 1 lies between 0 and whoever is above 1
one_between : (n : ℕ) → 1 < n → between_of 0 1 n ≡ true
unfolding between_of
one_between n l = rw (lt-ltb 0 n (omega arith), lt-ltb 1 n l)

above_one : (n : ℕ) → (n ≡ 0 → ⊥) → (n ≡ 1 → ⊥) → 1 < n
above_one zero a b = absurd (a refl)
above_one (suc zero) a b = absurd (b refl)
above_one (suc (suc n)) a b = omega arith

-- where 1 is no member it is asked
pub one_asked : (r : Ring) → SoundRing r → r.own ≡ 0 → has r 1 ≡ false → polls r 1 ≡ true
unfolding polls
one_asked r s own out =
    ap (λ (o : ℕ). polls_on (next_of r) o 1) own ∙ ap (λ (n : Option ℕ). polls_on n 0 1) (next_first r s) ∙ go (others r) refl
  where
    go : (os : List ℕ) → others r ≡ os → polls_on (first_of os) 0 1 ≡ true
    go [] e = refl
    go (y ∷ ys) e =
        let other = next_other r y ys s e in
        one_between y (above_one y (λ z. other.not_own (z ∙ sym own)) (λ z. true≢false (sym other.in_set_lem ∙ ap (has r) z ∙ out)))
