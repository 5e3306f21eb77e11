-- Distances of addresses going up, 125 followed by 0, and what lies between two addresses.
use Rattle.std.specs.Prelude.{ℕ, ◌+◌, ◌<◌, ◌≤◌, ◌≡◌, refl, Bool, true, false, ◌⊎◌, ltb}
use Rattle.std.proofs.Common.{sym, ◌∙◌, inl, inr, arith, lt-ltb, ltb-true, ltb-false}
use Rattle.ring_addresses.specs.Set.{up, between_of}
use Rattle.ring_addresses.specs.SetLaws.{dist_of, between_is, between_on}

-- a distance is below 126
pub dist_low : (a b : ℕ) → dist_of a b < 126
dist_low a b = omega arith

-- between two addresses it is not 0
pub dist_some : (a b : ℕ) → a < 126 → b < 126 → (a ≡ b → ⊥) → 0 < dist_of a b
dist_some a b l m n = omega arith

-- up by the distance leads there
pub up_dist : (a b : ℕ) → a < 126 → b < 126 → up a (dist_of a b) ≡ b
up_dist a b l m = omega arith

-- the distance of the address that is d up
pub dist_up : (a d : ℕ) → a < 126 → d < 126 → dist_of a (up a d) ≡ d
dist_up a d l m = omega arith

-- what is nearer lies between
pub between_from : (a x b : ℕ) → a < 126 → x < 126 → b < 126 → 0 < dist_of a x → dist_of a x < dist_of a b → between_of a x b ≡ true
between_from a x b la lx lb p q = between_is a x b la lx lb ∙ rw (lt-ltb 0 (dist_of a x) p, lt-ltb (dist_of a x) (dist_of a b) q)

dist_is : (a b : ℕ) → a < 126 → b < 126 → (dist_of a b + a ≡ b) ⊎ (dist_of a b + a ≡ b + 126)
dist_is a b la lb = go (ltb b a) refl
  where
    go : (c : Bool) → ltb b a ≡ c → (dist_of a b + a ≡ b) ⊎ (dist_of a b + a ≡ b + 126)
    go true q = let h = ltb-true b a q in inr (omega arith)
    go false q = let h = ltb-false b a q in inl (omega arith)

ways : (s m x p q e : ℕ) → p < 126 → q < 126 → e < 126 → p ≤ q
    → (p + s ≡ m) ⊎ (p + s ≡ m + 126) → (q + s ≡ x) ⊎ (q + s ≡ x + 126) → (e + m ≡ x) ⊎ (e + m ≡ x + 126) → e + p ≡ q
ways s m x p q e lp lq le l (inl f) (inl g) (inl h) = omega arith
ways s m x p q e lp lq le l (inl f) (inl g) (inr h) = omega arith
ways s m x p q e lp lq le l (inl f) (inr g) (inl h) = omega arith
ways s m x p q e lp lq le l (inl f) (inr g) (inr h) = omega arith
ways s m x p q e lp lq le l (inr f) (inl g) (inl h) = omega arith
ways s m x p q e lp lq le l (inr f) (inl g) (inr h) = omega arith
ways s m x p q e lp lq le l (inr f) (inr g) (inl h) = omega arith
ways s m x p q e lp lq le l (inr f) (inr g) (inr h) = omega arith

-- the way from s to x, by m
pub dist_by : (s m x : ℕ) → s < 126 → m < 126 → x < 126 → dist_of s m ≤ dist_of s x → dist_of m x + dist_of s m ≡ dist_of s x
dist_by s m x ls lm lx h =
    ways s m x (dist_of s m) (dist_of s x) (dist_of m x) (dist_low s m) (dist_low s x) (dist_low m x) h (dist_is s m ls lm) (dist_is s x ls lx) (dist_is m x lm lx)

le_both : (a b c : ℕ) → a ≤ b → b < c → a ≤ c
le_both a b c p q = omega arith

sums : (a b c m : ℕ) → a + m ≡ b → c < b → (e : ℕ) → e + m ≡ c → e < a
sums a b c m h l e q = omega arith

-- what lies between two addresses lies on the one or the other side of a third
pub beside : (s m d x : ℕ) → s < 126 → m < 126 → d < 126 → x < 126 → (x ≡ m → ⊥) → between_of s x d ≡ true → (between_of s x m ≡ true) ⊎ (between_of m x d ≡ true)
beside s m d x ls lm ld lx n b = go (ltb (dist_of s x) (dist_of s m)) refl (between_on s x d ls lx ld b)
  where
    go : (c : Bool) → ltb (dist_of s x) (dist_of s m) ≡ c → (0 < dist_of s x) × (dist_of s x < dist_of s d) → (between_of s x m ≡ true) ⊎ (between_of m x d ≡ true)
    go true q h = inl (between_from s x m ls lx lm h.0 (ltb-true (dist_of s x) (dist_of s m) q))
    go false q h =
        let far = ltb-false (dist_of s x) (dist_of s m) q in
        inr
        (between_from m x d lm lx ld (dist_some m x lm lx (λ e. n (sym e)))
        (sums (dist_of m d) (dist_of s d) (dist_of s x) (dist_of s m) (dist_by s m d ls lm ld (le_both (dist_of s m) (dist_of s x) (dist_of s d) far h.1)) h.1 (dist_of m x) (dist_by s m x ls lm lx far)))

-- a way of less than one round, by m
pub dist_way : (s m x : ℕ) → s < 126 → m < 126 → x < 126 → dist_of s m + dist_of m x < 126 → dist_of s x ≡ dist_of s m + dist_of m x
dist_way s m x ls lm lx h = go (ltb (dist_of s x) (dist_of s m)) refl
  where
    round : (a b : ℕ) → a < 126 → b < 126 → 0 < dist_of a b → dist_of a b + dist_of b a ≡ 126
    round a b la lb n = omega arith

    go : (b : Bool) → ltb (dist_of s x) (dist_of s m) ≡ b → dist_of s x ≡ dist_of s m + dist_of m x
    go true q =
        let near = ltb-true (dist_of s x) (dist_of s m) q in
        let first = dist_by s x m ls lx lm (omega (arith, near)) in
        let whole = round x m lx lm (omega (arith, first, near)) in
        absurd (omega (arith, first, whole, h))
    go false q = let far = ltb-false (dist_of s x) (dist_of s m) q in let sum = dist_by s m x ls lm lx far in omega (arith, sum)

-- what lies between m and d lies between s and d, where m does
pub between_on_from : (s m d x : ℕ) → s < 126 → m < 126 → d < 126 → x < 126 → between_of s m d ≡ true → between_of m x d ≡ true → between_of s x d ≡ true
between_on_from s m d x ls lm ld lx b c =
    let u = between_on s m d ls lm ld b in
    let v = between_on m x d lm lx ld c in
    let whole = dist_by s m d ls lm ld (le_of u.1) in
    let sum = dist_way s m x ls lm lx (omega (arith, v.1, whole, dist_low s d)) in
    between_from s x d ls lx ld (omega (arith, sum, u.0)) (omega (arith, sum, v.1, whole))
  where
    le_of : {a b : ℕ} → a < b → a ≤ b
    le_of l = omega arith
