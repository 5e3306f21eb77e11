-- Laws of two words as a set of addresses.
use Rattle.std.specs.Prelude.{ℕ, zero, suc, ◌+◌, ◌-◌, ◌*◌, ◌/◌, ◌%◌, ◌^◌, ◌<◌, ◌≤◌, ◌≡◌, refl, Bool, true, false, cond, ltb, eqb}
use Rattle.std.proofs.Common.{sym, ap, subst, ◌∙◌, div-one, zero-add, arith, shr-shr, ltb-true, ltb-false, lt-ltb, le-ltb}
use Rattle.ring_addresses.specs.Words.{bit_of, word_of, has_in}

-- bit 0
pub bit_zero : (w : ℕ) → bit_of w 0 ≡ eqb (w % 2) 1
unfolding bit_of
bit_zero w = ap (λ (n : ℕ). eqb (n % 2) 1) (div-one w)

-- bit k + 1 is bit k of the half
pub bit_suc : (w k : ℕ) → bit_of w (suc k) ≡ bit_of (w / 2) k
unfolding bit_of
bit_suc w k =
    let e : suc k ≡ 1 + k = omega arith in
    ap (λ (n : ℕ). eqb (w / 2 ^ n % 2) 1) e ∙ ap (λ (n : ℕ). eqb (n % 2) 1) (sym (shr-shr w 1 k))

half : (w b : ℕ) → b < 2 → (w * 2 + b) / 2 ≡ w
half w b l = omega arith

odd : (w b : ℕ) → b < 2 → (w * 2 + b) % 2 ≡ b
odd w b l = omega arith

digit_lt : (b : Bool) → cond b 1 0 < 2
digit_lt true = omega arith
digit_lt false = omega arith

digit_is : (b : Bool) → eqb (cond b 1 0) 1 ≡ b
digit_is true = refl
digit_is false = refl

-- bit k of the word of a set says whether address from + k is in it
pub word_bit : (f : ℕ → Bool) (from n k : ℕ) → k < n → bit_of (word_of f from n) k ≡ f (from + k)
unfolding word_of
word_bit f from zero k l = absurd (omega arith)
word_bit f from (suc n) zero l =
    bit_zero (word_of f (suc from) n * 2 + cond (f from) 1 0)
    ∙ ap (λ (x : ℕ). eqb x 1) (odd (word_of f (suc from) n) (cond (f from) 1 0) (digit_lt (f from)))
    ∙ digit_is (f from)
    ∙ ap f (omega arith)
word_bit f from (suc n) (suc k) l =
    bit_suc (word_of f (suc from) n * 2 + cond (f from) 1 0) k
    ∙ ap (λ (x : ℕ). bit_of x k) (half (word_of f (suc from) n) (cond (f from) 1 0) (digit_lt (f from)))
    ∙ word_bit f (suc from) n k (omega arith)
    ∙ ap f (omega arith)

-- The two words.

-- below 64 the low word says who is a member
pub has_low : (low high a : ℕ) → a < 64 → has_in low high a ≡ bit_of low a
unfolding has_in
has_low low high a l = rw (lt-ltb a 64 l)

-- from 64 to 125 the high word does
pub has_high : (low high k : ℕ) → k < 62 → has_in low high (64 + k) ≡ bit_of high k
unfolding has_in
has_high low high k l =
    let less : 64 + k - 64 ≡ k = omega arith in
    rw (le-ltb (64 + k) 64 (omega arith), lt-ltb (64 + k) 126 (omega arith), less)

-- above 125 nobody is
pub has_out : (low high a : ℕ) → 126 ≤ a → has_in low high a ≡ false
unfolding has_in
has_out low high a l = rw (le-ltb a 64 (omega arith), le-ltb a 126 l)

-- what holds of the addresses of each word holds of all
pub in_words : (P : ℕ → Type 0) → ((a : ℕ) → a < 64 → P a) → ((k : ℕ) → k < 62 → P (64 + k)) → (a : ℕ) → a < 126 → P a
in_words P h k a l = go (ltb a 64) refl
  where
    go : (b : Bool) → ltb a 64 ≡ b → P a
    go true q = h a (ltb-true a 64 q)
    go false q =
        let m : 64 ≤ a = ltb-false a 64 q in
        let back : 64 + (a - 64) ≡ a = omega arith in
        subst P back (k (a - 64) (omega arith))

-- the words of a set keep the set
pub has_words : (f : ℕ → Bool) (a : ℕ) → a < 126 → has_in (word_of f 0 64) (word_of f 64 62) a ≡ f a
has_words f =
    in_words (λ a. has_in (word_of f 0 64) (word_of f 64 62) a ≡ f a)
    (λ a l. has_low (word_of f 0 64) (word_of f 64 62) a l ∙ word_bit f 0 64 a l ∙ ap f (zero-add a))
    (λ k l. has_high (word_of f 0 64) (word_of f 64 62) k l ∙ word_bit f 64 62 k l)
