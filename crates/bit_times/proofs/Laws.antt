-- What other crates may use of bit times, each with the sentence that it proves: of the rows of the baud table (`Listed`) and of how
-- long bits last (`Lasts`).
use Rattle.std.specs.Prelude.{ℕ, zero, suc, ◌+◌, ◌-◌, ◌*◌, ◌/◌, ◌<◌, ◌≤◌, ◌≡◌, refl, map, eqb, ltb, Bool, true, false, ◌&&◌, Result, Ok, Err}
use Rattle.std.proofs.Common.{sym, ◌∙◌, lit≤, arith, eq-or-lt_of_le, div-mul-le_self, div-lt_iff_lt-mul, le-div_iff_mul-le, le_of_suc-le-suc, lt-suc_self, mul-le-mul_right, suc-mul, ⊎_elim, eqb-true, ltb-true, ltb-false}
use Rattle.std.proofs.Math.ListN.{get_or-eq_default}
use Rattle.std.specs.Float.Ieee.Nearest.{div_mono}
use Rattle.refusals.specs.declared.refusal.Refusal.{Refusal}
use Rattle.refusals.specs.declared.refusal.Refusal.TheVariants.{BaudCode}
use Rattle.bit_times.specs.declared.bits.Bits.{Bits}
use Rattle.bit_times.specs.declared.baud.Baud.{Baud}
use Rattle.bit_times.specs.declared.baud.Baud.TheVariants.{B9600, B19200, B31250, B45450, B93750, B187500, B500000, B1500000, B3000000, B6000000, B12000000}
use Rattle.bit_times.specs.Times.{rates, code_of, rate_of, least_slot_bits, baud_of, rounded, time_of}
use Rattle.bit_times.specs.Laws.{Lasts, Listed}

-- a row of the table is listed where the checker computes that it is
row_listed : (b : Baud) → baud_of (code_of b) ≡ Ok b → code_of b ≤ 10 → (9600 ≤ rate_of b) × (rate_of b ≤ 12000000) → (100 ≤ least_slot_bits b) × (least_slot_bits b ≤ 1000) → Listed b
row_listed b e c r s = record { back = e; code_top = c; slowest = r.0; fastest = r.1; slot_low = s.0; slot_top = s.1 }

-- every rate is a row of the table
pub listed : (b : Baud) → Listed b
unfolding baud_of
listed B9600 = row_listed B9600 refl (lit≤ tt) (lit≤ tt, lit≤ tt) (lit≤ tt, lit≤ tt)
listed B19200 = row_listed B19200 refl (lit≤ tt) (lit≤ tt, lit≤ tt) (lit≤ tt, lit≤ tt)
listed B31250 = row_listed B31250 refl (lit≤ tt) (lit≤ tt, lit≤ tt) (lit≤ tt, lit≤ tt)
listed B45450 = row_listed B45450 refl (lit≤ tt) (lit≤ tt, lit≤ tt) (lit≤ tt, lit≤ tt)
listed B93750 = row_listed B93750 refl (lit≤ tt) (lit≤ tt, lit≤ tt) (lit≤ tt, lit≤ tt)
listed B187500 = row_listed B187500 refl (lit≤ tt) (lit≤ tt, lit≤ tt) (lit≤ tt, lit≤ tt)
listed B500000 = row_listed B500000 refl (lit≤ tt) (lit≤ tt, lit≤ tt) (lit≤ tt, lit≤ tt)
listed B1500000 = row_listed B1500000 refl (lit≤ tt) (lit≤ tt, lit≤ tt) (lit≤ tt, lit≤ tt)
listed B3000000 = row_listed B3000000 refl (lit≤ tt) (lit≤ tt, lit≤ tt) (lit≤ tt, lit≤ tt)
listed B6000000 = row_listed B6000000 refl (lit≤ tt) (lit≤ tt, lit≤ tt) (lit≤ tt, lit≤ tt)
listed B12000000 = row_listed B12000000 refl (lit≤ tt) (lit≤ tt, lit≤ tt) (lit≤ tt, lit≤ tt)

-- a code above 10 has no rate
pub baud_unknown : (n : ℕ) → 11 ≤ n → baud_of n ≡ Err BaudCode
unfolding baud_of
baud_unknown n h = get_or-eq_default (map Ok rates) (Err BaudCode) h

-- both parts of a conjunction hold
pub and_true : (a b : Bool) → (a && b) ≡ true → (a ≡ true) × (b ≡ true)
and_true true b t = (refl, t)
and_true false b t = (absurd (no_bool t), absurd (no_bool t))
  where
    no_bool : false ≡ true → ⊥
    no_bool e = let z : ◌≡◌ {A = ℕ} 0 1 = cc in omega arith

-- a test holds of each number below k
all : (ℕ → Bool) → ℕ → Bool
all p zero = true
all p (suc k) = all p k && p k

-- what a test computed for every number below k says of each
all_at_lem : (p : ℕ → Bool) (k n : ℕ) → all p k ≡ true → n < k → p n ≡ true
unfolding all
all_at_lem p zero n t h = absurd (omega arith)
all_at_lem p (suc k) n t h = ⊎_elim (λ e. rw e both.1) (λ l. all_at_lem p k n both.0 l) (eq-or-lt_of_le (le_of_suc h))
  where
    le_of_suc : n < suc k → n ≤ k
    le_of_suc l = omega arith

    both : (all p k ≡ true) × (p k ≡ true)
    both = and_true (all p k) (p k) t

-- the code that the reading of a code has, 11 for none
abbrev code_back : Result Baud Refusal → ℕ
code_back (Ok b) = code_of b
code_back (Err e) = 11

-- each code below 11 is read as a rate of that code
codes_back : all (λ m. eqb (code_back (baud_of m)) m) 11 ≡ true
unfolding all baud_of
codes_back = refl

-- a code that has a rate is the rate's code
pub baud_code : (n : ℕ) (b : Baud) → baud_of n ≡ Ok b → code_of b ≡ n
baud_code n b e = by (ltb n 11) refl
  where
    here : n < 11 → code_of b ≡ n
    here l = rw e at (eqb-true (code_back (baud_of n)) n (all_at_lem (λ m. eqb (code_back (baud_of m)) m) 11 n codes_back l))

    none : 11 ≤ n → ⊥
    none g = let z : ◌≡◌ {A = ℕ} 0 1 = cc (baud_unknown n g) in omega arith

    by : (t : Bool) → ltb n 11 ≡ t → code_of b ≡ n
    by true l = here (ltb-true _ _ l)
    by false g = absurd (none (ltb-false _ _ g))

-- a code that has no rate is refused for it
pub no_rate : (n : ℕ) (e : Refusal) → baud_of n ≡ Err e → e ≡ BaudCode
no_rate n e r = by (ltb n 11) refl
  where
    back : n < 11 → code_back (baud_of n) ≡ n
    back l = eqb-true (code_back (baud_of n)) n (all_at_lem (λ m. eqb (code_back (baud_of m)) m) 11 n codes_back l)

    here : n < 11 → ⊥
    here l = let none : 11 ≡ n = rw r at (back l) in omega arith

    by : (t : Bool) → ltb n 11 ≡ t → e ≡ BaudCode
    by true l = absurd (here (ltb-true _ _ l))
    by false g = let s : ◌≡◌ {A = Result Baud Refusal} (Err BaudCode) (Err e) = sym (baud_unknown n (ltb-false _ _ g)) ∙ r in cc

-- what rounding up gives, over whole numbers: the least number that is not below a / b, which is less than 1 above a / b
rounded_up : (a b : ℕ) → 0 < b → (a ≤ rounded a b * b) × (rounded a b * b < a + b)
unfolding rounded
rounded_up a b h =
    let below : (a + b - 1) / b * b ≤ a + b - 1 = div-mul-le_self (a + b - 1) b in
    let above : a + b - 1 < suc ((a + b - 1) / b) * b = (div-lt_iff_lt-mul h).0 (lt-suc_self ((a + b - 1) / b)) in
    (omega (arith, above, suc-mul ((a + b - 1) / b) b), omega (arith, below))

-- what is at most n times b is at most n, divided by b and rounded up
rounded_least : (a b n : ℕ) → 0 < b → a ≤ n * b → rounded a b ≤ n
unfolding rounded
rounded_least a b n h l = le_of_suc-le-suc ((div-lt_iff_lt-mul h).1 (omega (arith, suc-mul n b)))

-- the time of bits covers them at every rate
pub time_lasts : (bits : Bits) (b : Baud) → Lasts bits b
unfolding time_of
time_lasts bits b =
    let up = rounded_up (bits.0 * 1000000) (rate_of b) (omega (arith, (listed b).slowest)) in
    record { not_shorter = up.0; not_a_microsecond_longer = up.1 }

-- the time of any count of bits is at most 105 µs a bit: a count that fits 32 bits gives a time below 2^39
pub time_bound : (bits : Bits) (b : Baud) → (time_of bits b).0 ≤ bits.0 * 105
unfolding time_of
time_bound bits b =
    rounded_least (bits.0 * 1000000) (rate_of b) (bits.0 * 105) (omega (arith, (listed b).slowest)) (omega (arith, mul-le-mul_right (bits.0 * 105) (listed b).slowest))

-- bits take some time at every rate
pub time_some : (a : ℕ) (baud : Baud) → 1 ≤ a → 1 ≤ (time_of (record { 0 = a }) baud).0
unfolding time_of rounded
time_some a baud l =
    let some : 0 < rate_of baud = omega (arith, (listed baud).slowest) in
    let whole : 1 * rate_of baud ≤ a * 1000000 + rate_of baud - 1 = omega arith in
    (le-div_iff_mul-le some).1 whole

-- document 02, P3: 33 bits at code 10 take 3 µs
pub example_7 : time_of (record { 0 = 33 }) B12000000 ≡ record { 0 = 3 }
unfolding time_of rounded
example_7 = refl

-- more bits take no less time
pub time_grows : (a b : ℕ) (baud : Baud) → a ≤ b → (time_of (record { 0 = a }) baud).0 ≤ (time_of (record { 0 = b }) baud).0
unfolding time_of rounded
time_grows a b baud l =
    let some : 0 < rate_of baud = omega (arith, (listed baud).slowest) in
    div_mono (a * 1000000 + rate_of baud - 1) (rate_of baud) (b * 1000000 + rate_of baud - 1) (rate_of baud) some some (mul-le-mul_right (rate_of baud) (omega arith))
