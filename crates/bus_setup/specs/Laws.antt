-- What the loops over stations lean on. Assumes nothing.
use Rattle.std.specs.Prelude.{ℕ, ◌+◌, ◌≡◌, refl, cond, List, length, set, replicate, eqb}
use Rattle.std.proofs.Common.{subst, add-one}
use Rattle.codec_fields.specs.Fields.{load_of, over_of, stored_of}
use Rattle.codec_records.specs.Records.{words_refusal}
use Rattle.bus_setup.specs.Setup.{station_place, station_header, sum_below, is_equal, twins_of, placed_in, placed_of, rank_of}

-- nothing is summed yet; then one more
pub sum_none : (f : ℕ → ℕ) → 0 ≡ sum_below f 0
unfolding sum_below
sum_none f = refl

pub sum_more : (f : ℕ → ℕ) (k sum value : ℕ) → sum ≡ sum_below f k → value ≡ f k → sum + value ≡ sum_below f (k + 1)
unfolding sum_below
sum_more f k sum value p q = rw (add-one, p, q)

-- the station found so far; then one more asked
pub placed_more : (setup : List ℕ) (n i k found next : ℕ) → found ≡ placed_in setup n i k → next ≡ cond (eqb (rank_of setup n k) i) k found → next ≡ placed_in setup n i (k + 1)
unfolding placed_in
placed_more setup n i k found next p q = rw (add-one, ← p, q)

-- all were asked
pub placed_all : (setup : List ℕ) (n i j found : ℕ) → j ≡ n → found ≡ placed_in setup n i j → found ≡ placed_of setup n i
unfolding placed_of
placed_all setup n i j found e p = subst (λ (m : ℕ). found ≡ placed_in setup n i m) e p

pub twins_all : (setup : List ℕ) (j m sum : ℕ) → m ≡ j → sum ≡ sum_below (is_equal setup j) m → sum ≡ twins_of setup j
unfolding twins_of
twins_all setup j m sum e p = subst (λ (k : ℕ). sum ≡ sum_below (is_equal setup j) k) e p

pub placed_none : (setup : List ℕ) (n i : ℕ) → 0 ≡ placed_in setup n i 0
unfolding placed_in
placed_none setup n i = refl

-- the first refusal so far; then one more asked
pub first_none : (g : ℕ → ℕ) → 0 ≡ words_refusal g 0
unfolding words_refusal
first_none g = refl

pub first_more : (g : ℕ → ℕ) (k first value next : ℕ) → first ≡ words_refusal g k → value ≡ g k → next ≡ cond (eqb first 0) value first → next ≡ words_refusal g (k + 1)
unfolding words_refusal
first_more g k first value next p q r = rw (add-one, ← p, ← q, r)

-- A station's header as the calls write it.

pub header_made :
    (setup : List ℕ) (j at w1 w2 w3 : ℕ) (b1 b2 b3 : List ℕ)
    → at ≡ station_place j
    → w1 ≡ load_of setup at 8
    → b1 ≡ stored_of (replicate 16 0) 0 8 w1
    → w2 ≡ load_of setup (at + 8) 4
    → b2 ≡ stored_of b1 8 4 w2
    → w3 ≡ load_of setup (at + 12) 2
    → b3 ≡ stored_of (set b2 12 1) 13 2 w3
    → b3 ≡ station_header setup j
unfolding station_header stored_of over_of
header_made setup j at w1 w2 w3 b1 b2 b3 p q1 s1 q2 s2 q3 s3 = rw (s3, s2, s1, q1, q2, q3, p) refl

-- it has 16 bytes
pub header_length_lem : (setup : List ℕ) (j : ℕ) → length (station_header setup j) ≡ 16
unfolding station_header
header_length_lem setup j = refl
