-- What a setup that is not refused has. Assumes nothing.
use Rattle.std.specs.Prelude.{ℕ, zero, suc, ◌<◌, ◌≤◌, ◌≡◌, refl, List, Bool, true, false, cond, length, eqb, ltb}
use Rattle.std.proofs.Common.{⊎_elim, arith, eq-or-lt_of_le, eqb-true, ltb-false, lit≤}
use Rattle.std.proofs.lemmas.Bool.{eqb-false}
use borrow.Table.Steps.{cases}
use Rattle.codec_records.specs.Records.{words_refusal}
use Rattle.bus_setup.specs.Setup.{stations_of, tick_of, ticks_of, station_place, others_of, pairs_of, rank_of, placed_in, placed_of, station_refusal, settings_refusal, stations_refusal, sized_refusal, setup_refusal}

-- the number that a test refuses with is not 0: then it did not hold; below, one that must hold did
pub passed : (test : Bool) (number rest : ℕ) → 0 < number → cond test number rest ≡ 0 → (test ≡ false) × (rest ≡ 0)
passed true number rest h e = absurd (omega arith)
passed false number rest h e = (refl, e)

held : (test : Bool) (number rest : ℕ) → 0 < number → cond test rest number ≡ 0 → (test ≡ true) × (rest ≡ 0)
held true number rest h e = (refl, e)
held false number rest h e = absurd (omega arith)

pub positive : (n : ℕ) → eqb n 0 ≡ false → 0 < n
positive zero e = absurd (eqb-false 0 0 e refl)
positive (suc n) e = omega arith

-- 2 to 8 stations, a length that is theirs, a tick of 1 to 1,000,000 µs, at most 1,000,000 ticks, no two equal addresses, and no station is
-- refused
pub record Sized (setup : List ℕ) : Type 0 where
  pub some_stations : 2 ≤ stations_of setup
  pub few : stations_of setup ≤ 8
  pub whole : length setup ≡ station_place (stations_of setup)
  pub some : 0 < tick_of setup
  pub short : tick_of setup ≤ 1000000
  pub bounded : ticks_of setup ≤ 1000000
  pub apart : pairs_of setup (stations_of setup) ≡ 0
  pub accepted : (j : ℕ) → j < stations_of setup → station_refusal setup j ≡ 0

-- none of them is refused where the first refusal is none
none_of : (g : ℕ → ℕ) (k i : ℕ) → words_refusal g k ≡ 0 → i < k → g i ≡ 0
unfolding words_refusal
none_of g zero i e h = absurd (omega arith)
none_of g (suc k) i e h =
    cases (eqb (words_refusal g k) 0)
    (λ t.
    let here : g k ≡ 0 = rw t at e in
    ⊎_elim (λ (s : i ≡ k). rw s here) (λ (l : i < k). none_of g k i (eqb-true _ _ t) l) (eq-or-lt_of_le (omega arith)))
    (λ t. let no : words_refusal g k ≡ 0 = rw t at e in absurd (eqb-false _ _ t no))

stations_accepted : (setup : List ℕ) (n : ℕ) → stations_refusal setup n ≡ 0 → (pairs_of setup n ≡ 0) × ((j : ℕ) → j < n → station_refusal setup j ≡ 0)
unfolding stations_refusal settings_refusal
stations_accepted setup n e =
    let a = passed (ltb 0 (others_of setup n)) 30 (cond (ltb 0 (pairs_of setup n)) 27 (words_refusal (station_refusal setup) n)) (lit≤ tt) e in
    let b = passed (ltb 0 (pairs_of setup n)) 27 (words_refusal (station_refusal setup) n) (lit≤ tt) a.1 in
    let few = ltb-false 0 (pairs_of setup n) b.0 in
    (omega arith, λ j h. none_of (station_refusal setup) n j b.1 h)

sized_size :
    (setup : List ℕ) (n : ℕ)
    → sized_refusal setup n ≡ 0
    → (length setup ≡ station_place n) × (0 < tick_of setup) × (tick_of setup ≤ 1000000) × (ticks_of setup ≤ 1000000) × (stations_refusal setup n ≡ 0)
unfolding sized_refusal
sized_size setup n e =
    let d = held (eqb (length setup) (station_place n)) 17 (cond (eqb (tick_of setup) 0) 28 (cond (ltb 1000000 (tick_of setup)) 28 (cond (ltb 1000000 (ticks_of setup)) 35 (stations_refusal setup n)))) (lit≤ tt) e in
    let f = passed (eqb (tick_of setup) 0) 28 (cond (ltb 1000000 (tick_of setup)) 28 (cond (ltb 1000000 (ticks_of setup)) 35 (stations_refusal setup n))) (lit≤ tt) d.1 in
    let g = passed (ltb 1000000 (tick_of setup)) 28 (cond (ltb 1000000 (ticks_of setup)) 35 (stations_refusal setup n)) (lit≤ tt) f.1 in
    let h = passed (ltb 1000000 (ticks_of setup)) 35 (stations_refusal setup n) (lit≤ tt) g.1 in
    (eqb-true _ _ d.0, positive (tick_of setup) f.0, ltb-false 1000000 (tick_of setup) g.0, ltb-false 1000000 (ticks_of setup) h.0, h.1)

pub sized : (setup : List ℕ) → setup_refusal setup ≡ 0 → Sized setup
unfolding setup_refusal
sized setup e =
    let a = passed (ltb (length setup) 9) 17 (cond (ltb (stations_of setup) 2) 29 (cond (ltb 8 (stations_of setup)) 29 (sized_refusal setup (stations_of setup)))) (lit≤ tt) e in
    let b = passed (ltb (stations_of setup) 2) 29 (cond (ltb 8 (stations_of setup)) 29 (sized_refusal setup (stations_of setup))) (lit≤ tt) a.1 in
    let c = passed (ltb 8 (stations_of setup)) 29 (sized_refusal setup (stations_of setup)) (lit≤ tt) b.1 in
    let s = sized_size setup (stations_of setup) c.1 in
    let all = stations_accepted setup (stations_of setup) s.4 in
    record {
      some_stations = ltb-false (stations_of setup) 2 b.0;
      few = ltb-false 8 (stations_of setup) c.0;
      whole = s.0;
      some = s.1;
      short = s.2;
      bounded = s.3;
      apart = all.0;
      accepted = all.1;
    }

-- the station at a place is one of those given
placed_in_lem : (setup : List ℕ) (n i k : ℕ) → 0 < n → k ≤ n → placed_in setup n i k < n
unfolding placed_in
placed_in_lem setup n i zero some h = some
placed_in_lem setup n i (suc k) some h =
    cases (eqb (rank_of setup n k) i) (λ t. rw t (omega arith)) (λ t. rw t (placed_in_lem setup n i k some (omega arith)))

pub placed_below : (setup : List ℕ) (n i : ℕ) → 0 < n → placed_of setup n i < n
unfolding placed_of
placed_below setup n i some = placed_in_lem setup n i n some (omega arith)
