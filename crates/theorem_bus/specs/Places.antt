-- The stations of an accepted setup fill the places 0 to n - 1, one each. Assumes nothing.
use Prim.Native.Nat.{ℕ, zero, suc, ◌+◌, ◌<◌, ◌≤◌}
use Rattle.std.proofs.Math.Path.{◌≡◌}
use Rattle.std.specs.Prelude.{refl, List, Bool, true, ltb}
use Rattle.std.proofs.Common.{sym, ap, ◌∙◌, subst, eq-or-lt_of_le}
use Rattle.std.proofs.Math.Bool.{false}
use Rattle.std.proofs.Math.Logic.{⊎_elim}
use native.Mathlib.Omega.{arith}
use borrow.Author.Tests.{eq-eqb, ne_eqb, lt-ltb, le-ltb, eqb-true, eqb-false, ltb-true, ltb-false}
use borrow.Table.Steps.{cases}
use Rattle.std.proofs.Math.Dec.{eqb}
use Rattle.codec_fields.specs.Fields.{bit_number}
use Rattle.bus_setup.specs.Setup.{stations_of, address_of, sum_below, is_lower, is_equal, twins_of, pairs_of, rank_of, placed_in, placed_of, setup_refusal}
use Rattle.bus_run.specs.Sized.{sized, placed_below}

-- Sums.

-- a sum of nothing has nothing in it
sum_none : (f : ℕ → ℕ) (n : ℕ) → sum_below f n ≡ 0 → (k : ℕ) → k < n → f k ≡ 0
unfolding sum_below
sum_none f zero e k h = absurd (omega arith)
sum_none f (suc n) e k h =
    ⊎_elim (λ (s : k ≡ n). rw s (omega arith)) (λ (l : k < n). sum_none f n (omega arith) k l) (eq-or-lt_of_le (omega arith))

sum_least : (f g : ℕ → ℕ) (n : ℕ) → ((k : ℕ) → k < n → f k ≤ g k) → sum_below f n ≤ sum_below g n
unfolding sum_below
sum_least f g zero h = omega arith
sum_least f g (suc n) h = let a = sum_least f g n (λ k l. h k (omega arith)) in let b = h n (omega arith) in omega arith

-- where one is less, the sum is
sum_less : (f g : ℕ → ℕ) (n : ℕ) → ((k : ℕ) → k < n → f k ≤ g k) → (j : ℕ) → j < n → f j < g j → sum_below f n < sum_below g n
unfolding sum_below
sum_less f g zero h j l s = absurd (omega arith)
sum_less f g (suc n) h j l s =
    ⊎_elim
    (λ (e : j ≡ n).
    let a = sum_least f g n (λ k m. h k (omega arith)) in
    let b : f n < g n = subst (λ (m : ℕ). f m < g m) e s in
    omega arith)
    (λ (m : j < n). let a = sum_less f g n (λ k q. h k (omega arith)) j m s in let b = h n (omega arith) in omega arith)
    (eq-or-lt_of_le (omega arith))

-- ones add up to their number
sum_ones : (n : ℕ) → sum_below (λ k. 1) n ≡ n
unfolding sum_below
sum_ones zero = refl
sum_ones (suc n) = let a = sum_ones n in omega arith

sum_zeros : (f : ℕ → ℕ) (n : ℕ) → ((k : ℕ) → k < n → f k ≡ 0) → sum_below f n ≡ 0
unfolding sum_below
sum_zeros f zero h = refl
sum_zeros f (suc n) h = let a = sum_zeros f n (λ k l. h k (omega arith)) in let b = h n (omega arith) in omega arith

sum_add : (f g : ℕ → ℕ) (n : ℕ) → sum_below (λ k. f k + g k) n ≡ sum_below f n + sum_below g n
unfolding sum_below
sum_add f g zero = refl
sum_add f g (suc n) = let a = sum_add f g n in omega arith

-- row by row or column by column
sum_swap : (f : ℕ → ℕ → ℕ) (m n : ℕ) → sum_below (λ i. sum_below (f i) m) n ≡ sum_below (λ j. sum_below (λ i. f i j) n) m
unfolding sum_below
sum_swap f m zero = sym (sum_zeros (λ j. 0) m (λ k h. refl))
sum_swap f m (suc n) =
    ap (λ (x : ℕ). x + sum_below (f n) m) (sum_swap f m n)
    ∙ sym (sum_add (λ j. sum_below (λ i. f i j) n) (f n) m)

-- as many ones as there are terms, none above 1: each is 1
sum_full : (f : ℕ → ℕ) (n : ℕ) → ((k : ℕ) → k < n → f k ≤ 1) → sum_below f n ≡ n → (k : ℕ) → k < n → f k ≡ 1
unfolding sum_below
sum_full f zero h e k l = absurd (omega arith)
sum_full f (suc n) h e k l =
    let most = sum_least f (λ m. 1) n (λ m q. h m (omega arith)) in
    let ones = sum_ones n in
    let last = h n (omega arith) in
    ⊎_elim (λ (s : k ≡ n). rw s (omega arith)) (λ (q : k < n). sum_full f n (λ m p. h m (omega arith)) (omega arith) k q) (eq-or-lt_of_le (omega arith))

-- Which of a row equal a number.

bit_one : (b : Bool) → bit_number b ≤ 1
bit_one true = omega arith
bit_one false = omega arith

hits : (ℕ → ℕ) → ℕ → ℕ → ℕ
hits g i j = bit_number (eqb (g j) i)

-- a number below n is one of 0 to n - 1
hit_once : (r n : ℕ) → r < n → sum_below (λ i. bit_number (eqb r i)) n ≡ 1
unfolding sum_below
hit_once r zero h = absurd (omega arith)
hit_once r (suc n) h =
    ⊎_elim
    (λ (e : r ≡ n).
    let none : sum_below (λ i. bit_number (eqb r i)) n ≡ 0 = sum_zeros (λ i. bit_number (eqb r i)) n (λ k l. rw (ne_eqb r k (λ s. omega arith))) in
    rw (eq-eqb r n e) (omega arith))
    (λ (l : r < n). let one = hit_once r n l in rw (ne_eqb r n (λ s. omega arith)) (omega arith))
    (eq-or-lt_of_le (omega arith))

-- no two of them are equal: at most one is hit
abbrev Apart : (ℕ → ℕ) → ℕ → Type 0
Apart g n = (j k : ℕ) → j < n → k < n → g j ≡ g k → j ≡ k

hit_most : (g : ℕ → ℕ) (n i : ℕ) → Apart g n → sum_below (hits g i) n ≤ 1
unfolding sum_below hits
hit_most g zero i a = omega arith
hit_most g (suc n) i a =
    cases (eqb (g n) i)
    (λ t.
    let here = eqb-true (g n) i t in
    let none : sum_below (hits g i) n ≡ 0 = sum_zeros (hits g i) n (λ k l. rw (ne_eqb (g k) i (λ s. let same = a k n (omega arith) (omega arith) (s ∙ sym here) in absurd (omega arith)))) in
    rw t (omega arith))
    (λ t. let rest = hit_most g n i (λ j k x y. a j k (omega arith) (omega arith)) in rw t (omega arith))

-- one that is hit
pub record Hit (g : ℕ → ℕ) (n i : ℕ) : Type 0 where
  pub which : ℕ
  pub below : which < n
  pub is : g which ≡ i

hit_found : (g : ℕ → ℕ) (n i : ℕ) → sum_below (hits g i) n ≡ 1 → Hit g n i
unfolding sum_below hits
hit_found g zero i e = absurd (omega arith)
hit_found g (suc n) i e =
    cases (eqb (g n) i)
    (λ t. record { which = n; below = omega arith; is = eqb-true (g n) i t })
    (λ t.
    let rest : sum_below (hits g i) n ≡ 1 = let z : sum_below (hits g i) n + 0 ≡ 1 = rw t at e in omega arith in
    let h = hit_found g n i rest in
    let low = h.below in
    record { which = h.which; below = omega arith; is = h.is })

-- n numbers below n, no two of them equal, are all of them
all_hit : (g : ℕ → ℕ) (n : ℕ) → ((j : ℕ) → j < n → g j < n) → Apart g n → (i : ℕ) → i < n → Hit g n i
unfolding hits
all_hit g n low a i h =
    let columns : sum_below (λ i. sum_below (hits g i) n) n ≡ n =
    sum_swap (hits g) n n
    ∙ column_ones n (λ j. sum_below (λ i. hits g i j) n) (λ j l. hit_once (g j) n (low j l)) in
    hit_found g n i (sum_full (λ i. sum_below (hits g i) n) n (λ k l. hit_most g n k a) columns i h)
  where
    column_ones : (n : ℕ) (f : ℕ → ℕ) → ((j : ℕ) → j < n → f j ≡ 1) → sum_below f n ≡ n
    column_ones n f e =
        let up = sum_least f (λ m. 1) n (λ k l. let x = e k l in omega arith) in
        let down = sum_least (λ m. 1) f n (λ k l. let x = e k l in omega arith) in
        let ones = sum_ones n in
        omega arith

-- Addresses.

module _ (setup : List ℕ) (n : ℕ) (none : pairs_of setup n ≡ 0) where
  -- no two are equal
  unequal : (j m : ℕ) → j < n → m < j → address_of setup m ≡ address_of setup j → ⊥
  unfolding pairs_of twins_of is_equal
  unequal j m h l e =
      let twins = sum_none (twins_of setup) n none j h in
      let off : bit_number (eqb (address_of setup m) (address_of setup j)) ≡ 0 = sum_none (is_equal setup j) j twins m l in
      let on : ◌≡◌ {A = ℕ} 1 0 = rw (eq-eqb (address_of setup m) (address_of setup j) e) at off in
      omega arith

  pub addresses_apart : Apart (address_of setup) n
  addresses_apart j k h l e =
      cases (ltb j k)
      (λ t. absurd (unequal k j l (ltb-true j k t) e))
      (λ t. cases (ltb k j) (λ u. absurd (unequal j k h (ltb-true k j u) (sym e))) (λ u. let a = ltb-false j k t in let b = ltb-false k j u in omega arith))

  lower_bit : (j m : ℕ) → is_lower setup j m ≤ 1
  unfolding is_lower
  lower_bit j m = bit_one (ltb (address_of setup m) (address_of setup j))

  not_own : (j : ℕ) → is_lower setup j j ≡ 0
  unfolding is_lower
  not_own j = rw (le-ltb (address_of setup j) (address_of setup j) (omega arith))

  -- a place is below the number of stations
  pub rank_below : (j : ℕ) → j < n → rank_of setup n j < n
  unfolding rank_of
  rank_below j h =
      let own = not_own j in
      let less = sum_less (is_lower setup j) (λ m. 1) n (λ k l. lower_bit j k) j h (omega arith) in
      let ones = sum_ones n in
      omega arith

  -- and rises with the address
  pub rank_rises : (j k : ℕ) → j < n → address_of setup j < address_of setup k → rank_of setup n j < rank_of setup n k
  unfolding rank_of is_lower
  rank_rises j k h l =
      sum_less (is_lower setup j) (is_lower setup k) n
      (λ m q. cases (ltb (address_of setup m) (address_of setup j))
      (λ t. let low : address_of setup m < address_of setup j = ltb-true (address_of setup m) (address_of setup j) t in rw (t, lt-ltb (address_of setup m) (address_of setup k) (omega arith)) (omega arith))
      (λ t. rw t (omega arith)))
      j h
      (rw (le-ltb (address_of setup j) (address_of setup j) (omega arith), lt-ltb (address_of setup j) (address_of setup k) l) (omega arith))

  ranks_apart : Apart (rank_of setup n) n
  ranks_apart j k h l e =
      cases (ltb (address_of setup j) (address_of setup k))
      (λ t. let up = rank_rises j k h (ltb-true (address_of setup j) (address_of setup k) t) in absurd (omega arith))
      (λ t.
      cases (ltb (address_of setup k) (address_of setup j))
      (λ u. let up = rank_rises k j l (ltb-true (address_of setup k) (address_of setup j) u) in absurd (omega arith))
      (λ u. let a = ltb-false (address_of setup j) (address_of setup k) t in let b = ltb-false (address_of setup k) (address_of setup j) u in addresses_apart j k h l (omega arith)))

  -- the station that is looked for at a place is found there
  found : (i k : ℕ) → k ≤ n → Hit (rank_of setup n) k i → rank_of setup n (placed_in setup n i k) ≡ i
  unfolding placed_in
  found i zero h x = let b = x.below in absurd (omega arith)
  found i (suc k) h x =
      cases (eqb (rank_of setup n k) i)
      (λ t. rw t (eqb-true _ _ t))
      (λ t. rw t (found i k (omega arith) (record { which = x.which; below = lower t; is = x.is })))
    where
      lower : eqb (rank_of setup n k) i ≡ false → x.which < k
      lower t =
          let b = x.below in
          ⊎_elim (λ (s : x.which ≡ k). absurd (eqb-false _ _ t (sym (ap (rank_of setup n) s) ∙ x.is))) (λ (l : x.which < k). l) (eq-or-lt_of_le (omega arith))

  -- at each place there is a station
  pub place_filled : (i : ℕ) → i < n → rank_of setup n (placed_of setup n i) ≡ i
  unfolding placed_of
  place_filled i h = found i n (omega arith) (all_hit (rank_of setup n) n rank_below ranks_apart i h)

-- what is claimed of an accepted setup: each station given stands at one place below their number, and at each such place there is one;
-- an address that is higher stands at a higher place
pub record Placed (setup : List ℕ) : Type 0 where
  pub inside : (j : ℕ) → j < stations_of setup → rank_of setup (stations_of setup) j < stations_of setup
  pub filled : (i : ℕ) → i < stations_of setup → (placed_of setup (stations_of setup) i < stations_of setup) × (rank_of setup (stations_of setup) (placed_of setup (stations_of setup) i) ≡ i)
  pub alone : (j : ℕ) → j < stations_of setup → placed_of setup (stations_of setup) (rank_of setup (stations_of setup) j) ≡ j
  pub rises : (j k : ℕ) → j < stations_of setup → address_of setup j < address_of setup k → rank_of setup (stations_of setup) j < rank_of setup (stations_of setup) k

pub every_place : (setup : List ℕ) → setup_refusal setup ≡ 0 → Placed setup
every_place setup e =
    let none = (sized setup e).apart in
    let n = stations_of setup in
    record {
      inside = rank_below setup n none;
      filled = λ i h. (placed_below setup n i (omega arith), place_filled setup n none i h);
      alone = λ j h. let r = rank_below setup n none j h in ranks_apart setup n none (placed_of setup n (rank_of setup n j)) j (placed_below setup n (rank_of setup n j) (omega arith)) h (place_filled setup n none (rank_of setup n j) r);
      rises = rank_rises setup n none;
    }
