-- The first refusal as a loop goes, and what an accepted record holds. Assumes nothing.
use Rattle.std.specs.Prelude.{ℕ, zero, suc, ◌+◌, ◌-◌, ◌*◌, ◌^◌, ◌<◌, ◌≤◌, ◌≡◌, refl, List, Bool, eqb, ltb}
use Rattle.std.proofs.Common.{sym, ◌∙◌, ⊎_elim, add-one, eq-or-lt_of_le, eq-eqb, ne_eqb, lt-ltb, le-ltb, ltb-false, eqb-true}
use native.Mathlib.Omega.{arith}
use Rattle.std.proofs.lemmas.Bool.{eqb-false}
use borrow.Table.Steps.{cases}
use Rattle.std.proofs.Math.ListN.{length}
use Rattle.codec_fields.specs.Fields.{bit_number, load_of}
use Rattle.codec_fields.proofs.Widths.{field_below}
use Rattle.codec_fields.proofs.Laws.{never, bit_below}
use Rattle.codec_telegrams.specs.Words.{telegram_word, TelegramFits}
use Rattle.codec_decisions.specs.Decisions.{decision_word, DecisionFits}
use Rattle.codec_telegrams.specs.Laws.{telegram_fits, telegram_written}
use Rattle.codec_decisions.proofs.Laws.{decision_written}
use Rattle.codec_records.specs.Records.{head_of, count_of, decision_word_at, telegram_word_at, decision_at, telegram_at, entry_refusal, words_refusal, record_refusal}

-- none of the first k, and that of k not either: none of the first k + 1
pub none_more : (g : ℕ → ℕ) (k : ℕ) → words_refusal g k ≡ 0 → g k ≡ 0 → words_refusal g (k + 1) ≡ 0
unfolding words_refusal
none_more g k p q = rw (add-one, eq-eqb (words_refusal g k) 0 p, q)

-- none of the first i, and that of i is one: it is the first of any k above i
pub first_is : (g : ℕ → ℕ) (i k : ℕ) → i < k → words_refusal g i ≡ 0 → (g i ≡ 0 → ⊥) → words_refusal g k ≡ g i
unfolding words_refusal
first_is g i zero h p q = omega arith
first_is g i (suc k) h p q =
    ⊎_elim
    (λ (e : i ≡ k). rw (← e, eq-eqb (words_refusal g i) 0 p))
    (λ (l : i < k). let e = first_is g i k l p q in rw (ne_eqb (words_refusal g k) 0 (λ z. q (sym e ∙ z)), e))
    (eq-or-lt_of_le {n = i} {m = k} (omega arith))

-- none among the first k: none at any place below k
none_at : (g : ℕ → ℕ) (k i : ℕ) → words_refusal g k ≡ 0 → i < k → g i ≡ 0
unfolding words_refusal
none_at g zero i p h = omega arith
none_at g (suc k) i p h =
    cases (eqb (words_refusal g k) 0)
    (λ a.
    ⊎_elim
    (λ (e : i ≡ k). rw e (rw a at p))
    (λ (l : i < k). none_at g k i (eqb-true _ 0 a) l)
    (eq-or-lt_of_le {n = i} {m = k} (omega arith)))
    (λ a. absurd (eqb-false _ 0 a (rw a at p)))

-- none at any place below k: none among the first k
pub none_first : (g : ℕ → ℕ) (k : ℕ) → ((i : ℕ) → i < k → g i ≡ 0) → words_refusal g k ≡ 0
unfolding words_refusal
none_first g zero h = refl
none_first g (suc k) h = rw (eq-eqb _ 0 (none_first g k (λ i l. h i (omega arith))), h k (omega arith))

-- the clock of any record is below 2 to the 48
pub clock_below : (s : List ℕ) → (head_of s).clock < 2 ^ 48
unfolding head_of
clock_below s = field_below (load_of s 0 8) 16 48

-- the pending bytes of any record are below 2 to the 11
pub pending_below : (s : List ℕ) → (head_of s).pending < 2 ^ 11
unfolding head_of
pending_below s = field_below (load_of s 0 8) 0 11

-- what an accepted record holds: at most 8 telegrams, no byte more or less, and no refusal at any entry
pub record GoodRecord (s : List ℕ) (n : ℕ) : Type 0 where
  pub telegrams : (head_of s).telegrams ≤ 8
  pub long : length s ≡ 8 + 6 * n + 4 * (head_of s).telegrams
  pub entries : (i : ℕ) → i < 2 * n + (head_of s).telegrams → entry_refusal s n i ≡ 0

-- a record without refusal is good
pub good : (s : List ℕ) (n : ℕ) → record_refusal s n ≡ 0 → GoodRecord s n
unfolding record_refusal head_of
good s n h =
    cases (ltb (length s) 8) (λ a. never 11 (rw a at h)) (λ a.
    cases (ltb 8 (count_of s)) (λ b. never 12 (rw (a, b) at h)) (λ b.
    cases (eqb (length s) (8 + 6 * n + 4 * count_of s))
    (λ e.
    record {
      telegrams = ltb-false 8 (count_of s) b;
      long = eqb-true _ _ e;
      entries = λ i l. none_at (entry_refusal s n) (2 * n + count_of s) i (rw (a, b, e) at h) l;
    })
    (λ e. never 11 (rw (a, b, e) at h))))

module _ {s : List ℕ} {n : ℕ} (g : GoodRecord s n) where
  -- a decision of an accepted record is what its word was written from
  pub good_decision : (a : ℕ) (high : Bool) → a < n → (decision_word (decision_at s n a high) ≡ decision_word_at s (2 * a + bit_number high)) × DecisionFits (decision_at s n a high)
  unfolding decision_at entry_refusal
  good_decision a high h =
      let b = bit_below high in
      let l : 2 * a + bit_number high < 2 * n = omega arith in
      let m : 2 * a + bit_number high < 2 * n + (head_of s).telegrams = omega arith in
      rw (lt-ltb a n h) (decision_written (decision_word_at s (2 * a + bit_number high)) (rw (lt-ltb _ _ l) at (g.entries (2 * a + bit_number high) m)))

  -- a telegram of an accepted record is what its word was written from
  pub good_telegram : (j : ℕ) → j < (head_of s).telegrams → (telegram_word (telegram_at s n j) ≡ telegram_word_at s n j) × TelegramFits (telegram_at s n j)
  unfolding telegram_at entry_refusal
  good_telegram j h =
      let room : 8 + 6 * n + 4 * j + 4 ≤ length s = omega (arith, g.long) in
      let past : 2 * n ≤ 2 * n + j = omega arith in
      let back : 2 * n + j - 2 * n ≡ j = omega arith in
      let m : 2 * n + j < 2 * n + (head_of s).telegrams = omega arith in
      rw (le-ltb _ _ room)
      (telegram_written (telegram_word_at s n j) (rw (le-ltb _ _ past, back) at (g.entries (2 * n + j) m)), telegram_fits (telegram_word_at s n j))
