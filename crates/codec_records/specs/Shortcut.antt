-- The first refusal of a record as the code looks for it: six zero bytes of an application are passed over at once, and the
-- telegrams come after the decisions. In a record that is long enough it is the first refusal from the left. Assumes nothing.
use Rattle.std.specs.Prelude.{ℕ, zero, suc, ◌+◌, ◌-◌, ◌*◌, ◌^◌, ◌<◌, ◌≤◌, ◌≡◌, refl, List, Bool, true, false, cond, length, take, drop, get_or, eqb}
use Rattle.std.proofs.Common.{sym, ◌∙◌, ⊎_elim, add-one, arith, eq-or-lt_of_le, eq-eqb, ne_eqb, lt-ltb, le-ltb, eqb-true, lit≤}
use borrow.Table.Steps.{cases}
use Rattle.codec_fields.specs.Fields.{field_of, bit_number, zeros_or14, be, be_from, load_of}
use Rattle.codec_fields.proofs.Widths.{be_suc}
use Rattle.codec_fields.proofs.Stores.{load_room}
use Rattle.codec_telegrams.specs.Words.{telegram_refusal}
use Rattle.codec_decisions.specs.Decisions.{decision_refusal}
use Rattle.codec_records.specs.Records.{decision_word_at, telegram_word_at, entry_refusal, words_refusal}
use Rattle.codec_records.specs.Laws.{first_is}

-- a refusal, or where it is 0 another
abbrev pub or_else : ℕ → ℕ → ℕ
or_else first second = cond (eqb first 0) second first

-- the refusal of a decision of application a, normal or high priority
abbrev pub decision_refusal_at : List ℕ → ℕ → Bool → ℕ
decision_refusal_at s a high = decision_refusal (decision_word_at s (2 * a + bit_number high))

-- both decisions of application a as one number of six bytes; 0 where they are not there
abbrev pub both_at : List ℕ → ℕ → ℕ
both_at s a = load_of s (8 + 3 * (2 * a + bit_number false)) 6

-- the refusal of application a's two decisions: 0 where that number is 0, else the first of both
unfoldable pub decisions_refusal : List ℕ → ℕ → ℕ
decisions_refusal s a = cond (eqb (both_at s a) 0) 0 (or_else (decision_refusal_at s a false) (decision_refusal_at s a true))

-- the refusal of telegram j after n applications
unfoldable pub telegram_refusal_at : List ℕ → ℕ → ℕ → ℕ
telegram_refusal_at s n j = telegram_refusal (telegram_word_at s n j)

-- the first refusal of n applications' decisions, and where there is none of count telegrams
unfoldable pub entries_refusal : List ℕ → ℕ → ℕ → ℕ
entries_refusal s n count = or_else (words_refusal (decisions_refusal s) n) (words_refusal (telegram_refusal_at s n) count)

-- the same refusals have the same first
words_same : (g h : ℕ → ℕ) (k : ℕ) → ((i : ℕ) → i < k → g i ≡ h i) → words_refusal g k ≡ words_refusal h k
unfolding words_refusal
words_same g h zero e = refl
words_same g h (suc k) e = rw (words_same g h k (λ i l. e i (omega arith)), e k (omega arith))

-- the first of k + c refusals is that of the first k, and where there is none that of the c after them
words_apart : (g : ℕ → ℕ) (k c : ℕ) → words_refusal g (k + c) ≡ or_else (words_refusal g k) (words_refusal (λ j. g (k + j)) c)
unfolding words_refusal
words_apart g k zero =
    let e : k + 0 ≡ k = omega arith in
    rw e (cases (eqb (words_refusal g k) 0) (λ a. rw a (eqb-true (words_refusal g k) 0 a)) (λ a. rw a))
words_apart g k (suc c) =
    let e : k + suc c ≡ suc (k + c) = omega arith in
    rw (e, words_apart g k c) (cases (eqb (words_refusal g k) 0) (λ a. rw a) (λ a. rw (a, a)))

-- refusals two at a time have the same first
words_twos : (g h : ℕ → ℕ) (n : ℕ) → ((a : ℕ) → a < n → h a ≡ or_else (g (2 * a)) (g (2 * a + 1))) → words_refusal h n ≡ words_refusal g (2 * n)
unfolding words_refusal
words_twos g h zero e = refl
words_twos g h (suc n) e =
    let two : 2 * suc n ≡ suc (suc (2 * n)) = omega arith in
    rw (two, words_twos g h n (λ a l. e a (omega arith)), e n (omega arith), add-one)
    (cases (eqb (words_refusal g (2 * n)) 0) (λ a. rw a) (λ a. rw (a, a)))

-- the first decisions that are refused say the refusal of all entries
pub refused_decisions :
    (s : List ℕ) (n count a : ℕ)
    → a < n
    → words_refusal (decisions_refusal s) a ≡ 0
    → (decisions_refusal s a ≡ 0 → ⊥)
    → entries_refusal s n count ≡ decisions_refusal s a
unfolding entries_refusal
refused_decisions s n count a l p q = let e = first_is (decisions_refusal s) a n l p q in rw (e, ne_eqb (decisions_refusal s a) 0 q)

-- where no decision is refused, the first refusal of a telegram is that of all entries
pub refused_telegrams :
    (s : List ℕ) (n count : ℕ) → words_refusal (decisions_refusal s) n ≡ 0 → entries_refusal s n count ≡ words_refusal (telegram_refusal_at s n) count
unfolding entries_refusal
refused_telegrams s n count p = rw (eq-eqb (words_refusal (decisions_refusal s) n) 0 p)

-- bytes whose number is 0 are 0 each
zero_each : (s : List ℕ) (at n i : ℕ) → at + n ≤ length s → be (take n (drop at s)) ≡ 0 → i < n → get_or s (at + i) 0 ≡ 0
zero_each s at zero i h z l = absurd (omega arith)
zero_each s at (suc n) i h z l =
    let e : be (take n (drop at s)) * 2 ^ 8 + get_or s (at + n) 0 ≡ 0 = sym (be_suc s at n (omega arith)) ∙ rw add-one z in
    ⊎_elim
    (λ (same : i ≡ n). rw same (omega arith))
    (λ (less : i < n). zero_each s at n i (omega arith) (omega arith) less)
    (eq-or-lt_of_le {n = i} {m = n} (omega arith))

-- bytes that are 0 each are the number 0
zero_all : (s : List ℕ) (at n : ℕ) → at + n ≤ length s → ((i : ℕ) → i < n → get_or s (at + i) 0 ≡ 0) → be (take n (drop at s)) ≡ 0
unfolding be_from
zero_all s at zero h z = refl
zero_all s at (suc n) h z =
    let e = be_suc s at n (omega arith) in
    rw (← add-one) (rw (e, zero_all s at n (omega arith) (λ i l. z i (omega arith)), z n (omega arith)))

-- within bytes that load as 0 every load is 0
pub zero_within :
    (s : List ℕ) (at n more m : ℕ)
    → n ≤ 8
    → at + n ≤ length s
    → load_of s at n ≡ 0
    → more + m ≤ n
    → load_of s (at + more) m ≡ 0
zero_within s at n more m c h z l =
    let w : be (take n (drop at s)) ≡ 0 = sym (load_room s at n c h) ∙ z in
    load_room s (at + more) m (omega arith) (omega arith)
    ∙ zero_all s (at + more) m (omega arith)
    (λ i k. let e : at + more + i ≡ at + (more + i) = omega arith in rw e (zero_each s at n (more + i) h w (omega arith)))

-- a decision of zeros is not refused
zero_decision : decision_refusal 0 ≡ 0
unfolding decision_refusal zeros_or14 field_of
zero_decision = refl

-- in six bytes that are there the shortcut passes over nothing: it is the first refusal of both decisions
decisions_both :
    (s : List ℕ) (a : ℕ)
    → 8 + 6 * a + 6 ≤ length s
    → decisions_refusal s a ≡ or_else (decision_refusal (decision_word_at s (2 * a))) (decision_refusal (decision_word_at s (2 * a + 1)))
unfolding decisions_refusal
decisions_both s a h =
    let at = 8 + 3 * (2 * a + bit_number false) in
    let same : 2 * a + 0 ≡ 2 * a = omega arith in
    let one : 8 + 3 * (2 * a) ≡ at + 0 = omega arith in
    let two : 8 + 3 * (2 * a + 1) ≡ at + 3 = omega arith in
    let room : at + 6 ≤ length s = omega arith in
    cases (eqb (both_at s a) 0)
    (λ z.
    let zeros = eqb-true (both_at s a) 0 z in
    let normal : decision_word_at s (2 * a) ≡ 0 = rw one (zero_within s at 6 0 3 (lit≤ tt) room zeros (lit≤ tt)) in
    let high : decision_word_at s (2 * a + 1) ≡ 0 = rw two (zero_within s at 6 3 3 (lit≤ tt) room zeros (lit≤ tt)) in
    rw (z, normal, high, zero_decision))
    (λ z. rw (z, same))

-- in a record that has room for its decisions, the first refusal as the code looks for it is the first of its entries from the left
pub entries_first :
    (s : List ℕ) (n count : ℕ) → 8 + 6 * n ≤ length s → entries_refusal s n count ≡ words_refusal (entry_refusal s n) (2 * n + count)
unfolding entries_refusal entry_refusal telegram_refusal_at
entries_first s n count h =
    let g = entry_refusal s n in
    let decisions : words_refusal (decisions_refusal s) n ≡ words_refusal g (2 * n) =
    words_twos g (decisions_refusal s) n (λ a l.
    let one : 2 * a < 2 * n = omega arith in
    let two : 2 * a + 1 < 2 * n = omega arith in
    rw (lt-ltb (2 * a) (2 * n) one, lt-ltb (2 * a + 1) (2 * n) two) (decisions_both s a (omega arith))) in
    let telegrams : words_refusal (telegram_refusal_at s n) count ≡ words_refusal (λ j. g (2 * n + j)) count =
    words_same (telegram_refusal_at s n) (λ j. g (2 * n + j)) count (λ j l.
    let past : 2 * n ≤ 2 * n + j = omega arith in
    let back : 2 * n + j - 2 * n ≡ j = omega arith in
    rw (le-ltb (2 * n + j) (2 * n) past, back)) in
    rw (decisions, telegrams) (sym (words_apart g (2 * n) count))
