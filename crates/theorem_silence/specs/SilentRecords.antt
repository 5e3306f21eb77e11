-- A silent record exists for every clock and every number of applications: all decline, and nothing is reported.
use Rattle.std.specs.Prelude.{ℕ, zero, suc, ◌+◌, ◌-◌, ◌*◌, ◌/◌, ◌%◌, ◌^◌, ◌<◌, ◌≤◌, ◌≡◌, List, ◌++◌, length, take, drop, replicate}
use Rattle.std.proofs.Common.{ap, ◌∙◌, arith, zero-add, suc-add, lit≤, eq-eqb, ne_eqb, le-ltb, lt-ltb}
use Rattle.std.proofs.lemmas.List.{length-replicate}
use Rattle.std.proofs.Math.Seq.{drop-append-add}
use Rattle.codec_fields.specs.Fields.{field_of, zeros_or14, be, be_from, load_of, bytes_of}
use Rattle.codec_fields.proofs.Laws.{be_bytes}
use Rattle.codec_fields.proofs.Stores.{load_room}
use Rattle.codec_decisions.specs.Decisions.{decision_refusal}
use Rattle.codec_records.specs.Records.{head_of, count_of, decision_word_at, entry_refusal, record_refusal}
use Rattle.codec_records.specs.Laws.{none_first}
use Rattle.theorem_silence.specs.Silence.{Quiet}

-- the record of n applications at this clock: the clock and 16 zero bits, then the decisions, all zero
abbrev pub silent_at : ℕ → ℕ → List ℕ
silent_at n clock = bytes_of (clock * 2 ^ 16) ++ replicate (6 * n) 0

silent_length : (n clock : ℕ) → length (silent_at n clock) ≡ 8 + 6 * n
silent_length n clock = simp length-replicate (omega arith)

-- its first 64 bits are the clock's number
head_word_lem : (n clock : ℕ) → clock < 2 ^ 48 → load_of (silent_at n clock) 0 8 ≡ clock * 2 ^ 16
head_word_lem n clock l =
    let room : 8 ≤ length (silent_at n clock) = omega (arith, silent_length n clock) in
    load_room (silent_at n clock) 0 8 (lit≤ tt) room ∙ be_bytes (clock * 2 ^ 16) (omega arith)

-- zeros behind zeros
drop_zeros : (k m : ℕ) → drop {A = ℕ} k (replicate (k + m) 0) ≡ replicate m 0
drop_zeros zero m = ap (λ (j : ℕ). replicate j 0) (zero-add m)
drop_zeros (suc k) m = ap (λ (j : ℕ). drop (suc k) (replicate j 0)) (suc-add k m) ∙ drop_zeros k m

-- three bytes of zeros are the number 0
zero_bytes : (k m : ℕ) → 3 + k ≤ m → be (take 3 (drop {A = ℕ} k (replicate m 0))) ≡ 0
unfolding be_from
zero_bytes k m l =
    let whole : m ≡ k + (m - k) = omega arith in
    let some : m - k ≡ suc (suc (suc (m - k - 3))) = omega arith in
    ap (λ (j : ℕ). be (take 3 (drop {A = ℕ} k (replicate j 0)))) whole
    ∙ ap (λ (l : List ℕ). be (take 3 l)) (drop_zeros k (m - k))
    ∙ ap (λ (j : ℕ). be (take {A = ℕ} 3 (replicate j 0))) some

-- each decision is the word 0
zero_decision : (n clock i : ℕ) → i < 2 * n → decision_word_at (silent_at n clock) i ≡ 0
zero_decision n clock i l =
    let room : 8 + 3 * i + 3 ≤ length (silent_at n clock) = omega (arith, silent_length n clock) in
    load_room (silent_at n clock) (8 + 3 * i) 3 (lit≤ tt) room
    ∙ (ap (λ (l : List ℕ). be (take 3 l)) (drop-append-add (bytes_of (clock * 2 ^ 16)) (replicate (6 * n) 0) (3 * i)) ∙ zero_bytes (3 * i) (6 * n) (omega arith))

-- and none is refused
zero_accepted : (n clock i : ℕ) → i < 2 * n → entry_refusal (silent_at n clock) n i ≡ 0
unfolding entry_refusal decision_refusal zeros_or14 field_of
zero_accepted n clock i l = rw (lt-ltb i (2 * n) l, zero_decision n clock i l)

no_count : (n clock : ℕ) → clock < 2 ^ 48 → count_of (silent_at n clock) ≡ 0
unfolding field_of
no_count n clock l = rw (head_word_lem n clock l) (omega arith)

silent_accepted : (n clock : ℕ) → clock < 2 ^ 48 → record_refusal (silent_at n clock) n ≡ 0
unfolding record_refusal
silent_accepted n clock l =
    let s = silent_at n clock in
    let long = silent_length n clock in
    let all : 2 * n + 0 ≡ 2 * n = omega arith in
    rw (le-ltb (length s) 8 (omega arith), no_count n clock l, eq-eqb (length s) (8 + 6 * n + 0) (omega arith), all)
    (none_first (entry_refusal s n) (2 * n) (λ i m. zero_accepted n clock i m))

-- it is silent
pub silent_quiet : (n clock : ℕ) → clock < 2 ^ 48 → Quiet n (silent_at n clock)
unfolding head_of field_of
silent_quiet n clock l =
    record {
      accepted = silent_accepted n clock l;
      no_telegram = no_count n clock l;
      no_pending = rw (head_word_lem n clock l) (omega arith);
      no_transmission = rw (head_word_lem n clock l) (ne_eqb (clock * 2 ^ 16 / 2 ^ 15 % 2 ^ 1) 1 (λ e. omega arith));
    }

-- and its clock is the clock
pub silent_clock : (n clock : ℕ) → clock < 2 ^ 48 → (head_of (silent_at n clock)).clock ≡ clock
unfolding head_of field_of
silent_clock n clock l = rw (head_word_lem n clock l) (omega arith)
