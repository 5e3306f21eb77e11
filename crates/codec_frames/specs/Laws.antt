-- What the proofs of the code and the theorems on frames cite. Assumes nothing.
use Rattle.std.specs.Prelude.{◌≡◌, ℕ, ◌+◌, ◌-◌, ◌*◌, ◌%◌, ◌^◌, ◌<◌, ◌≤◌, Bool, true, false, cond, not, ◌&&◌, leb, List, [], ◌∷◌, ◌++◌, length, take, drop, ◌==◌, ◌≢◌, nat_le, nat_lt, slice_index, slice_index_or, refl, Result, Ok, Err}
use Rattle.std.proofs.Common.{sym, ap, ◌∙◌, add-zero, mod-lt, lt_of_le_of_lt, lt_of_lt_of_le, add-one, take-suc, pow_pos, pow_mono, lit<, lit≤}
use Rattle.std.proofs.Math.Nat.{mod-add-mod, mod-le}
use native.Mathlib.Omega.{arith}
use borrow.Author.Tests.{eqb-true, eq-eqb, ne_eqb, lt-ltb, le-ltb, leb-true}
use borrow.Table.Steps.{cases}
use Rattle.std.proofs.lemmas.List.Edits.{sets, sets-eq}
use Rattle.codec_fields.specs.Fields.{zeros_or14, field_of, bit_at, put_of, put_all, total}
use Rattle.codec_fields.proofs.Widths.{grown}
use Rattle.codec_telegrams.specs.declared.Telegram.{Telegram}
use Rattle.codec_telegrams.specs.declared.Telegram.TheVariants.{Token, ShortConfirmation, Request, Response}
use Rattle.codec_telegrams.specs.declared.ResponseState.{ResponseState}
use Rattle.codec_telegrams.specs.Laws.{state_below, telegram_fits}
use Rattle.codec_telegrams.specs.Words.{response_number, response_state_of, telegram_widths, telegram_of, telegram_refusal, telegram_values, telegram_word}
use Rattle.refusals.specs.declared.refusal.Refusal.{Refusal}
use Rattle.refusals.specs.Refusals.{number_of, named}
use Rattle.refusals.proofs.Numbers.{named_back}
use Rattle.codec_frames.specs.declared.Start.{Start}
use Rattle.codec_frames.specs.declared.Start.TheVariants.{Sd1, Sd2, Sd3, Sd4, Sc, Unknown}
use Rattle.codec_frames.specs.declared.Frame.{Frame}
use Rattle.codec_frames.specs.Frames.{numbered, read_as, sd2, end_byte, status_code, sum_of, check_of, start_of, is_unknown, is_sd2, is_checked, is_addressed, check_place, frame_length, body, destination_in, source_in, code_in, extended, frame_on, frame_of, head_holds, coded_telegram, sd1_frame, frame_bytes, is_other_request, Written, not_written, fitted, write_of, written_count, write_number, written_over}
use Rattle.codec_frames.specs.Ways.{coded_of, checked_of, sd2_of, token_of}

-- what both hold, each holds
and_left : (a b : Bool) → a && b ≡ true → a ≡ true
and_left true b h = refl
and_left false b h = h

and_right : (a b : Bool) → a && b ≡ true → b ≡ true
and_right true b h = h
and_right false b h = let z : ◌≡◌ {A = ℕ} 0 1 = cc in absurd (omega arith)

-- one more byte at the end of a sum
sum_snoc : (xs : List ℕ) (b : ℕ) → sum_of (xs ++ (b ∷ [])) ≡ sum_of xs + b
sum_snoc [] b = omega arith
sum_snoc (x ∷ xs) b = omega (arith, sum_snoc xs b)

-- one more byte of a slice in its check byte
pub check_more : (l : List ℕ) (i : ℕ) → i < length l → check_of (take (i + 1) l) ≡ (check_of (take i l) + slice_index l i) % 2 ^ 8
unfolding check_of
check_more l i h = rw (add-one, take-suc l i 0, sum_snoc, mod-add-mod)

-- a header of SD2 that holds gives a length within its range
head_range : (f : List ℕ) → head_holds f ≡ true → nat_le 4 (slice_index f 1) && nat_le (slice_index f 1) 249 ≡ true
head_range f h =
    let range = nat_le 4 (slice_index f 1) && leb (slice_index f 1) 249 in
    and_right (slice_index f 3 == sd2) range (and_right (slice_index f 2 == slice_index f 1) (slice_index f 3 == sd2 && range) h)

-- so at least 4 bytes
pub head_long : (f : List ℕ) → head_holds f ≡ true → 4 ≤ slice_index f 1
head_long f h = leb-true 4 (slice_index f 1) (and_left (nat_le 4 (slice_index f 1)) (nat_le (slice_index f 1) 249) (head_range f h))

-- and at most 249
pub head_short : (f : List ℕ) → head_holds f ≡ true → slice_index f 1 ≤ 249
head_short f h = leb-true (slice_index f 1) 249 (and_right (nat_le 4 (slice_index f 1)) (nat_le (slice_index f 1) 249) (head_range f h))

long : (n : ℕ) → 4 ≤ n → 3 + (n - 3) ≡ n
long n h = omega arith

-- so there are data behind the function code
head_data : (f : List ℕ) → head_holds f ≡ true → (slice_index f 1 - 3 == 0) ≡ false
head_data f h = let l = head_long f h in ne_eqb (slice_index f 1 - 3) 0 (λ e. omega arith)

-- the check byte of a part of a slice, from its two ends
pub part_check : (f : List ℕ) (from count : ℕ) → check_of (take (from + count - from) (drop from f)) ≡ check_of (take count (drop from f))
part_check f from count = let e : from + count - from ≡ count = omega arith in rw e

-- no bytes
pub empty_way : (start : Start) (f : List ℕ) → length f ≡ 0 → frame_on start f ≡ Err 19
unfolding frame_on
empty_way start f none = rw (eq-eqb _ _ none)

-- the ways of the code are what a reader makes of bytes that begin so
module _ (f : List ℕ) (some : length f ≡ 0 → ⊥) where
  pub sd1_way : frame_on Sd1 f ≡ checked_of f 1 0
  unfolding frame_on checked_of coded_of
  sd1_way = rw (ne_eqb _ _ some)

  pub sd3_way : frame_on Sd3 f ≡ checked_of f 1 8
  unfolding frame_on checked_of coded_of
  sd3_way = rw (ne_eqb _ _ some)

  pub sd4_way : frame_on Sd4 f ≡ token_of f
  unfolding frame_on token_of
  sd4_way = rw (ne_eqb _ _ some)

  pub sc_way : frame_on Sc f ≡ read_as ShortConfirmation 1
  unfolding frame_on
  sc_way = let l : 1 ≤ length f = omega arith in rw (ne_eqb _ _ some, le-ltb (length f) 1 l)

  pub unknown_way : frame_on Unknown f ≡ Err 20
  unfolding frame_on
  unknown_way = rw (ne_eqb _ _ some)

  pub sd2_way : frame_on Sd2 f ≡ sd2_of f
  unfolding frame_on sd2_of checked_of coded_of
  sd2_way =
      cases (head_holds f)
      (λ a.
      let e : 3 + (slice_index f 1 - 3) ≡ slice_index_or f 1 0 = long (slice_index f 1) (head_long f a) in
      rw (ne_eqb _ _ some, a, e, head_data f a))
      (λ a. rw (ne_eqb _ _ some, a))

-- the six values of a telegram's fields make a word of 32 bits, whether they fit or not
put_short : (k acc : ℕ) (ws vs : List ℕ) → acc < 2 ^ k → k + total ws ≤ 64 → put_all acc ws vs < 2 ^ (k + total ws)
unfolding put_of
put_short k acc [] vs a l = rw add-zero a
put_short k acc (w ∷ ws) [] a l = lt_of_lt_of_le a (pow_mono (omega arith))
put_short k acc (w ∷ ws) (v ∷ vs) a l =
    let e : k + w + total ws ≡ k + (total ws + w) = omega arith in
    let n = grown k w acc (v % 2 ^ w) a (mod-lt v (pow_pos w)) in
    let m : (acc * 2 ^ w + v % 2 ^ w) % 2 ^ 64 < 2 ^ (k + w) = lt_of_le_of_lt (mod-le _ _) n in
    rw e at (put_short (k + w) (put_of acc w v) ws vs m (omega arith))

-- a telegram's word has 32 bits
pub word_below : (t : Telegram) → telegram_word t < 2 ^ 32
unfolding telegram_word
word_below t = put_short 0 0 telegram_widths (telegram_values t) (lit< tt) (lit≤ tt)

-- a number that is a telegram's word has 32 bits
pub word_is_below : (t : Telegram) {n : ℕ} → n ≡ telegram_word t → n < 2 ^ 32
word_is_below t e = rw e (word_below t)

-- 49h: with data it is another request
pub status_read : (destination source : ℕ) (bare : Bool) → coded_telegram destination source status_code bare ≡ Request destination source bare
unfolding coded_telegram field_of
status_read destination source true = refl
status_read destination source false = refl

-- bit 6 marks a request, and of these 49h without data is the status request
pub request_read : (destination source code : ℕ) (bare : Bool) → bit_at code 6 ≡ true → coded_telegram destination source code bare ≡ Request destination source (code == status_code && bare)
unfolding coded_telegram
request_read destination source code bare h = cases (code == status_code && bare) (λ a. rw a) (λ a. rw (a, h))

-- without it there is a response
pub response_read :
    (destination source code : ℕ) (bare : Bool)
    → bit_at code 6 ≡ false
    → coded_telegram destination source code bare ≡ Response destination source (response_state_of (field_of code 4 2)) (field_of code 0 4)
unfolding coded_telegram field_of
response_read destination source code bare h =
    cases (code == status_code)
    (λ a.
    let e : code ≡ status_code = eqb-true code status_code a in
    let z : ◌≡◌ {A = Bool} true false = rw e at h in
    let y : ◌≡◌ {A = ℕ} 0 1 = cc in
    absurd (omega arith))
    (λ a. rw (a, h))

-- a word that document 01 refuses has the number 14
or_14 : (test : Bool) (n m : ℕ) → (n ≢ 0 → n ≡ 14) → (m ≢ 0 → m ≡ 14) → cond test n m ≢ 0 → cond test n m ≡ 14
or_14 true n m f g h = f h
or_14 false n m f g h = g h

zeros_14 : (vs : List ℕ) → zeros_or14 vs ≢ 0 → zeros_or14 vs ≡ 14
unfolding zeros_or14
zeros_14 [] h = absurd (h refl)
zeros_14 (v ∷ vs) h = or_14 (v == 0) (zeros_or14 vs) 14 (zeros_14 vs) (λ g. refl) h

refusal_14 : (word : ℕ) → telegram_refusal word ≢ 0 → telegram_refusal word ≡ 14
unfolding telegram_refusal
refusal_14 word =
    let kind = field_of word 30 2 in
    let destination = field_of word 23 7 in
    let source = field_of word 16 7 in
    let request = field_of word 15 1 in
    let type = field_of word 13 2 in
    let status = field_of word 9 4 in
    let spare = field_of word 0 9 in
    let token = request ∷ type ∷ status ∷ spare ∷ [] in
    let confirmation = destination ∷ source ∷ request ∷ type ∷ status ∷ spare ∷ [] in
    let asked = type ∷ status ∷ spare ∷ [] in
    let answer = request ∷ spare ∷ [] in
    let last = cond (kind == 2) (zeros_or14 asked) (zeros_or14 answer) in
    let second = cond (kind == 1) (zeros_or14 confirmation) last in
    or_14 (nat_le (2 ^ 32) word) 14 (cond (kind == 0) (zeros_or14 token) second) (λ h. refl)
    (or_14 (kind == 0) (zeros_or14 token) second (zeros_14 token)
    (or_14 (kind == 1) (zeros_or14 confirmation) last (zeros_14 confirmation)
    (or_14 (kind == 2) (zeros_or14 asked) (zeros_or14 answer) (zeros_14 asked) (zeros_14 answer))))

module _ (bytes l : List ℕ) where
  -- without room the number is 18 and all of the slice stays
  pub not_stored :
      length l < length bytes
      → (18 ≡ write_number (fitted bytes (length l))) × (l ≡ written_over (fitted bytes (length l)) l)
  unfolding fitted
  not_stored h = (rw (lt-ltb (length l) (length bytes) h), rw (lt-ltb (length l) (length bytes) h))

  -- with room the bytes stand at the start, and what stood past them stays
  pub stored :
      length bytes ≤ length l
      → (length bytes * 256 ≡ write_number (fitted bytes (length l))) × (sets l 0 bytes ≡ written_over (fitted bytes (length l)) l)
  unfolding fitted
  stored h =
      let number : length bytes * 256 ≡ length bytes * 256 + 0 = omega arith in
      let start : 0 + length bytes ≡ length bytes = omega arith in
      (rw (le-ltb (length l) (length bytes) h) number, rw (le-ltb (length l) (length bytes) h) (rw start at (sets-eq bytes l 0 (omega arith))))

-- what a writer makes of a word: of one that document 01 refuses, and then by the telegram that it says
module _ (word room : ℕ) where
  pub write_refused : (telegram_refusal word ≢ 0) → write_of word room ≡ not_written 14
  unfolding write_of
  write_refused h = rw (ne_eqb (telegram_refusal word) 0 h)

  pub write_barred : {refusal : ℕ} → refusal ≡ telegram_refusal word → refusal ≢ 0 → Err refusal ≡ written_count (write_of word room)
  unfolding write_of
  write_barred {refusal} is h =
      let bad : telegram_refusal word ≢ 0 = λ e. h (is ∙ e) in
      rw (ne_eqb (telegram_refusal word) 0 bad) (ap Err (is ∙ refusal_14 word bad))

  module _ (accepted : telegram_refusal word ≡ 0) where
    pub write_fitted : (t : Telegram) → telegram_of word ≡ t → is_other_request t ≡ false → write_of word room ≡ fitted (frame_bytes t) room
    unfolding write_of
    write_fitted t says other = rw (accepted, says, other)

    pub write_status :
        {d s : ℕ} {asks : Bool} → telegram_of word ≡ Request d s asks → asks ≡ true → write_of word room ≡ fitted (sd1_frame d s status_code) room
    write_status {d} {s} says a = write_fitted (Request d s true) (says ∙ ap (Request d s) a) refl

    pub write_other : {d s : ℕ} {asks : Bool} → telegram_of word ≡ Request d s asks → asks ≡ false → write_of word room ≡ not_written 34
    unfolding write_of
    write_other says a = rw (accepted, says, a)

    pub write_response :
        {d s n type : ℕ} {state : ResponseState}
        → telegram_of word ≡ Response d s state n
        → type ≡ response_number state
        → write_of word room ≡ fitted (sd1_frame d s (16 * type + n)) room
    write_response {d} {s} {n} {type} {state} says e =
        write_fitted (Response d s state n) says refl ∙ ap (λ (k : ℕ). fitted (sd1_frame d s (16 * k + n)) room) (sym e)

-- no frame that is written has more than 6 bytes
frame_small : (t : Telegram) → length (frame_bytes t) ≤ 6
frame_small (Token destination source) = lit≤ tt
frame_small ShortConfirmation = lit≤ tt
frame_small (Request destination source true) = lit≤ tt
frame_small (Request destination source false) = lit≤ tt
frame_small (Response destination source state status) = lit≤ tt

-- what a writer's answer is as one number
abbrev count_number : Result ℕ ℕ → ℕ
count_number (Ok count) = count * 256
count_number (Err refusal) = refusal

abbrev Small : Result ℕ ℕ → Type 0
Small (Ok count) = count ≤ 6
Small (Err refusal) = Unit {0}

module _ (word room : ℕ) where
  -- the answer and the number say the same, and no count is above 6
  by_count : (write_number (write_of word room) ≡ count_number (written_count (write_of word room))) × Small (written_count (write_of word room))
  unfolding write_of fitted
  by_count =
      cases (telegram_refusal word == 0)
      (λ a.
      cases (is_other_request (telegram_of word))
      (λ b. rw (a, b) (refl, tt))
      (λ b.
      cases (nat_lt room (length (frame_bytes (telegram_of word))))
      (λ d. rw (a, b, d) (refl, tt))
      (λ d. rw (a, b, d) (add-zero (length (frame_bytes (telegram_of word)) * 256), frame_small (telegram_of word)))))
      (λ a. rw a (refl, tt))

  pub counted : {count : ℕ} → Ok count ≡ written_count (write_of word room) → count * 256 ≡ write_number (write_of word room)
  counted e = sym (by_count.0 ∙ ap count_number (sym e))

  pub count_small : {count : ℕ} → Ok count ≡ written_count (write_of word room) → count ≤ 6
  count_small e = rw (← e) at by_count.1

  pub count_refused : {refusal : ℕ} → Err refusal ≡ written_count (write_of word room) → refusal ≡ write_number (write_of word room)
  count_refused e = sym (by_count.0 ∙ ap count_number (sym e))

-- a call's result and what it leaves, by the same bytes and number under another name
pub as_written :
    (before : List ℕ) {w v : Written} {r : ℕ} {left : List ℕ}
    → w ≡ v
    → (r ≡ write_number v) × (left ≡ written_over v before)
    → (r ≡ write_number w) × (left ≡ written_over w before)
as_written before e p = (rw e p.0, rw e p.1)

-- the status of a response that a word says has four bits
pub status_below : (word : ℕ) {d s n : ℕ} {state : ResponseState} → telegram_of word ≡ Response d s state n → n < 2 ^ 4
status_below word e = (rw e at (telegram_fits word)).2

-- and its type two
pub state_is_below : (state : ResponseState) {n : ℕ} → n ≡ response_number state → n < 2 ^ 2
state_is_below state e = rw e (state_below state)

-- whether a frame is refused with no number
abbrev unnumbered : Result Frame ℕ → Bool
unnumbered (Ok frame) = false
unnumbered (Err refusal) = refusal == 0

-- each refusal of a frame has a number
pub frame_numbered : (f : List ℕ) {refusal : ℕ} → frame_of f ≡ Err refusal → refusal ≢ 0
unfolding frame_of frame_on
frame_numbered f {refusal} e z =
    let start = start_of (slice_index f 0) in
    let or : (test : Bool) (n : ℕ) (more : Result Frame ℕ) → (n == 0) ≡ false → unnumbered more ≡ false → unnumbered (cond test (Err n) more) ≡ false =
    λ test n more h m. cases test (λ a. rw a h) (λ a. rw a m) in
    let no : unnumbered (frame_of f) ≡ false =
    or (length f == 0) 19 _ refl
    (or (is_unknown start) 20 _ refl
    (or (is_sd2 start && nat_lt (length f) 4) 19 _ refl
    (or (is_sd2 start && not (head_holds f)) 21 _ refl
    (or (nat_lt (length f) (frame_length start f)) 19 _ refl
    (or (is_checked start && not (slice_index f (check_place start f) == check_of (body start f))) 22 _ refl
    (or (is_checked start && not (slice_index f (check_place start f + 1) == end_byte)) 23 _ refl
    (or (is_addressed start && extended (destination_in start f) (source_in start f)) 24 _ refl
    (or (is_checked start && bit_at (code_in start f) 7) 34 _ refl refl)))))))) in
    let y : ◌≡◌ {A = Bool} true false = sym (eq-eqb refusal 0 z) ∙ ap unnumbered (sym e) ∙ no in
    let x : ◌≡◌ {A = ℕ} 0 1 = cc in
    omega arith

-- frames that are read alike have the same telegram and as many bytes
pub same_read : {t u : Telegram} {m n : ℕ} → read_as t m ≡ read_as u n → (t ≡ u) × (m ≡ n)
same_read {t} {u} {m} {n} e =
    let same : ◌≡◌ {A = Frame} (record { telegram = t; used = m }) (record { telegram = u; used = n }) = cc in
    (ap (λ (f : Frame). f.telegram) same, ap (λ (f : Frame). f.used) same)

-- refusals with the same number are the same
pub number_same : (d e : Refusal) → number_of d ≡ number_of e → d ≡ e
number_same d e h = sym (named_back d) ∙ ap named h ∙ named_back e

-- so are answers that say the same with their refusals as numbers
pub numbered_same : {A : Type 0} (x y : Result A Refusal) → numbered x ≡ numbered y → x ≡ y
numbered_same (Ok a) (Ok b) h = let same : a ≡ b = cc in ap Ok same
numbered_same (Ok a) (Err e) h = cc
numbered_same (Err d) (Ok b) h = cc
numbered_same (Err d) (Err e) h = let same : number_of d ≡ number_of e = cc in ap Err (number_same d e same)
