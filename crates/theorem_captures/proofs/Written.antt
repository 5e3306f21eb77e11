-- A line that is written of a time and a telegram reads as that time and that telegram. Assumes nothing.
use Rattle.std.specs.Prelude.{ℕ, zero, suc, ◌+◌, ◌-◌, ◌*◌, ◌/◌, ◌%◌, ◌^◌, ◌<◌, ◌≤◌, ◌≡◌, refl, Bool, true, false, ◌&&◌, length, eqb, ltb}
use Rattle.std.proofs.Math.Path.{sym, ap}
use Rattle.std.proofs.Common.{◌∙◌, arith, lit<}
use mathlib.Core.List.{List, [], ◌∷◌, ◌++◌, append-nil, append_assoc}
use borrow.Author.Tests.{lt-ltb, le-leb, lt-leb, eq-eqb, ne_eqb, ltb-true, ltb-false}
use borrow.Table.Steps.{cases}
use Rattle.codec_fields.specs.Fields.{Bytes}
use Rattle.codec_telegrams.specs.declared.Telegram.{Telegram}
use Rattle.codec_telegrams.specs.declared.Telegram.TheVariants.{Token, ShortConfirmation, Request, Response}
use Rattle.codec_telegrams.specs.Words.{TelegramFits}
use Rattle.codec_telegrams.specs.Laws.{state_below}
use Rattle.codec_frames.specs.Frames.{read_as, status_code, check_of, sd1_frame, response_code, frame_bytes, is_other_request, frame_of}
use Rattle.capture_lines.specs.Lines.{Accepted, space, line_feed, zero_digit, clock_limit, between, digit_of, is_hex, digits_at, after_digits, decimal, pairs_at, after_pairs, some, begins, is_time, is_built, said_of, line_of, lines_of}
use Rattle.capture_lines.specs.Laws.{NoFeed}
use Rattle.capture_lines.proofs.Laws.{lines_ended}
use Rattle.capture_text.specs.Text.{digit_count, last_digits, decimal_text, hex_digit, hex_text, line_text}
use Rattle.theorem_captures.specs.Lower.{Decimals, tens}
use Rattle.theorem_captures.proofs.Lower.{decimal_behind}
use Rattle.theorem_frames.proofs.RoundTrip.{frame_reads_back}

-- Digits

is_between : (low high b : ℕ) → low ≤ b → b ≤ high → between low high b ≡ true
is_between low high b h g = rw (le-leb low b h, le-leb b high g)

past_between : (low high b : ℕ) → low ≤ b → high < b → between low high b ≡ false
past_between low high b h g = rw (le-leb low b h, lt-leb b high g)

-- a decimal digit has its value
decimal_value : (n : ℕ) → n < 10 → digit_of (zero_digit + n) ≡ n
unfolding digit_of
decimal_value n h =
    let e : 48 + n - 48 ≡ n = omega arith in
    rw (is_between 48 57 (48 + n) (omega arith) (omega arith)) e

-- so has a letter
letter_value : (n : ℕ) → 10 ≤ n → n < 16 → digit_of (87 + n) ≡ n
unfolding digit_of
letter_value n g h =
    let e : 87 + n - 87 ≡ n = omega arith in
    rw (
      past_between 48 57 (87 + n) (omega arith) (omega arith),
      past_between 65 70 (87 + n) (omega arith) (omega arith),
      is_between 97 102 (87 + n) (omega arith) (omega arith),
    )
    e

-- so has a hex digit
hex_value : (n : ℕ) → n < 16 → digit_of (hex_digit n) ≡ n
unfolding hex_digit
hex_value n h = cases (ltb n 10) (λ a. rw a (decimal_value n (ltb-true n 10 a))) (λ a. rw a (letter_value n (ltb-false n 10 a) h))

-- no digit is a line feed
digit_feed : (b : ℕ) → digit_of b < 16 → eqb b line_feed ≡ false
unfolding digit_of
digit_feed b h = ne_eqb b line_feed (λ e. none (rw e at h))
  where
    none : 16 < 16 → ⊥
    none g = omega arith

-- The frame

-- the bytes of a frame that is written are bytes
sd1_bytes : (d s code : ℕ) → d < 2 ^ 7 → s < 2 ^ 7 → code < 2 ^ 7 → Bytes (sd1_frame d s code)
unfolding check_of
sd1_bytes d s code hd hs hc = (lit< tt, (omega arith, (omega arith, (omega arith, (omega arith, (lit< tt, tt))))))

frame_bytes_lem : (t : Telegram) → TelegramFits t → Bytes (frame_bytes t)
frame_bytes_lem (Token d s) fits = (lit< tt, (omega (arith, fits.0), (omega (arith, fits.1), tt)))
frame_bytes_lem ShortConfirmation fits = (lit< tt, tt)
frame_bytes_lem (Request d s true) fits = sd1_bytes d s status_code fits.0 fits.1 (lit< tt)
frame_bytes_lem (Request d s false) fits = tt
frame_bytes_lem (Response d s state n) fits = let k = state_below state in sd1_bytes d s (response_code state n) fits.0 fits.1 (omega (arith, fits.2))

-- and there are some
frame_some : (t : Telegram) → is_other_request t ≡ false → some (frame_bytes t) ≡ true
frame_some (Token d s) o = refl
frame_some ShortConfirmation o = refl
frame_some (Request d s true) o = refl
frame_some (Request d s false) o = let z : ◌≡◌ {A = ℕ} 0 1 = cc in absurd (omega arith)
frame_some (Response d s state n) o = refl

-- bytes are read from the pairs that are written of them
pairs_written : (bytes : List ℕ) → Bytes bytes → (pairs_at (hex_text bytes ++ (line_feed ∷ [])) ≡ bytes) × (after_pairs (hex_text bytes ++ (line_feed ∷ [])) ≡ line_feed ∷ [])
unfolding hex_text
pairs_written [] h = (refl, refl)
pairs_written (b ∷ bytes) h =
    let high : b / 16 < 16 = omega (arith, h.0) in
    let low : b % 16 < 16 = omega arith in
    let rest = pairs_written bytes h.1 in
    let sum : 16 * (b / 16) + b % 16 ≡ b = omega arith in
    let hexes : is_hex (hex_digit (b / 16)) && is_hex (hex_digit (b % 16)) ≡ true = rw (hex_value (b / 16) high, hex_value (b % 16) low, lt-ltb (b / 16) 16 high, lt-ltb (b % 16) 16 low) in
    (rw (hexes, hex_value (b / 16) high, hex_value (b % 16) low, rest.0, sum), rw (hexes, rest.1))

-- and no line feed stands among them
hex_feed : (bytes : List ℕ) → Bytes bytes → NoFeed (hex_text bytes)
unfolding hex_text
hex_feed [] h = tt
hex_feed (b ∷ bytes) h =
    let high : b / 16 < 16 = omega (arith, h.0) in
    let low : b % 16 < 16 = omega arith in
    let first = digit_feed (hex_digit (b / 16)) (rw (hex_value (b / 16) high) high) in
    let second = digit_feed (hex_digit (b % 16)) (rw (hex_value (b % 16) low) low) in
    (first, (second, hex_feed bytes h.1))

-- The time

-- what the digits of a number are: its value, without a zero before it
record DigitsOf (n : ℕ) (l : List ℕ) : Type 0 where
  decimals : Decimals l
  value : decimal l ≡ n
  filled : some l ≡ true
  one : n < 10 → length l ≡ 1
  lead : 1 ≤ n → (rest : List ℕ) → begins zero_digit (l ++ rest) ≡ false

decimals_append : (l : List ℕ) (b : ℕ) → Decimals l → digit_of b < 10 → Decimals (l ++ (b ∷ []))
decimals_append [] b d h = (h, tt)
decimals_append (x ∷ l) b d h = (d.0, decimals_append l b d.1 h)

some_append : (l : List ℕ) (b : ℕ) → some (l ++ (b ∷ [])) ≡ true
some_append [] b = refl
some_append (x ∷ l) b = refl

-- one digit
digit_written : (most n : ℕ) → n < 10 → DigitsOf n (last_digits (digit_count (suc most) n) n)
unfolding digit_count last_digits
digit_written most n h =
    let ones : n % 10 ≡ n = omega arith in
    let value = decimal_value n h in
    let only : DigitsOf n ((zero_digit + n) ∷ []) =
    record {
      decimals = (rw value h, tt);
      value = rw value (omega arith);
      filled = refl;
      one = λ g. refl;
      lead = λ g rest. ne_eqb (zero_digit + n) zero_digit (λ e. omega arith);
    } in
    rw (lt-ltb n 10 h, ones) only

-- one digit more
digit_behind : (n : ℕ) (l : List ℕ) → 10 ≤ n → DigitsOf (n / 10) l → DigitsOf n (l ++ ((zero_digit + n % 10) ∷ []))
digit_behind n l h is =
    let d = zero_digit + n % 10 in
    let low : n % 10 < 10 = omega arith in
    let value = decimal_value (n % 10) low in
    let whole : n / 10 * 10 + n % 10 ≡ n = omega arith in
    record {
      decimals = decimals_append l d is.decimals (rw value low);
      value = decimal_behind 0 l d ∙ rw (is.value, value) whole;
      filled = some_append l d;
      one = λ g. absurd (omega arith);
      lead = λ g rest. rw (append_assoc l (d ∷ []) rest) (is.lead (omega arith) (d ∷ rest));
    }

-- the digits that are written of a number below a power of ten
digits_written : (most n : ℕ) → n < tens (suc most) → DigitsOf n (last_digits (digit_count (suc most) n) n)
unfolding digit_count last_digits
digits_written zero n below = digit_written zero n (omega arith)
digits_written (suc most) n below =
    cases (ltb n 10)
    (λ a. digit_written (suc most) n (ltb-true n 10 a))
    (λ a. rw a (digit_behind n (last_digits (digit_count (suc most) (n / 10)) (n / 10)) (ltb-false n 10 a) (digits_written most (n / 10) (omega arith))))

-- the digits of a time
time_written : (time : ℕ) → time < clock_limit → DigitsOf time (decimal_text time)
unfolding decimal_text
time_written time clock = digits_written 14 time (omega arith)

pub and_no : (b : Bool) → b && false ≡ false
and_no true = refl
and_no false = refl

-- are a time
digits_time : (n : ℕ) (l : List ℕ) → n < clock_limit → DigitsOf n l → is_time l ≡ true
digits_time n l clock is =
    let below = lt-ltb n clock_limit clock in
    cases (ltb n 10)
    (λ a. rw (is.filled, is.value, below, is.one (ltb-true n 10 a), and_no (begins zero_digit l)))
    (λ a.
    let h = ltb-false n 10 a in
    let first : begins zero_digit l ≡ false = rw (append-nil l) at (is.lead (omega arith) []) in
    rw (is.filled, is.value, below, first))

-- they end before the space
digits_end : (l rest : List ℕ) → Decimals l → (digits_at (l ++ (space ∷ rest)) ≡ l) × (after_digits (l ++ (space ∷ rest)) ≡ space ∷ rest)
unfolding digit_of
digits_end [] rest d = (refl, refl)
digits_end (b ∷ l) rest d =
    let ends = digits_end l rest d.1 in
    let here = lt-ltb (digit_of b) 10 d.0 in
    (rw (here, ends.0), rw (here, ends.1))

-- and have no line feed
digits_feed : (l rest : List ℕ) → Decimals l → NoFeed rest → NoFeed (l ++ rest)
digits_feed [] rest d n = n
digits_feed (b ∷ l) rest d n = (digit_feed b (omega (arith, d.0)), digits_feed l rest d.1 n)

-- The line

module _ (time : ℕ) (t : Telegram) (clock : time < clock_limit) (fits : TelegramFits t) (written : is_other_request t ≡ false) where
  -- What is written reads as its time and its telegram
  pub line_reads : line_of (line_text time (frame_bytes t)) ≡ Accepted time t (length (line_text time (frame_bytes t)))
  unfolding line_of is_built said_of line_text
  line_reads =
      let f = frame_bytes t in
      let d = decimal_text time in
      let is = time_written time clock in
      let ends = digits_end d (hex_text f ++ (line_feed ∷ [])) is.decimals in
      let pairs = pairs_written f (frame_bytes_lem t fits) in
      let read : frame_of f ≡ read_as t (length f) = ap frame_of (sym (append-nil f)) ∙ frame_reads_back t fits written [] in
      rw (ends.0, ends.1, digits_time time d clock is, pairs.0, pairs.1, frame_some t written, is.value, read, eq-eqb (length f) (length f) refl)

  -- and is the first line of a text that begins with it
  pub line_first : (rest : List ℕ) → lines_of (line_text time (frame_bytes t) ++ rest) ≡ line_text time (frame_bytes t) ∷ lines_of rest
  unfolding line_text
  line_first rest =
      let is = time_written time clock in
      let f = frame_bytes t in
      let l = decimal_text time ++ (space ∷ hex_text f) in
      let feed : NoFeed l = digits_feed (decimal_text time) (space ∷ hex_text f) is.decimals (refl, hex_feed f (frame_bytes_lem t fits)) in
      let whole : decimal_text time ++ ((space ∷ []) ++ (hex_text f ++ (line_feed ∷ []))) ≡ l ++ (line_feed ∷ []) = sym (append_assoc (decimal_text time) (space ∷ hex_text f) (line_feed ∷ [])) in
      rw whole (ap lines_of (append_assoc l (line_feed ∷ []) rest) ∙ lines_ended l rest feed)
