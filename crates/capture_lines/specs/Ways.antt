-- The reader of a line as the code goes, over the whole text that the line begins; proofs/Laws.antt has that it is `line_at`. Assumes
-- nothing.
use Rattle.std.specs.Prelude.{ℕ, ◌+◌, ◌*◌, List, [], ◌∷◌, Bool, false, cond, not, ◌&&◌, length, get_or, drop, eqb, leb, ltb, Option, Some, None}
use Rattle.codec_frames.specs.Frames.{frame_of}
use Rattle.capture_lines.specs.declared.Digits.{Digits}
use Rattle.capture_lines.specs.Lines.{LineRead, NotBuilt, space, line_feed, zero_digit, clock_limit, digit_of, is_decimal, is_hex, pairs_at, begins, said_of}

-- the value of a digit below a radix
abbrev pub digit_in : ℕ → ℕ → Option ℕ
digit_in radix b = cond (ltb (digit_of b) radix) (Some (digit_of b)) None

-- the byte that two hex digits are
abbrev pub byte_in : ℕ → ℕ → Option ℕ
byte_in high low = cond (is_hex high && is_hex low) (Some (16 * digit_of high + digit_of low)) None

-- a number up to the clock's limit
abbrev pub capped : ℕ → ℕ
capped n = cond (leb clock_limit n) clock_limit n

-- a number with one decimal digit more, up to the clock's limit
unfoldable pub capped_more : ℕ → ℕ → ℕ
capped_more value digit = capped (value * 10 + digit)

-- the decimal digits at the start of bytes, after `count` digits that make `value`
unfoldable pub digits_from : ℕ → ℕ → List ℕ → Digits
digits_from value count [] = record { value = value; count = count }
digits_from value count (b ∷ rest) =
    cond (is_decimal b) (digits_from (capped_more value (digit_of b)) (count + 1) rest) (record { value = value; count = count })

-- whether a time of so many digits has a zero at its start that it should not have
abbrev pub zero_leads : ℕ → ℕ → Bool
zero_leads first count = cond (eqb first zero_digit) (not (eqb count 1)) false

-- the rest of a line, after the `begun` bytes of its time and the space
unfoldable pub rest_way : List ℕ → ℕ → ℕ → LineRead
rest_way text time begun =
    let bytes = pairs_at text in
    cond (eqb (length bytes) 0) NotBuilt
    (cond (begins line_feed (drop (2 * length bytes) text)) (said_of time (frame_of bytes) (length bytes) (begun + 2 * length bytes + 1))
    NotBuilt)

-- a line, by its digits
unfoldable pub line_way : List ℕ → Digits → LineRead
line_way text digits =
    cond (eqb digits.count 0) NotBuilt
    (cond (leb clock_limit digits.value) NotBuilt
    (cond (zero_leads (get_or text 0 0) digits.count) NotBuilt
    (cond (begins space (drop digits.count text)) (rest_way (drop (digits.count + 1) text) digits.value (digits.count + 1))
    NotBuilt)))
