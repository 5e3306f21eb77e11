-- The lines of a capture (document 02, P13): a decimal time in microseconds, one space, the frame as one or more pairs of hex
-- digits, lower or upper case, one per line, ended by a line feed. Assumes nothing.
use Rattle.std.specs.Prelude.{ℕ, ◌+◌, ◌-◌, ◌*◌, ◌^◌, List, [], ◌∷◌, Bool, true, false, cond, not, ◌&&◌, length, drop, eqb, ltb, leb, Result, Ok, Err}
use Rattle.refusals.specs.Refusals.{number_of}
use Rattle.codec_telegrams.specs.declared.Telegram.{Telegram}
use Rattle.codec_frames.specs.declared.Frame.{Frame}
use Rattle.codec_frames.specs.Frames.{frame_of}
use Rattle.capture_lines.specs.declared.Line.{Line}
use Rattle.capture_lines.specs.declared.LineError.{LineError}
use Rattle.capture_lines.specs.declared.LineError.TheVariants as error

-- the byte between time and frame, the byte that ends a line, and the digit 0
abbrev pub space : ℕ
space = 32

abbrev pub line_feed : ℕ
line_feed = 10

abbrev pub zero_digit : ℕ
zero_digit = 48

-- what no digit has as its value
abbrev pub no_digit : ℕ
no_digit = 16

-- times that fit the clock lie below
abbrev pub clock_limit : ℕ
clock_limit = 2 ^ 48

-- The lines of a text

-- a byte before lines: it belongs to the first of them
abbrev pub joined : ℕ → List (List ℕ) → List (List ℕ)
joined b [] = (b ∷ []) ∷ []
joined b (l ∷ ls) = (b ∷ l) ∷ ls

-- a text split after each line feed. Only the last line may be without one
abbrev pub lines_of : List ℕ → List (List ℕ)
lines_of [] = []
lines_of (b ∷ rest) = cond (eqb b line_feed) ((b ∷ []) ∷ lines_of rest) (joined b (lines_of rest))

-- Digits

-- whether a byte lies between two others, both included
abbrev pub between : ℕ → ℕ → ℕ → Bool
between low high b = leb low b && leb b high

-- the value of a digit: 0 to 9, A to F, a to f; 16 for any other byte
unfoldable pub digit_of : ℕ → ℕ
digit_of b =
    cond (between 48 57 b) (b - 48)
    (cond (between 65 70 b) (b - 55)
    (cond (between 97 102 b) (b - 87)
    no_digit))

-- whether a byte is a decimal digit, a hex digit
abbrev pub is_decimal : ℕ → Bool
is_decimal b = ltb (digit_of b) 10

abbrev pub is_hex : ℕ → Bool
is_hex b = ltb (digit_of b) 16

-- the decimal digits at the start of bytes, and what follows them
abbrev pub digits_at : List ℕ → List ℕ
digits_at [] = []
digits_at (b ∷ rest) = cond (is_decimal b) (b ∷ digits_at rest) []

abbrev pub after_digits : List ℕ → List ℕ
after_digits [] = []
after_digits (b ∷ rest) = cond (is_decimal b) (after_digits rest) (b ∷ rest)

-- the number that decimal digits are, after those that make n
abbrev pub decimal_from : ℕ → List ℕ → ℕ
decimal_from n [] = n
decimal_from n (b ∷ rest) = decimal_from (n * 10 + digit_of b) rest

-- the number that decimal digits are
abbrev pub decimal : List ℕ → ℕ
decimal digits = decimal_from 0 digits

-- the bytes that the pairs of hex digits at the start of bytes are, and what follows these pairs
abbrev pub pairs_at : List ℕ → List ℕ
pairs_at [] = []
pairs_at (a ∷ []) = []
pairs_at (a ∷ b ∷ rest) = cond (is_hex a && is_hex b) ((16 * digit_of a + digit_of b) ∷ pairs_at rest) []

abbrev pub after_pairs : List ℕ → List ℕ
after_pairs [] = []
after_pairs (a ∷ []) = a ∷ []
after_pairs (a ∷ b ∷ rest) = cond (is_hex a && is_hex b) (after_pairs rest) (a ∷ b ∷ rest)

-- What a line is

-- what is read of a line: not built as lines are; built so, with its time, but its frame is refused, or bytes follow it (31); or its
-- time and telegram, with the number of its bytes, the line feed among them
pub data LineRead : Type 0 where
  NotBuilt : LineRead
  Refused : (time refusal : ℕ) → LineRead
  Accepted : (time : ℕ) → (telegram : Telegram) → (used : ℕ) → LineRead

-- and what the call's answer says was read
abbrev pub line_read : Result Line LineError → LineRead
line_read (Ok line) = Accepted line.time line.telegram line.used
line_read (Err error.NotBuilt) = NotBuilt
line_read (Err (error.Frame time refusal)) = Refused time (number_of refusal)

-- whether there are any bytes
abbrev pub some : List ℕ → Bool
some [] = false
some (b ∷ rest) = true

-- whether bytes begin with this one
abbrev pub begins : ℕ → List ℕ → Bool
begins a [] = false
begins a (b ∷ rest) = eqb b a

-- whether bytes are a line feed and nothing else
abbrev pub is_end : List ℕ → Bool
is_end [] = false
is_end (b ∷ []) = eqb b line_feed
is_end (b ∷ c ∷ rest) = false

-- whether digits are a time: there are some, no leading zero, 0 itself apart, and it fits the clock
abbrev pub is_time : List ℕ → Bool
is_time digits = some digits && not (begins zero_digit digits && not (eqb (length digits) 1)) && ltb (decimal digits) clock_limit

-- what follows the time and one byte more
abbrev pub after_time : List ℕ → List ℕ
after_time l = drop 1 (after_digits l)

-- whether a line is a time, one space, one or more pairs of hex digits, and a line feed
unfoldable pub is_built : List ℕ → Bool
is_built l = is_time (digits_at l) && begins space (after_digits l) && some (pairs_at (after_time l)) && is_end (after_pairs (after_time l))

-- a line with this time that has so many bytes of frame and `used` bytes in all, by what was read of its frame: P1's numbers, then
-- 31 for bytes after the frame
unfoldable pub said_of : ℕ → Result Frame ℕ → ℕ → ℕ → LineRead
said_of time (Err refusal) count used = Refused time refusal
said_of time (Ok frame) count used = cond (eqb frame.used count) (Accepted time frame.telegram used) (Refused time 31)

-- what a line says
unfoldable pub line_of : List ℕ → LineRead
line_of l =
    let bytes = pairs_at (after_time l) in
    cond (is_built l) (said_of (decimal (digits_at l)) (frame_of bytes) (length bytes) (length l)) NotBuilt

-- what the first of some lines says
abbrev pub first_said : List (List ℕ) → LineRead
first_said [] = NotBuilt
first_said (l ∷ ls) = line_of l

-- what the line at the start of a text says
unfoldable pub line_at : List ℕ → LineRead
line_at text = first_said (lines_of text)
