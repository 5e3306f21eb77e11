-- The text of a capture's line (document 02, P13): a decimal time without leading zero, one space, the frame as pairs of hex digits
-- in lower case, a line feed. Assumes nothing.
use Rattle.std.specs.Prelude.{ℕ, zero, suc, ◌+◌, ◌/◌, ◌%◌, List, [], ◌∷◌, ◌++◌, cond, ltb}
use Rattle.capture_lines.specs.Lines.{space, line_feed, zero_digit}

-- how many decimal digits a number has, up to most of them
unfoldable pub digit_count : ℕ → ℕ → ℕ
digit_count zero n = 0
digit_count (suc most) n = cond (ltb n 10) 1 (suc (digit_count most (n / 10)))

-- the last k decimal digits of a number, the highest first
unfoldable pub last_digits : ℕ → ℕ → List ℕ
last_digits zero n = []
last_digits (suc k) n = last_digits k (n / 10) ++ ((zero_digit + n % 10) ∷ [])

-- the most digits that a time of the clock has: 2 to the 48 is below 10 to the 15
abbrev pub most_digits : ℕ
most_digits = 15

-- a time in decimal digits
unfoldable pub decimal_text : ℕ → List ℕ
decimal_text n = last_digits (digit_count most_digits n) n

-- a hex digit of lower case
unfoldable pub hex_digit : ℕ → ℕ
hex_digit n = cond (ltb n 10) (zero_digit + n) (87 + n)

-- bytes as pairs of hex digits
unfoldable pub hex_text : List ℕ → List ℕ
hex_text [] = []
hex_text (b ∷ bytes) = hex_digit (b / 16) ∷ hex_digit (b % 16) ∷ hex_text bytes

-- a line
unfoldable pub line_text : ℕ → List ℕ → List ℕ
line_text time frame = decimal_text time ++ ((space ∷ []) ++ (hex_text frame ++ (line_feed ∷ [])))
