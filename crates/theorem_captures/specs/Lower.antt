-- Lower case, decimal digits, and a line whose frame is one that P1 writes. The theorem, that such a line comes back as it was, in lower
-- case, has its statement in proofs/Lower. Assumes nothing.
use Rattle.std.specs.Prelude.{ℕ, zero, suc, ◌+◌, ◌*◌, ◌<◌, ◌≡◌, List, [], ◌∷◌, true, false, cond, get_or}
use Rattle.codec_telegrams.specs.declared.Telegram.{Telegram}
use Rattle.codec_frames.specs.Frames.{is_other_request, start_of}
use Rattle.capture_lines.specs.Lines.{Accepted, between, digit_of, pairs_at, after_time, line_of}
use Rattle.theorem_frames.specs.RoundTrip.{is_written}

-- a byte in lower case: A to F as a to f; and bytes
abbrev pub lower : ℕ → ℕ
lower b = cond (between 65 70 b) (b + 32) b

abbrev pub lower_case : List ℕ → List ℕ
lower_case [] = []
lower_case (b ∷ rest) = lower b ∷ lower_case rest

-- Decimal digits

-- bytes that are decimal digits
abbrev pub Decimals : List ℕ → Type 0
Decimals [] = Unit {0}
Decimals (b ∷ rest) = (digit_of b < 10) × Decimals rest

-- How many digits

-- powers of ten
abbrev pub tens : ℕ → ℕ
tens zero = 1
tens (suc k) = tens k * 10

-- A line

-- a line whose frame is an SD1, SD4 or SC of a telegram that P1 writes
pub record WrittenLine (l : List ℕ) : Type 0 where
  pub time : ℕ
  pub telegram : Telegram
  pub used : ℕ
  pub says : line_of l ≡ Accepted time telegram used
  pub start : is_written (start_of (get_or (pairs_at (after_time l)) 0 0)) ≡ true
  pub other : is_other_request telegram ≡ false

-- each of some lines
abbrev pub WrittenLines : List (List ℕ) → Type 0
WrittenLines [] = Unit {0}
WrittenLines (l ∷ ls) = WrittenLine l × WrittenLines ls
