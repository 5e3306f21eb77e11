-- The lines that an export gives again: of a telegram, of polls, and of a capture's lines. The theorems have their statements in
-- proofs/Again. Assumes nothing.
use Rattle.std.specs.Prelude.{ℕ, List, [], ◌∷◌, ◌++◌, cond}
use Rattle.codec_telegrams.specs.declared.Telegram.{Telegram}
use Rattle.codec_frames.specs.Frames.{frame_bytes, is_other_request}
use Rattle.capture_lines.specs.Lines.{LineRead, NotBuilt, Refused, Accepted, line_of}
use Rattle.capture_text.specs.Text.{line_text}
use Rattle.capture_import.specs.Import.{Poll}

-- the line of a telegram; none where P1 cannot write it
abbrev pub telegram_line : ℕ → Telegram → List ℕ
telegram_line time t = cond (is_other_request t) [] (line_text time (frame_bytes t))

-- the lines of telegrams of one time
abbrev pub telegrams_text : ℕ → List Telegram → List ℕ
telegrams_text time [] = []
telegrams_text time (t ∷ ts) = telegram_line time t ++ telegrams_text time ts

-- the lines of polls, of which the newest stands first
abbrev pub polls_text : List Poll → List ℕ
polls_text [] = []
polls_text (p ∷ older) = polls_text older ++ telegrams_text p.time p.telegrams

-- Line by line

-- what an export gives again of a line: the line of its telegram
abbrev pub said_again : LineRead → List ℕ
said_again NotBuilt = []
said_again (Refused time refusal) = []
said_again (Accepted time t used) = telegram_line time t

abbrev pub lines_again : List (List ℕ) → List ℕ
lines_again [] = []
lines_again (l ∷ ls) = said_again (line_of l) ++ lines_again ls
