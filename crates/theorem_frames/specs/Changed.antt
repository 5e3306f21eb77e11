-- One byte of a frame changed: what a reader makes of a written frame then. The theorems, which changes are found and that the others
-- are read as this says, have their statements in proofs/Changed. Assumes nothing.
use Prim.Native.Nat.{ℕ}
use Rattle.std.specs.Prelude.{cond, eqb, Err, Result}
use Rattle.codec_fields.specs.Fields.{bit_at}
use Rattle.codec_telegrams.specs.declared.Telegram.{Telegram}
use Rattle.codec_telegrams.specs.declared.Telegram.TheVariants.{Token, ShortConfirmation, Request, Response}
use Rattle.codec_frames.specs.declared.Frame.{Frame}
use Rattle.codec_frames.specs.Frames.{read_as, sd2, sd3, sd4, sc, start_of, is_unknown}

-- The frames that are written

-- what a reader makes of an SD1 frame with b in place of its byte i: an end byte that is none is 23, and any other byte behind the
-- start is found by the check byte, 22. A start byte that became that of SD4 or SC leaves a token or a short confirmation; SD2 is
-- 21, since no function code that is written is 68h; SD3, which is longer, 19; any other 20
abbrev pub sd1_changed : ℕ → ℕ → ℕ → ℕ → Result Frame ℕ
sd1_changed d s i b =
    cond (eqb i 0)
    (cond (eqb b sd4) (read_as (Token d s) 3)
    (cond (eqb b sc) (read_as ShortConfirmation 1) (cond (eqb b sd2) (Err 21) (cond (eqb b sd3) (Err 19) (Err 20)))))
    (cond (eqb i 5) (Err 23) (Err 22))

-- what a reader makes of a token or a short confirmation whose first byte was changed to b, where b is not SC: 20 where b begins no
-- frame, else 19, since what it begins is longer
abbrev pub short_changed : ℕ → Result Frame ℕ
short_changed b = cond (is_unknown (start_of b)) (Err 20) (Err 19)

-- what a reader makes of a token with b in place of its byte i: it has no check byte, so of an address only the extension bit is
-- found
abbrev pub token_changed : ℕ → ℕ → ℕ → ℕ → Result Frame ℕ
token_changed d s i b =
    cond (eqb i 0) (cond (eqb b sc) (read_as ShortConfirmation 1) (short_changed b))
    (cond (bit_at b 7) (Err 24) (cond (eqb i 1) (read_as (Token b s) 3) (read_as (Token d b) 3)))

-- what a reader makes of a written frame with b in place of its byte i
abbrev pub changed : Telegram → ℕ → ℕ → Result Frame ℕ
changed (Token d s) i b = token_changed d s i b
changed ShortConfirmation i b = short_changed b
changed (Request d s asks) i b = sd1_changed d s i b
changed (Response d s state n) i b = sd1_changed d s i b
