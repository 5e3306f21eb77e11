-- The reader by a frame's start, as the code goes; Laws.antt has that each way is `frame_on`. Assumes nothing.
use Rattle.std.specs.Prelude.{ℕ, ◌+◌, ◌-◌, cond, not, List, length, take, drop, ◌==◌, nat_lt, slice_index, Result, Err}
use Rattle.codec_fields.specs.Fields.{bit_at}
use Rattle.codec_telegrams.specs.declared.Telegram.TheVariants.{Token}
use Rattle.refusals.specs.Refusals.{number_of}
use Rattle.codec_frames.specs.declared.Frame.{Frame}
use Rattle.codec_frames.specs.declared.Read.{Read}
use Rattle.codec_frames.specs.declared.Read.TheVariants.{Accepted, Refused}
use Rattle.codec_frames.specs.Frames.{read_as, end_byte, check_of, extended, head_holds, coded_telegram}

-- what the code makes of bytes, its refusal as a number
abbrev pub told : Read → Result Frame ℕ
told (Accepted telegram used) = read_as telegram used
told (Refused refusal) = Err (number_of refusal)

-- addresses, function code and number of data bytes of a frame of this many bytes
unfoldable pub coded_of : ℕ → ℕ → ℕ → ℕ → ℕ → Result Frame ℕ
coded_of destination source code count used =
    cond (extended destination source) (Err 24)
    (cond (bit_at code 7) (Err 34) (read_as (coded_telegram destination source code (count == 0)) used))

-- a frame with a check byte, with so many bytes before the destination and so many of data
unfoldable pub checked_of : List ℕ → ℕ → ℕ → Result Frame ℕ
checked_of f head count =
    let place = head + (3 + count) in
    cond (nat_lt (length f) (place + 2)) (Err 19)
    (cond (not (slice_index f place == check_of (take (3 + count) (drop head f)))) (Err 22)
    (cond (not (slice_index f (place + 1) == end_byte)) (Err 23)
    (coded_of (slice_index f head) (slice_index f (head + 1)) (slice_index f (head + 2)) count (place + 2))))

-- SD2: its header, then as any frame with a check byte
unfoldable pub sd2_of : List ℕ → Result Frame ℕ
sd2_of f =
    cond (nat_lt (length f) 4) (Err 19)
    (cond (not (head_holds f)) (Err 21) (checked_of f 4 (slice_index f 1 - 3)))

-- SD4: a token
unfoldable pub token_of : List ℕ → Result Frame ℕ
token_of f =
    cond (nat_lt (length f) 3) (Err 19)
    (cond (extended (slice_index f 1) (slice_index f 2)) (Err 24) (read_as (Token (slice_index f 1) (slice_index f 2)) 3))
