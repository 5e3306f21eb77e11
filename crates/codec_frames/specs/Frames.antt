-- Frames (document 02, P1): what a frame is, what a reader makes of bytes, and what a writer makes of a telegram word. Numbers of
-- bytes are decimal here; the comments have them as document 02 does. Assumes nothing.
use Rattle.std.specs.Prelude.{ℕ, ◌+◌, ◌*◌, ◌%◌, ◌^◌, Bool, true, false, cond, not, ◌&&◌, ◌||◌, List, [], ◌∷◌, ◌++◌, length, take, drop, ◌==◌, nat_le, nat_lt, slice_index, Result, Ok, Err}
use Rattle.codec_fields.specs.Fields.{field_of, bit_at}
use Rattle.codec_telegrams.specs.declared.ResponseState.{ResponseState}
use Rattle.codec_telegrams.specs.declared.Telegram.{Telegram}
use Rattle.codec_telegrams.specs.declared.Telegram.TheVariants.{Token, ShortConfirmation, Request, Response}
use Rattle.codec_telegrams.specs.Words.{response_number, response_state_of, telegram_of, telegram_refusal, telegram_word}
use Rattle.codec_frames.specs.declared.Start.{Start}
use Rattle.codec_frames.specs.declared.Start.TheVariants.{Sd1, Sd2, Sd3, Sd4, Sc, Unknown}
use Rattle.refusals.specs.declared.refusal.Refusal.{Refusal}
use Rattle.refusals.specs.Refusals.{number_of}
use Rattle.codec_frames.specs.declared.Frame.{Frame}

-- the bytes that begin a frame: SD1 (10h), SD2 (68h), SD3 (A2h), SD4 (DCh), SC (E5h); the end byte 16h; and the function code 49h
abbrev pub sd1 : ℕ
sd1 = 16

abbrev pub sd2 : ℕ
sd2 = 104

abbrev pub sd3 : ℕ
sd3 = 162

abbrev pub sd4 : ℕ
sd4 = 220

abbrev pub sc : ℕ
sc = 229

abbrev pub end_byte : ℕ
end_byte = 22

abbrev pub status_code : ℕ
status_code = 73

-- the sum of bytes
abbrev pub sum_of : List ℕ → ℕ
sum_of [] = 0
sum_of (b ∷ bs) = b + sum_of bs

-- their check byte: the sum modulo 256
unfoldable pub check_of : List ℕ → ℕ
check_of bs = sum_of bs % 2 ^ 8

-- What a frame is

-- the function code of a response: the type in bits 5 and 4, the status in the low four
abbrev pub response_code : ResponseState → ℕ → ℕ
response_code state status = 16 * response_number state + status

-- a frame without data: SD1, destination, source, function code, the check byte of these three, end byte
abbrev pub sd1_frame : ℕ → ℕ → ℕ → List ℕ
sd1_frame destination source code = sd1 ∷ destination ∷ source ∷ code ∷ check_of (destination ∷ source ∷ code ∷ []) ∷ end_byte ∷ []

-- the frame that a telegram is written as. A request that is no status request has none
abbrev pub frame_bytes : Telegram → List ℕ
frame_bytes (Token destination source) = sd4 ∷ destination ∷ source ∷ []
frame_bytes ShortConfirmation = sc ∷ []
frame_bytes (Request destination source true) = sd1_frame destination source status_code
frame_bytes (Request destination source false) = []
frame_bytes (Response destination source state status) = sd1_frame destination source (response_code state status)

-- whether a telegram is a request that is no status request
abbrev pub is_other_request : Telegram → Bool
is_other_request (Token destination source) = false
is_other_request ShortConfirmation = false
is_other_request (Request destination source asks) = not asks
is_other_request (Response destination source state status) = false

-- Answers: in definitions a refusal is its number

-- a call's answer with its refusal as a number
abbrev pub numbered : {A : Type 0} → Result A Refusal → Result A ℕ
numbered (Ok x) = Ok x
numbered (Err e) = Err (number_of e)

-- What a reader makes of bytes

-- a frame of this telegram, with so many bytes
abbrev pub read_as : Telegram → ℕ → Result Frame ℕ
read_as telegram used = Ok (record { telegram = telegram; used = used })

-- how a first byte begins a frame
unfoldable pub start_of : ℕ → Start
start_of b = cond (b == sd1) Sd1 (cond (b == sd2) Sd2 (cond (b == sd3) Sd3 (cond (b == sd4) Sd4 (cond (b == sc) Sc Unknown))))

-- whether it begins no frame
abbrev pub is_unknown : Start → Bool
is_unknown Sd1 = false
is_unknown Sd2 = false
is_unknown Sd3 = false
is_unknown Sd4 = false
is_unknown Sc = false
is_unknown Unknown = true

-- whether the frame gives its length
abbrev pub is_sd2 : Start → Bool
is_sd2 Sd1 = false
is_sd2 Sd2 = true
is_sd2 Sd3 = false
is_sd2 Sd4 = false
is_sd2 Sc = false
is_sd2 Unknown = false

-- whether the frame has a function code, a check byte and an end byte
abbrev pub is_checked : Start → Bool
is_checked Sd1 = true
is_checked Sd2 = true
is_checked Sd3 = true
is_checked Sd4 = false
is_checked Sc = false
is_checked Unknown = false

-- whether the frame has addresses
abbrev pub is_addressed : Start → Bool
is_addressed Sd1 = true
is_addressed Sd2 = true
is_addressed Sd3 = true
is_addressed Sd4 = true
is_addressed Sc = false
is_addressed Unknown = false

-- how many bytes stand before the destination: the start byte, and in SD2 its length twice and the start byte again
abbrev pub head_length : Start → ℕ
head_length Sd1 = 1
head_length Sd2 = 4
head_length Sd3 = 1
head_length Sd4 = 1
head_length Sc = 1
head_length Unknown = 1

-- how many bytes there are from the destination to the last data byte: SD1 has no data, SD2 says how many, SD3 has 8 of data
abbrev pub body_length : Start → List ℕ → ℕ
body_length Sd1 f = 3
body_length Sd2 f = slice_index f 1
body_length Sd3 f = 11
body_length Sd4 f = 2
body_length Sc f = 0
body_length Unknown f = 0

-- how many bytes there are up to the last data byte
abbrev pub check_place : Start → List ℕ → ℕ
check_place start f = head_length start + body_length start f

-- how many bytes the frame has: behind the data there may be the check byte and the end byte
abbrev pub frame_length : Start → List ℕ → ℕ
frame_length start f = check_place start f + cond (is_checked start) 2 0

-- the bytes from the destination to the last data byte
abbrev pub body : Start → List ℕ → List ℕ
body start f = take (body_length start f) (drop (head_length start) f)

-- destination, source, function code
abbrev pub destination_in : Start → List ℕ → ℕ
destination_in start f = slice_index f (head_length start)

abbrev pub source_in : Start → List ℕ → ℕ
source_in start f = slice_index f (head_length start + 1)

abbrev pub code_in : Start → List ℕ → ℕ
code_in start f = slice_index f (head_length start + 2)

-- the repeated bytes of SD2, length and start byte, are the same, and the length is 4 to 249
abbrev pub head_holds : List ℕ → Bool
head_holds f = slice_index f 2 == slice_index f 1 && (slice_index f 3 == sd2 && (nat_le 4 (slice_index f 1) && nat_le (slice_index f 1) 249))

-- an address has the extension bit, its highest
abbrev pub extended : ℕ → ℕ → Bool
extended destination source = bit_at destination 7 || bit_at source 7

-- what a function code says, of a frame without or with data: 49h without data is the status request; bit 6 marks other requests;
-- in a response bits 5 and 4 are the type, the low four the status
unfoldable pub coded_telegram : ℕ → ℕ → ℕ → Bool → Telegram
coded_telegram destination source code bare =
    cond (code == status_code && bare) (Request destination source true)
    (cond (bit_at code 6) (Request destination source false)
    (Response destination source (response_state_of (field_of code 4 2)) (field_of code 0 4)))

-- the telegram of a frame
abbrev pub telegram_in : Start → List ℕ → Telegram
telegram_in Sd1 f = coded_telegram (destination_in Sd1 f) (source_in Sd1 f) (code_in Sd1 f) true
telegram_in Sd2 f = coded_telegram (destination_in Sd2 f) (source_in Sd2 f) (code_in Sd2 f) false
telegram_in Sd3 f = coded_telegram (destination_in Sd3 f) (source_in Sd3 f) (code_in Sd3 f) false
telegram_in Sd4 f = Token (destination_in Sd4 f) (source_in Sd4 f)
telegram_in Sc f = ShortConfirmation
telegram_in Unknown f = ShortConfirmation

-- what a reader makes of bytes that begin so: document 02's refusals in their order, the first that applies, line by line:
-- 19 empty; 20 start byte; 19 for a cut SD2 header, then 21 if its repeated bytes differ or the length is outside 4 to 249;
-- 19 cut short; 22 check byte; 23 end byte; 24 address extension bit; 34 top bit of the function code. Else the telegram, and
-- how many bytes were used
unfoldable pub frame_on : Start → List ℕ → Result Frame ℕ
frame_on start f =
    cond (length f == 0) (Err 19)
    (cond (is_unknown start) (Err 20)
    (cond (is_sd2 start && nat_lt (length f) 4) (Err 19)
    (cond (is_sd2 start && not (head_holds f)) (Err 21)
    (cond (nat_lt (length f) (frame_length start f)) (Err 19)
    (cond (is_checked start && not (slice_index f (check_place start f) == check_of (body start f))) (Err 22)
    (cond (is_checked start && not (slice_index f (check_place start f + 1) == end_byte)) (Err 23)
    (cond (is_addressed start && extended (destination_in start f) (source_in start f)) (Err 24)
    (cond (is_checked start && bit_at (code_in start f) 7) (Err 34)
    (read_as (telegram_in start f) (frame_length start f))))))))))

-- what a reader makes of bytes
unfoldable pub frame_of : List ℕ → Result Frame ℕ
frame_of f = frame_on (start_of (slice_index f 0)) f

-- the call's result: word × 65536 + bytes used × 256; refused: the number alone
unfoldable pub read_number : Result Frame ℕ → ℕ
read_number (Ok frame) = telegram_word frame.telegram * 65536 + frame.used * 256
read_number (Err refusal) = refusal

-- What a writer makes of a telegram word

-- the bytes that are written, and the refusal's number
pub record Written : Type 0 where
  pub bytes : List ℕ
  pub refusal : ℕ

-- a refused call writes nothing
abbrev pub not_written : ℕ → Written
not_written refusal = record { bytes = []; refusal = refusal }

-- bytes in a slice of this length: 18 where there is no room
unfoldable pub fitted : List ℕ → ℕ → Written
fitted bytes room = cond (nat_lt room (length bytes)) (not_written 18) (record { bytes = bytes; refusal = 0 })

-- 14 for a word that document 01 refuses, then 34 for any other request, then 18 for no room; else the frame
unfoldable pub write_of : ℕ → ℕ → Written
write_of word room =
    cond (not (telegram_refusal word == 0)) (not_written 14)
    (cond (is_other_request (telegram_of word)) (not_written 34) (fitted (frame_bytes (telegram_of word)) room))

-- the call's answer: how many bytes are written, or the refusal's number
abbrev pub written_count : Written → Result ℕ ℕ
written_count w = cond (w.refusal == 0) (Ok (length w.bytes)) (Err w.refusal)

-- and as one number: bytes written × 256 + number
abbrev pub write_number : Written → ℕ
write_number w = length w.bytes * 256 + w.refusal

-- what the call leaves in a slice: the bytes, and past them what was there
abbrev pub written_over : Written → List ℕ → List ℕ
written_over w before = w.bytes ++ drop (length w.bytes) before
