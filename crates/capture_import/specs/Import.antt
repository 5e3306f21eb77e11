-- A capture imported (document 02, P13): lines with equal time make one record, in their order, up to 8, pending 0, not
-- transmitting, written as a trace entry for a station with one application that declines. Assumes nothing.
use Rattle.std.specs.Prelude.{ℕ, ◌+◌, List, [], ◌∷◌, ◌++◌, Bool, false, cond, ◌&&◌, length, get_or, drop, eqb, ltb, leb, Result, Ok, Err}
use Rattle.codec_telegrams.specs.declared.Telegram.{Telegram}
use Rattle.codec_telegrams.specs.declared.Telegram.TheVariants.{ShortConfirmation}
use Rattle.codec_decisions.specs.declared.Decision.{Decision}
use Rattle.codec_decisions.specs.declared.Decision.TheVariants.{Decline}
use Rattle.codec_records.specs.declared.Head.{Head}
use Rattle.codec_records.specs.Records.{most_telegrams}
use Rattle.codec_records_written.specs.Whole.{record_bytes}
use Rattle.refusals.specs.Refusals.{number_of}
use Rattle.capture_lines.specs.Lines.{LineRead, NotBuilt, Refused, Accepted, lines_of, line_of}
use Rattle.capture_import.specs.declared.RefusedLine.{RefusedLine}

-- a poll of a capture: its time, and the telegrams of that time in their order
pub record Poll : Type 0 where
  pub time : ℕ
  pub telegrams : List Telegram

-- What is written for it

-- pending 0, not transmitting
abbrev pub head_of : ℕ → ℕ → Head
head_of time telegrams = record { clock = time; pending = 0; telegrams = telegrams; transmitting = false }

-- the application declines, whatever is asked
abbrev pub declines : ℕ → Bool → Decision
declines application high = Decline

-- telegram j of a list
abbrev pub telegram_of : List Telegram → ℕ → Telegram
telegram_of telegrams j = get_or telegrams j ShortConfirmation

-- its record, for one application
unfoldable pub poll_bytes : Poll → List ℕ
poll_bytes p = record_bytes (head_of p.time (length p.telegrams)) 1 declines (telegram_of p.telegrams)

-- its trace entry: the record's length, and the record
unfoldable pub entry_bytes : Poll → List ℕ
entry_bytes p = length (poll_bytes p) ∷ poll_bytes p

-- the entries of polls, of which the newest stands first
unfoldable pub entries_of : List Poll → List ℕ
entries_of [] = []
entries_of (p ∷ older) = entries_of older ++ entry_bytes p

-- Lines with equal time

-- a poll of one telegram, and a poll with one telegram more
abbrev pub new_poll : ℕ → Telegram → Poll
new_poll time heard = record { time = time; telegrams = heard ∷ [] }

abbrev pub with_telegram : Poll → Telegram → Poll
with_telegram p heard = record { time = p.time; telegrams = p.telegrams ++ (heard ∷ []) }

-- polls, the newest first, after a telegram of this time
unfoldable pub heard_after : List Poll → ℕ → Telegram → List Poll
heard_after [] time heard = new_poll time heard ∷ []
heard_after (p ∷ older) time heard = cond (eqb time p.time) (with_telegram p heard ∷ older) (new_poll time heard ∷ p ∷ older)

-- and after a line
abbrev pub polls_after : List Poll → LineRead → List Poll
polls_after polls NotBuilt = polls
polls_after polls (Refused time refusal) = polls
polls_after polls (Accepted time heard used) = heard_after polls time heard

-- What is refused

-- the time of the newest poll, and how many telegrams it has; 0 where there is none
abbrev pub last_time : List Poll → ℕ
last_time [] = 0
last_time (p ∷ older) = p.time

abbrev pub last_count : List Poll → ℕ
last_count [] = 0
last_count (p ∷ older) = length p.telegrams

-- a time after a poll of this time with so many telegrams: 32 below the one before, 33 more than 8 of one time
unfoldable pub time_refusal : ℕ → ℕ → ℕ → ℕ
time_refusal last count time = cond (ltb time last) 32 (cond (leb most_telegrams count && eqb time last) 33 0)

-- the first number that is not 0
abbrev pub or_else : ℕ → ℕ → ℕ
or_else first second = cond (eqb first 0) second first

-- a line after polls, with room for so many bytes of entries: 31 not so built, 32, 33, the frame's numbers (P1's, then 31 for bytes
-- after the frame), 18 no room for the line's entry or added telegram
unfoldable pub line_refusal : List Poll → LineRead → ℕ → ℕ
line_refusal polls NotBuilt room = 31
line_refusal polls (Refused time refusal) room = or_else (time_refusal (last_time polls) (last_count polls) time) refusal
line_refusal polls (Accepted time heard used) room =
    or_else (time_refusal (last_time polls) (last_count polls) time) (cond (ltb room (length (entries_of (heard_after polls time heard)))) 18 0)

-- What an import comes to

-- the polls, the newest first; the refusal's number, or 0; the refused line counted from 1, or 0
pub record Import : Type 0 where
  pub polls : List Poll
  pub refusal : ℕ
  pub line : ℕ

-- lines after polls and so many lines: the first bad line decides, and nothing of it or after it is taken
unfoldable pub import_from : List Poll → ℕ → List (List ℕ) → ℕ → Import
import_from polls before [] room = record { polls = polls; refusal = 0; line = 0 }
import_from polls before (l ∷ ls) room =
    cond (eqb (line_refusal polls (line_of l) room) 0) (import_from (polls_after polls (line_of l)) (before + 1) ls room)
    (record { polls = polls; refusal = line_refusal polls (line_of l) room; line = before + 1 })

-- a capture, with room for so many bytes of entries
unfoldable pub import_of : List ℕ → ℕ → Import
import_of text room = import_from [] 0 (lines_of text) room

-- and as numbers: the refused line, counted from 1, or 0; the bytes written; the refusal's number, or 0
pub record Imported : Type 0 where
  pub line : ℕ
  pub written : ℕ
  pub refusal : ℕ

-- what the call's answer says, as numbers
abbrev pub import_told : Result ℕ RefusedLine → Imported
import_told (Ok written) = record { line = 0; written = written; refusal = 0 }
import_told (Err e) = record { line = e.line; written = e.written; refusal = number_of e.refusal }

-- what an import's is
unfoldable pub imported_of : Import → Imported
imported_of i = record { line = i.line; written = length (entries_of i.polls); refusal = i.refusal }

-- what the call leaves in a slice: the entries, and past them what was there
unfoldable pub buffer_of : Import → List ℕ → List ℕ
buffer_of i before = entries_of i.polls ++ drop (length (entries_of i.polls)) before
