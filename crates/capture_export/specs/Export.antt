-- Trace entries exported as a capture (document 02, P13): a line for each telegram that P1 can write. Online, offline and passive
-- give no line; a record that document 01 refuses for one application, or a cut entry, ends the export. Assumes nothing.
use Rattle.std.specs.Prelude.{ℕ, zero, suc, ◌+◌, ◌-◌, List, [], ◌∷◌, ◌++◌, cond, length, take, drop, eqb, ltb, Result, Ok, Err}
use Rattle.codec_frames.specs.Frames.{Written, not_written, write_of}
use Rattle.codec_records.specs.Records.{head_of, telegram_word_at, record_refusal}
use Rattle.capture_text.specs.Text.{line_text}
use Rattle.refusals.specs.Refusals.{number_of}
use Rattle.capture_export.specs.declared.RefusedEntry.{RefusedEntry}

-- The lines of a record

-- the longest frame that P1 writes
abbrev pub longest_frame : ℕ
longest_frame = 6

-- the line of a telegram word; none where P1 cannot write it
unfoldable pub word_line : ℕ → ℕ → List ℕ
word_line time word =
    let frame = write_of word longest_frame in
    cond (eqb frame.refusal 0) (line_text time frame.bytes) []

-- the lines of k telegrams of a record for one application, from telegram j on
unfoldable pub lines_from : List ℕ → ℕ → ℕ → List (List ℕ)
lines_from s j zero = []
lines_from s j (suc k) = word_line (head_of s).clock (telegram_word_at s 1 j) ∷ lines_from s (j + 1) k

-- the lines of all its telegrams, in their order
unfoldable pub record_lines : List ℕ → List (List ℕ)
record_lines s = lines_from s 0 (head_of s).telegrams

-- What is written

-- bytes, and then what else is written
abbrev pub and_then : List ℕ → Written → Written
and_then bytes w = record { bytes = bytes ++ w.bytes; refusal = w.refusal }

-- lines one behind the other with room for so many bytes: 18 before the first that has no room
unfoldable pub lines_fitted : List (List ℕ) → ℕ → Written
lines_fitted [] room = not_written 0
lines_fitted (l ∷ ls) room = cond (ltb room (length l)) (not_written 18) (and_then l (lines_fitted ls (room - length l)))

-- the lines of the entry that bytes begin with: a first byte below 3 is a command and gives none; 17 where the entry is cut; the
-- record's own number; else the record's lines
unfoldable pub entry_fitted : List ℕ → ℕ → Written
entry_fitted [] room = not_written 0
entry_fitted (kind ∷ rest) room =
    cond (ltb kind 3) (not_written 0)
    (cond (ltb (length rest) kind) (not_written 17)
    (cond (eqb (record_refusal (take kind rest) 1) 0) (lines_fitted (record_lines (take kind rest)) room)
    (not_written (record_refusal (take kind rest) 1))))

-- how many bytes an entry has, by its first
unfoldable pub entry_used : ℕ → ℕ
entry_used kind = cond (ltb kind 3) 1 (1 + kind)

-- What an export comes to

-- the text; the refusal's number, or 0; the refused entry counted from 1, or 0
pub record Export : Type 0 where
  pub text : List ℕ
  pub refusal : ℕ
  pub entry : ℕ

-- text that stands before what else is exported
abbrev pub preceded : List ℕ → Export → Export
preceded before x = record { text = before ++ x.text; refusal = x.refusal; entry = x.entry }

-- entries after so many, with room for so many bytes: the first bad one decides. There are at most `most` of them
unfoldable pub export_from : ℕ → List ℕ → ℕ → ℕ → Export
export_from zero entries before room = record { text = []; refusal = 0; entry = 0 }
export_from (suc most) [] before room = record { text = []; refusal = 0; entry = 0 }
export_from (suc most) (kind ∷ rest) before room =
    let w = entry_fitted (kind ∷ rest) room in
    cond (eqb w.refusal 0) (preceded w.bytes (export_from most (drop (entry_used kind) (kind ∷ rest)) (before + 1) (room - length w.bytes)))
    (record { text = w.bytes; refusal = w.refusal; entry = before + 1 })

-- entries, with room for so many bytes of text: there are no more of them than bytes
unfoldable pub export_of : List ℕ → ℕ → Export
export_of entries room = export_from (length entries) entries 0 room

-- and as numbers: the refused entry, counted from 1, or 0; the bytes written; the refusal's number, or 0
pub record Exported : Type 0 where
  pub entry : ℕ
  pub written : ℕ
  pub refusal : ℕ

-- what the call's answer says, as numbers
abbrev pub export_told : Result ℕ RefusedEntry → Exported
export_told (Ok written) = record { entry = 0; written = written; refusal = 0 }
export_told (Err e) = record { entry = e.entry; written = e.written; refusal = number_of e.refusal }

-- what an export's is
unfoldable pub exported_of : Export → Exported
exported_of x = record { entry = x.entry; written = length x.text; refusal = x.refusal }

-- what the call leaves in a slice: the text, and past it what was there
unfoldable pub buffer_of : Export → List ℕ → List ℕ
buffer_of x before = x.text ++ drop (length x.text) before
