-- An entry as the code takes it. Assumes nothing.
use Rattle.std.specs.Prelude.{ℕ, List, length, get_or, Result, Ok, Err}
use Rattle.refusals.specs.Refusals.{number_of}
use Rattle.codec_frames.specs.Frames.{Written}
use Rattle.capture_export.specs.declared.EntryWritten.{EntryWritten}
use Rattle.capture_export.specs.declared.cut.Cut.{Cut}
use Rattle.capture_export.specs.Export.{entry_fitted, entry_used}

-- how many bytes are written, and the refusal's number, or 0
pub record LineWritten : Type 0 where
  pub bytes : ℕ
  pub refusal : ℕ

-- what is said of what is written
abbrev pub line_written : Written → LineWritten
line_written w = record { bytes = length w.bytes; refusal = w.refusal }

-- what the code's answer says of a record's lines
abbrev pub lines_told : Result ℕ Cut → LineWritten
lines_told (Ok bytes) = record { bytes = bytes; refusal = 0 }
lines_told (Err cut) = record { bytes = cut.written; refusal = number_of cut.refusal }

-- how many bytes an entry has, how many are written, and the refusal's number, or 0
pub record EntryTold : Type 0 where
  pub used : ℕ
  pub bytes : ℕ
  pub refusal : ℕ

abbrev pub entry_written : List ℕ → ℕ → EntryTold
entry_written entries room =
    record { used = entry_used (get_or entries 0 0); bytes = length (entry_fitted entries room).bytes; refusal = (entry_fitted entries room).refusal }

-- what the code's answer says of an entry of so many bytes
abbrev pub entry_told : ℕ → Result EntryWritten Cut → EntryTold
entry_told used (Ok entry) = record { used = entry.used; bytes = entry.bytes; refusal = 0 }
entry_told used (Err cut) = record { used = used; bytes = cut.written; refusal = number_of cut.refusal }
