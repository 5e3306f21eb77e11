-- What stands in the caller's slice after polls, and where the loop over lines stands. That the code writes this is proved in
-- proofs/Laws. Assumes nothing.
use Rattle.std.specs.Prelude.{ℕ, ◌≤◌, ◌≡◌}
use mathlib.Core.List.{List, [], ◌∷◌, ◌++◌}
use Rattle.std.proofs.Math.ListN.{length, drop}
use Rattle.capture_lines.specs.Lines.{lines_of}
use Rattle.capture_import.specs.declared.Newest.{Newest}
use Rattle.capture_import.specs.Import.{Poll, entries_of, import_from, import_of}

-- What stands in the caller's slice

-- the newest entry of polls
abbrev pub newest_of : List Poll → Newest
newest_of [] = record { place = 0; end = 0; time = 0; telegrams = 0 }
newest_of (p ∷ older) =
    record { place = length (entries_of older); end = length (entries_of (p ∷ older)); time = p.time; telegrams = length p.telegrams }

-- the entries of polls over what was there
abbrev pub laid : List Poll → List ℕ → List ℕ
laid polls before = entries_of polls ++ drop (length (entries_of polls)) before

-- each poll has 1 to 8 telegrams
abbrev pub Good : List Poll → Type 0
Good [] = Unit {0}
Good (p ∷ older) = (1 ≤ length p.telegrams) × (length p.telegrams ≤ 8) × Good older

-- where the code stands after polls
pub record Standing (polls : List Poll) (before entries : List ℕ) (newest : Newest) : Type 0 where
  pub good : Good polls
  pub is : newest ≡ newest_of polls
  pub stand : entries ≡ laid polls before
  pub room : length (entries_of polls) ≤ length before

-- The loop over lines

-- where the loop stands: the import of the whole is that of the lines that are left, after the polls that stand in the slice
pub record Going (text before entries : List ℕ) (at line : ℕ) (newest : Newest) : Type 0 where
  pub polls : List Poll
  pub stands : Standing polls before entries newest
  pub begun : line ≤ at
  pub within : at ≤ length text
  pub run : import_of text (length before) ≡ import_from polls line (lines_of (drop at text)) (length before)
