-- What is said of an import: entries that a trace accepts, and polls that fit their fields, with times that rise. The theorems have
-- their statements in proofs/Accepted. Assumes nothing.
use Rattle.std.specs.Prelude.{ℕ, ◌^◌, ◌<◌, ◌≤◌, ◌≡◌, List, [], ◌∷◌, ◌++◌, length}
use Rattle.codec_telegrams.specs.declared.Telegram.{Telegram}
use Rattle.codec_telegrams.specs.Words.{TelegramFits}
use Rattle.codec_records.specs.Records.{record_refusal}
use Rattle.capture_import.specs.Import.{Poll, entries_of}
use Rattle.capture_import.specs.Laws.{Good}

-- entries of a trace for one application, each whole and each a poll record that document 01 accepts: the record's length, which
-- is 3 to 255, then the record
pub data AcceptedEntries : List ℕ → Type 0 where
  none : AcceptedEntries []
  more :
      (bytes rest : List ℕ)
      → 3 ≤ length bytes
      → length bytes ≤ 255
      → record_refusal bytes 1 ≡ 0
      → AcceptedEntries rest
      → AcceptedEntries (length bytes ∷ (bytes ++ rest))

-- telegrams that document 01's word can say
abbrev pub AllFit : List Telegram → Type 0
AllFit [] = Unit {0}
AllFit (t ∷ ts) = TelegramFits t × AllFit ts

-- polls whose clocks and telegrams fit their fields
abbrev pub Fit : List Poll → Type 0
Fit [] = Unit {0}
Fit (p ∷ older) = (p.time < 2 ^ 48) × AllFit p.telegrams × Fit older

-- a time above that of the newest poll, if there is one
abbrev pub Above : ℕ → List Poll → Type 0
Above time [] = Unit {0}
Above time (p ∷ older) = p.time < time

-- polls, the newest first, whose times rise from each to the next
abbrev pub Rise : List Poll → Type 0
Rise [] = Unit {0}
Rise (p ∷ older) = Above p.time older × Rise older

-- what an import holds of its polls
abbrev pub Holds : ℕ → List Poll → Type 0
Holds room polls = Good polls × Fit polls × Rise polls × (length (entries_of polls) ≤ room)
