-- An import after an export gives the entries back, where every telegram can be written and the times rise: what this speaks of, and
-- the statement, `Theorem`. Its proof is in proofs/Back. Assumes nothing.
use Rattle.std.specs.Prelude.{ℕ, ◌≤◌, ◌≡◌, List, [], ◌∷◌, false, length}
use Rattle.codec_telegrams.specs.declared.Telegram.{Telegram}
use Rattle.codec_frames.specs.Frames.{is_other_request}
use Rattle.capture_import.specs.Import.{Poll, entries_of, import_of}
use Rattle.capture_import.specs.Laws.{Good}
use Rattle.capture_export.specs.Export.{export_of}
use Rattle.theorem_captures.specs.Accepted.{Fit, Rise}
use Rattle.theorem_captures.specs.Again.{polls_text}

-- telegrams that P1 can write
abbrev pub AllWritten : List Telegram → Type 0
AllWritten [] = Unit {0}
AllWritten (t ∷ ts) = (is_other_request t ≡ false) × AllWritten ts

-- polls of such telegrams
abbrev pub Writable : List Poll → Type 0
Writable [] = Unit {0}
Writable (p ∷ older) = AllWritten p.telegrams × Writable older

-- polls, the newest first, as an import makes them, of telegrams that P1 can write
pub record Importable (polls : List Poll) : Type 0 where
  -- each has 1 to 8 telegrams
  pub good : Good polls
  -- their clocks are below 2 to the 48, and document 01's words can say their telegrams
  pub fit : Fit polls
  -- P1 can write these
  pub written : Writable polls
  -- their times rise; polls of one time would be joined into one
  pub rise : Rise polls

-- entries that come back: with room for so many bytes of text an export refuses none, and with room for so many bytes of entries
-- an import of its text refuses none and gives the same entries, to the byte
pub record ComeBack (entries : List ℕ) (wide room : ℕ) : Type 0 where
  pub exported : (export_of entries wide).refusal ≡ 0
  pub imported : (import_of (export_of entries wide).text room).refusal ≡ 0
  pub same : entries_of (import_of (export_of entries wide).text room).polls ≡ entries

-- the theorem: the entries of such polls come back, with room for their lines and for themselves
abbrev pub Theorem : Type 0
Theorem = (polls : List Poll) (wide room : ℕ) → Importable polls → length (polls_text polls) ≤ wide → length (entries_of polls) ≤ room → ComeBack (entries_of polls) wide room
