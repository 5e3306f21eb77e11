-- What the laws of lines speak of: how a text begins, where the loop over pairs stands, a text's first line and an accepted one. The
-- laws are in proofs/Laws. Assumes nothing.
use Rattle.std.specs.Prelude.{ℕ, ◌+◌, ◌*◌, ◌≤◌, ◌≡◌, false, length, eqb}
use mathlib.Core.List.{List, [], ◌∷◌, ◌++◌}
use Rattle.std.proofs.Math.ListN.{drop}
use Rattle.std.proofs.lemmas.List.Edits.{sets}
use Rattle.capture_lines.specs.Lines.{line_feed, lines_of, pairs_at, line_of, line_at}

-- The first line of a text

-- bytes without a line feed
abbrev pub NoFeed : List ℕ → Type 0
NoFeed [] = Unit {0}
NoFeed (b ∷ rest) = (eqb b line_feed ≡ false) × NoFeed rest

-- how a text begins: it has no line feed, or one after bytes that have none
pub data First : List ℕ → Type 0 where
  unended : {text : List ℕ} → NoFeed text → First text
  ended : (line rest : List ℕ) {text : List ℕ} → NoFeed line → text ≡ line ++ (line_feed ∷ rest) → First text

-- where the loop over pairs stands: those of the whole text are those counted and those of what is left
pub record Paired (text before frame left : List ℕ) (count : ℕ) : Type 0 where
  pub within : 2 * count + length left ≤ length text
  pub long : length frame ≡ length before
  pub many : length (pairs_at text) ≡ count + length (pairs_at left)
  pub stand : sets before 0 (pairs_at text) ≡ sets frame count (pairs_at left)

-- What import cites

-- the first line of a text that has bytes
pub record FirstLine (text : List ℕ) : Type 0 where
  pub line : List ℕ
  pub others : List (List ℕ)
  pub splits : lines_of text ≡ line ∷ others
  pub says : line_of line ≡ line_at text

-- an accepted line is the first, has its bytes, and the other lines are those of what follows them
pub record Accepts (text : List ℕ) (used : ℕ) : Type 0 where
  pub line : List ℕ
  pub splits : lines_of text ≡ line ∷ lines_of (drop used text)
  pub says : line_of line ≡ line_at text
  pub some_used : 1 ≤ used
  pub within : used ≤ length text
