-- The telegrams that wait for a station, as the code keeps them: eight places, and words that are those of telegrams. The laws are in
-- proofs/Waits. Assumes nothing.
use Rattle.std.specs.Prelude.{◌≤◌, ◌≡◌}
use mathlib.Core.List.{List, map}
use Rattle.std.proofs.Math.ListN.{length}
use Rattle.codec_telegrams.specs.Words.{telegram_word}
use Rattle.codec_telegrams.specs.declared.Telegram.{Telegram}
use Rattle.bus_wire.specs.declared.Waiting.{Waiting}
use Rattle.bus_wire.specs.Kept.{listed}

-- eight places, of which the first count are in use
pub record Fit (w : Waiting) : Type 0 where
  pub long : length w.words ≡ 8
  pub few : w.count ≤ 8

-- The words are those of telegrams.

-- these telegrams wait, the oldest first
pub record Waits (w : Waiting) (telegrams : List Telegram) : Type 0 where
  pub fit : Fit w
  pub words : listed w ≡ map telegram_word telegrams
