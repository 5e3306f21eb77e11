-- What it is that a number of polls is sharp: one fewer, all counted, that do not lead to the token, and as many that do. That 3k + 2 is,
-- where a token pass has a gap question due, is proved in proofs/Sharp.
use Rattle.std.specs.Prelude.{ℕ, ◌+◌, true, false, ◌≡◌, List, length}
use Rattle.settings.specs.declared.parameters.Parameters.{Parameters}
use Rattle.settings.specs.Settings.{token_lost_of}
use Rattle.station.specs.declared.station.Station.{Station}
use Rattle.theorem_silence.specs.Silence.{AllQuiet, holds_token, until}
use Rattle.theorem_silence.specs.Sharp.{bytes_time}
use Rattle.theorem_any_start.specs.AnyStart.{lost_counted_in}

-- m silent polls, each of them counted
pub record LateRun (s : Station) (m : ℕ) : Type 0 where
  pub records : List (List ℕ)
  pub quiet : AllQuiet s.applications records
  pub long : length records ≡ m
  pub all_counted : lost_counted_in s records ≡ m

-- m + 1 is sharp: m counted polls that do not lead to the token, and m + 1 that do
pub record SharpAt (s : Station) (m : ℕ) : Type 0 where
  pub too_short : LateRun s m
  pub not_held : holds_token (until s too_short.records) ≡ false
  pub long_enough : LateRun s (m + 1)
  pub held : holds_token (until s long_enough.records) ≡ true

-- the time of a status request and of the lost-token timeout
abbrev pub late_time : Parameters → ℕ
late_time p = bytes_time p 6 + (token_lost_of p).0
