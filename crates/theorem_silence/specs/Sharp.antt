-- What it is that the bound of Silence is sharp: 3k polls that do not lead to the token, and a run of 3k + 1 polls that are all counted and
-- do. The proof is in proofs/Sharp.
use Rattle.std.specs.Prelude.{ℕ, zero, suc, ◌+◌, ◌*◌, true, false, ◌≡◌, List, [], ◌∷◌, length}
use Rattle.bit_times.specs.declared.micros.Micros.{Micros}
use Rattle.bit_times.specs.Times.{byte_bits, time_of}
use Rattle.settings.specs.declared.parameters.Parameters.{Parameters}
use Rattle.settings.specs.Settings.{slot_time_of}
use Rattle.ring.specs.Ring.{others}
use Rattle.codec_records.specs.Records.{head_of}
use Rattle.station.specs.declared.station.Station.{Station}
use Rattle.station_poll.specs.Poll.{poll_of}
use Rattle.theorem_silence.specs.Silence.{AllQuiet, holds_token, until, counted_in, slot_after}
use Rattle.theorem_silence.specs.Times.{pause_time}
use Rattle.theorem_silence.specs.SilentRecords.{silent_at}

-- Runs of polls that are as far apart as this.

-- m silent polls, the first at this clock, and each this long after the one before
unfoldable pub evenly : ℕ → ℕ → ℕ → ℕ → List (List ℕ)
evenly n step zero clock = []
evenly n step (suc m) clock = silent_at n clock ∷ evenly n step m (clock + step)

-- all polls of a run come at least this time of the settings after known last activity
abbrev pub AllAfter : (Parameters → Micros) → Station → List (List ℕ) → Type 0
AllAfter time s [] = Unit {0}
AllAfter time s (bytes ∷ later) = (slot_after s.core.last_bus_activity (head_of bytes).clock (time s.p).0 ≡ true) × AllAfter time (poll_of s bytes).station later

-- the time of as many bytes
abbrev pub bytes_time : Parameters → ℕ → ℕ
bytes_time p bytes = (time_of (record { 0 = byte_bits * bytes }) p.baudrate).0

-- The bound of Silence.

-- the time of a token and of a slot
abbrev pub turn_time : Parameters → ℕ
turn_time p = pause_time p + (slot_time_of p).0

-- m silent polls, each of them counted
pub record CountedRun (s : Station) (m : ℕ) : Type 0 where
  pub records : List (List ℕ)
  pub quiet : AllQuiet s.applications records
  pub long : length records ≡ m
  pub all_counted : counted_in s records ≡ m

-- the bound is sharp: 3k counted polls that do not lead to the token, and 3k + 1 that do
pub record Sharp (s : Station) : Type 0 where
  pub too_short : CountedRun s (3 * length (others s.token_ring))
  pub not_held : holds_token (until s too_short.records) ≡ false
  pub long_enough : CountedRun s (3 * length (others s.token_ring) + 1)
  pub held : holds_token (until s long_enough.records) ≡ true
