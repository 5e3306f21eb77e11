-- What a station in bytes has counted (request P6), and what the call leaves of it. Assumes nothing.
use Rattle.std.specs.Prelude.{ℕ, cond, List, ltb, Option, Some, None}
use Rattle.station.specs.declared.station.Station.{Station}
use Rattle.trace_counts.specs.TraceCounts.{counts_length, counts_over}

-- what the call returns with room bytes for the counts: 36 where the bytes are no station, then 18 where there is no room
unfoldable pub read_counts_number : Option Station → ℕ → ℕ
read_counts_number (Some s) room = cond (ltb room counts_length) 18 0
read_counts_number None room = 36

-- what it leaves in the lent slice: the counts of the station; no station leaves all as it is
unfoldable pub read_counts_into : Option Station → List ℕ → List ℕ
read_counts_into (Some s) before = counts_over before s.counts
read_counts_into None before = before
