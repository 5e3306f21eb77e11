-- The counts of a station after a trace (request P6), and what the call leaves of them. Assumes nothing.
use Rattle.std.specs.Prelude.{ℕ, List, ◌++◌, cond, length, drop, ltb}
use Rattle.codec_fields.specs.Fields.{low_bytes}
use Rattle.station.specs.declared.parts.Counts.{Counts}
use Rattle.station.specs.declared.station.Station.{Station}
use Rattle.trace_headers.specs.Headers.{header_length}
use Rattle.trace.specs.Trace.{TraceStart, Accepted, Refused, start_of, run_of, room_for, whole_number}

-- document 02: three counts of 32 bits
abbrev pub counts_length : ℕ
counts_length = 12

abbrev pub counts_bytes : Counts → List ℕ
counts_bytes k = low_bytes 4 k.claims ++ (low_bytes 4 k.removals ++ low_bytes 4 k.meetings)

-- s with the counts written into its first 12 bytes; as it is where it has fewer
unfoldable pub counts_over : List ℕ → Counts → List ℕ
counts_over s k = cond (ltb (length s) counts_length) s (counts_bytes k ++ drop counts_length s)

-- what a station has counted after the whole entries of a trace
unfoldable pub counted_after : Station → List ℕ → Counts
counted_after s trace = (run_of s (drop (header_length trace) trace) (room_for trace)).station.counts

-- what the call returns with room bytes for the counts: a refused header's number, 18 where there is no room, else the entries × 256 + the
-- ending number
unfoldable pub counts_number : List ℕ → ℕ → ℕ
counts_number trace room = whole_number trace counts_length room

-- what it leaves in the lent slice: the counts of the station after the trace; a refused header leaves all as it is
unfoldable pub counts_into_on : TraceStart → List ℕ → List ℕ → List ℕ
counts_into_on (Accepted s) trace before = counts_over before (counted_after s trace)
counts_into_on (Refused n) trace before = before

unfoldable pub counts_into : List ℕ → List ℕ → List ℕ
counts_into trace before = counts_into_on (start_of trace) trace before
