-- Request P6 in one statement: what the call on a trace's counts returns and leaves, for every trace that starts a station. Its proof is
-- `every_count` in proofs/Theorem.antt. Bytes are numbers here, and any list of them is meant.
use Rattle.std.specs.Prelude.{ℕ, ◌+◌, ◌*◌, ◌≤◌, min, ◌≡◌, List, [], ◌++◌, ◌⊎◌, length, take, drop}
use Rattle.station.specs.declared.parts.Counts.{Counts}
use Rattle.station.specs.declared.station.Station.{Station}
use Rattle.station_answer.specs.Counted.{largest_count}
use Rattle.trace_headers.specs.Headers.{header_length}
use Rattle.trace.specs.Trace.{Accepted, start_of}
use Rattle.trace_counts.specs.TraceCounts.{counts_length, counts_bytes, counts_number, counts_into}
use Rattle.theorem_every_trace.specs.Statement.{Entry, Whole, laid, Cut}
use Rattle.theorem_counts.specs.Events.{claims_at, removals_at, meetings_at, times}

-- what happened in a run over entries from a station, counted to the largest value of 32 bits
abbrev pub happened : Station → List Entry → Counts
happened s es =
    record {
      claims = min largest_count (times claims_at s es);
      removals = min largest_count (times removals_at s es);
      meetings = min largest_count (times meetings_at s es);
    }

-- A trace whose header starts the station `fresh`, run over with the lent slice `before`: the call returned `returned` and left `left`.
pub record Told (fresh : Station) (trace before : List ℕ) (returned : ℕ) (left : List ℕ) : Type 0 where
  -- the entries that are answered, and the bytes that are left
  pub entries : List Entry
  pub rest : List ℕ
  -- the trace's bytes are the header's, those of the entries, each of them whole, and the rest
  pub whole : Whole entries
  pub bytes : trace ≡ take (header_length trace) trace ++ (laid entries ++ rest)
  -- the ending is 0 where no byte is left, and 17 where the trace ends inside an entry; no room for answers is asked for
  pub ending : ℕ
  pub stops : ((rest ≡ []) × (ending ≡ 0)) ⊎ (Cut rest × (ending ≡ 17))
  -- the call returns the entries answered × 256 + the ending
  pub number : returned ≡ length entries * 256 + ending
  -- the slice holds what happened in the run over these entries, and then its old bytes
  pub told : left ≡ counts_bytes (happened fresh entries) ++ drop counts_length before

-- the theorem, over what the call's contract says that it returns and leaves, with room for the counts
abbrev pub Theorem : Type 0
Theorem =
    (trace before : List ℕ) (fresh : Station)
    → start_of trace ≡ Accepted fresh
    → counts_length ≤ length before
    → Told fresh trace before (counts_number trace (length before)) (counts_into trace before)
