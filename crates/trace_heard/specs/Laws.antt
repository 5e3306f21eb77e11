-- Where the loop over a trace's entries with a table beside the station stands. The laws are in proofs/Laws. Assumes nothing.
use Prim.Native.Nat.{ℕ, ◌+◌, ◌^◌, ◌≤◌}
use Rattle.std.specs.Prelude.{◌≡◌, length}
use mathlib.Core.List.{List}
use Rattle.std.proofs.Math.ListN.{drop}
use Rattle.codec_answers.specs.declared.Answer.{Answer}
use Rattle.station.specs.declared.station.Station.{Station}
use Rattle.heard.specs.Heard.{hear_all}
use Rattle.trace_headers.specs.Headers.{header_length}
use Rattle.trace.specs.Trace.{run_of, room_for}
use Rattle.trace.specs.Laws.{Reached}
use Rattle.trace.proofs.Laws.{left_run}
use Rattle.trace_heard.specs.TraceHeard.{consumed_over}

-- where the loop stands: at this entry of the run, and what is left to hear makes the table of the whole
pub record Listening (fresh : Station) (n : ℕ) (trace before table : List ℕ) (station : Station) (at entries : ℕ) : Type 0 where
  pub small : length trace ≤ 2 ^ 32
  pub begun : header_length trace + entries ≤ at
  pub within : at ≤ length trace
  pub long : length table ≡ length before
  pub given : List Answer
  pub reached : Reached fresh trace (room_for trace) given station at entries
  pub heard :
      hear_all before (consumed_over n (drop (header_length trace) trace) (run_of fresh (drop (header_length trace) trace) (room_for trace)).answers)
      ≡ hear_all table (consumed_over n (drop at trace) (left_run reached).answers)
