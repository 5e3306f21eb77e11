-- Where the run's loop stands, turn by turn: by the run alone, and with the buffer. The laws are in proofs/Laws. Assumes nothing.
use Rattle.std.specs.Prelude.{ℕ, ◌+◌, ◌-◌, ◌*◌, ◌^◌, ◌≤◌, ◌≡◌, List, ◌++◌, length, take, drop}
use Rattle.codec_answers.specs.declared.Answer.{Answer}
use Rattle.station.specs.declared.station.Station.{Station}
use Rattle.trace.specs.Trace.{Run, run_from, run_of, written}
use Rattle.trace_headers.specs.Headers.{header_length}

-- answers given before, and then those of a run
abbrev pub preceded_by : List Answer → Run → Run
preceded_by given run = record { answers = given ++ run.answers; station = run.station; ending = run.ending }

-- The run alone, whatever a loop over a trace's entries keeps beside it.

-- where such a loop stands: the run of the whole is that of what is left, after the answers given
pub record Reached (fresh : Station) (trace : List ℕ) (room : ℕ) (given : List Answer) (station : Station) (at entries : ℕ) : Type 0 where
  pub small : length trace ≤ 2 ^ 32
  pub begun : header_length trace + entries ≤ at
  pub within : at ≤ length trace
  pub many : length given ≡ entries
  pub run : run_of fresh (drop (header_length trace) trace) room ≡ preceded_by given (run_from (length trace - header_length trace - entries) station (drop at trace) (room - 8 * entries))

-- The run and the buffer.

-- where the loop stands: at this entry of the run, with the answers given in the buffer. The first three lines are the run's own,
-- again for the arithmetic of the loop's tests
pub record Going (fresh : Station) (trace before answers : List ℕ) (station : Station) (at out entries : ℕ) : Type 0 where
  pub small : length trace ≤ 2 ^ 32
  pub begun : header_length trace + entries ≤ at
  pub within : at ≤ length trace
  pub place : out ≡ 8 * entries
  pub room : out ≤ length answers
  pub long : length answers ≡ length before
  pub kept : drop out answers ≡ drop out before
  pub given : List Answer
  pub stand : written given ≡ take out answers
  pub reached : Reached fresh trace (length before) given station at entries

-- where the loop over the entries that are left stands, with the answers given in the buffer
pub record Answering (fresh : Station) (trace before answers : List ℕ) (station : Station) (rest : List ℕ) (out entries : ℕ) : Type 0 where
  pub few : entries ≤ 2 ^ 32
  pub room : out ≤ length answers
  pub at : ℕ
  pub left : rest ≡ drop at trace
  pub going : Going fresh trace before answers station at out entries
