-- A run over bytes, taken apart into entries. That every run can be, and demand 1's statement with it, is proved in proofs/Theorem.
use Rattle.std.specs.Prelude.{ℕ, ◌-◌, ◌*◌, ◌≤◌, ◌≡◌, List, ◌++◌, length}
use Rattle.station.specs.declared.station.Station.{Station}
use Rattle.trace.specs.Trace.{Run}
use Rattle.theorem_every_trace.specs.Statement.{Entry, Whole, laid, along, Stops}

-- a run over bytes, taken apart: the entries that it answers, the bytes that it leaves, and why it stops there
pub record Taken (s : Station) (l : List ℕ) (room : ℕ) (run : Run) : Type 0 where
  pub entries : List Entry
  pub rest : List ℕ
  pub whole : Whole entries
  pub bytes : l ≡ laid entries ++ rest
  pub fits : 8 * length entries ≤ room
  pub given : run.answers ≡ (along s entries).answers
  pub reached : run.station ≡ (along s entries).station
  pub stops : Stops (room - 8 * length entries) rest run.ending
