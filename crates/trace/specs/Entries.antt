-- An entry of a trace (document 01, "Trace"). Assumes nothing.
use Rattle.std.specs.Prelude.{ℕ, List, cond, eqb, ltb}
use Rattle.station.specs.declared.station.Station.{Station}
use Rattle.station_answer.specs.Answer.{Polled}
use Rattle.station_poll.specs.Poll.{poll_of}
use Rattle.station_command.specs.Command.{online_of, offline_of, passive_of}

-- how many bytes of record follow an entry's first byte: none after a command, and after L ≥ 3 as many as it says
unfoldable pub record_length : ℕ → ℕ
record_length kind = cond (ltb kind 3) 0 kind

-- an entry: 0 online, 1 offline, 2 passive, else a poll record
unfoldable pub entry_of : Station → ℕ → List ℕ → Polled
entry_of s kind bytes = cond (eqb kind 0) (online_of s) (cond (eqb kind 1) (offline_of s) (cond (eqb kind 2) (passive_of s) (poll_of s bytes)))
