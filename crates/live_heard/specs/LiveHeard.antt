-- The step of a station in bytes with a table of who was heard lent beside it (requests P7 and the live door). Assumes nothing.
use Rattle.std.specs.Prelude.{ℕ, ◌-◌, cond, List, take, drop, ltb}
use Rattle.heard.specs.Heard.{hear_all, consumed_in}
use Rattle.heard.specs.Afresh.{table_length}
use Rattle.live.specs.Live.{Stepped, Refusal, Answers, step_of}

-- a step of a station with room bytes for its answer and a table of so many bytes: beside a table that is too short no answer has room
unfoldable pub step_beside : List ℕ → List ℕ → ℕ → ℕ → Stepped
step_beside station entry room long = step_of station entry (cond (ltb long table_length) 0 room)

-- what it leaves of the table: fed with the telegrams of the entry's record, which stands behind the entry's first byte, that were
-- consumed; as it is where the step refuses
unfoldable pub step_table : Stepped → List ℕ → List ℕ → List ℕ
step_table (Refusal n) entry table = table
step_table (Answers polled size) entry table =
    hear_all table (consumed_in (take (size - 1) (drop 1 entry)) polled.station.applications polled.answer.consumed)
