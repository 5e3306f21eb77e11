-- A step with a table is the step without, along any entries. Assumes nothing.
use Rattle.std.specs.Prelude.{ℕ, ◌≤◌, ◌<◌, ◌≡◌, refl, List, [], ◌∷◌, ◌++◌, length, replicate}
use Rattle.std.proofs.Common.{sym, ap, subst, ◌∙◌}
use Rattle.heard.specs.Afresh.{table_length}
use Rattle.heard.specs.Laws.{Long, hear_all_long}
use Rattle.live.specs.Live.{Stepped, Refusal, Answers, step_of, step_number, step_into, step_answer}
use Rattle.live.specs.Laws.{Refuses, no_room_refuses}
use Rattle.live_heard.specs.LiveHeard.{step_beside, step_table}
use Rattle.live_heard.proofs.Laws.{beside_long, beside_short, refuses_leaves}
use Rattle.theorem_every_trace.specs.Statement.{Entry}
use Rattle.theorem_live.specs.Stepped.{entry_bytes, bytes_after, bytes_said}
use Rattle.theorem_live_beside.specs.Statement.{SameStep, NoStep, Lent, lent_after, lent_said, SameAlong}

-- with a table that is long enough
pub same_step : (station entry answer table : List ℕ) → table_length ≤ length table → SameStep station entry answer table
same_step station entry answer table l =
    let e = beside_long station entry (length answer) (length table) l in
    record { same_number = ap step_number e; same_station = ap (λ (x : Stepped). step_into x station) e; same_answer = ap (λ (x : Stepped). step_answer x answer) e }

-- with one that is too short
refuses_into : (x : Stepped) (station : List ℕ) → Refuses x → step_into x station ≡ station
unfolding step_into
refuses_into (Refusal n) station r = refl
refuses_into (Answers polled size) station r = absurd r

pub no_step : (station entry answer table : List ℕ) → length table < table_length → NoStep station entry answer table
no_step station entry answer table l =
    let e = beside_short station entry (length answer) (length table) l in
    let r : Refuses (step_beside station entry (length answer) (length table)) = subst Refuses (sym e) (no_room_refuses station entry) in
    let stays = refuses_leaves _ entry answer table r in
    record { no_room = ap step_number e; station_stays = refuses_into _ station r; answer_stays = sym stays.0; table_stays = sym stays.1 }

-- a step leaves the table's length
step_long : (x : Stepped) (entry table : List ℕ) → Long table → Long (step_table x entry table)
unfolding step_table
step_long (Refusal n) entry table l = l
step_long (Answers polled size) entry table l = hear_all_long table _ l

pub lent_long : (l : Lent) (e : Entry) → Long l.table → Long (lent_after l e).table
lent_long l e long = step_long _ (entry_bytes e) l.table long

-- one step of it
pub lent_step : (l : Lent) (e : Entry) → Long l.table → step_beside l.station (entry_bytes e) 8 (length l.table) ≡ step_of l.station (entry_bytes e) 8
lent_step l e long = beside_long l.station (entry_bytes e) 8 (length l.table) long

-- The theorem: along any entries.
pub same_along : (l : Lent) (es : List Entry) → Long l.table → SameAlong l es
same_along l [] long = record { same_stations = refl; same_answers = refl }
same_along l (e ∷ es) long =
    let is = lent_step l e long in
    let left : (lent_after l e).station ≡ step_into (step_of l.station (entry_bytes e) 8) l.station = ap (λ (x : Stepped). step_into x l.station) is in
    let more = same_along (lent_after l e) es (lent_long l e long) in
    record {
      same_stations = more.same_stations ∙ ap (λ (b : List ℕ). bytes_after b es) left;
      same_answers =
          ap (λ (x : Stepped). step_answer x (replicate 8 0) ++ lent_said (lent_after l e) es) is
          ∙ ap (λ (b : List ℕ). step_answer (step_of l.station (entry_bytes e) 8) (replicate 8 0) ++ b) (more.same_answers ∙ ap (λ (b : List ℕ). bytes_said b es) left);
    }
