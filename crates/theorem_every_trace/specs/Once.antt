-- What it is that `every_trace` leaves no choice: two replays of one trace take its bytes apart alike. The proof is in proofs/Once.
use Rattle.std.specs.Prelude.{ℕ, ◌≡◌, List}
use Rattle.station.specs.declared.station.Station.{Station}
use Rattle.theorem_every_trace.specs.Statement.{Answered}

-- two replays of one trace into one buffer: the same entries are answered, the same bytes are left, with the same ending
pub record OneReplay {fresh gone : Station} {trace before : List ℕ} {returned number : ℕ} {left other : List ℕ} (a : Answered fresh trace before returned left) (b : Answered gone trace before number other) : Type 0 where
  pub one_entries : a.entries ≡ b.entries
  pub one_rest : a.rest ≡ b.rest
  pub one_end : a.ending ≡ b.ending
