-- What a poll comes to in PassiveIdle. The proof, and those of the two theorems, are in proofs/Theorem.
use Rattle.std.specs.Prelude.{◌≡◌}
use Rattle.station.specs.declared.station.Station.{Station}
use Rattle.station.specs.Parts.{state_number}
use Rattle.station_answer.specs.Answer.{Polled}
use Rattle.theorem_passive.specs.Statement.{StationStays, Answered}

-- what a poll comes to in PassiveIdle, accepted or refused
pub record PollIdle (s : Station) (x : Polled) : Type 0 where
  pub nine : state_number x.station.state ≡ 9
  pub stays : StationStays s x.station
  pub answered : Answered x.answer
