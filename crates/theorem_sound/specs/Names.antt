-- What it is for an answer to name the next station of the ring that the call leaves, by its number. That every answer does, and which
-- number it is, is proved in proofs/Names.
use Rattle.std.specs.Prelude.{ℕ, ◌≡◌}
use Rattle.ring.specs.Ring.{next_of, next_number}
use Rattle.station.specs.declared.station.Station.{Station}
use Rattle.station_answer.specs.Answer.{Polled}

-- the number of a station's next station
abbrev pub next_in : Station → ℕ
next_in s = next_number (next_of s.token_ring)

-- an answer names the next station of the station that is handed back with it
abbrev pub NamesNext : Polled → Type 0
NamesNext x = x.answer.next_station ≡ next_in x.station
