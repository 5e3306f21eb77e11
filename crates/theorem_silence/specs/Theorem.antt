-- What a run of silent polls from any place comes to. That it does, and Silence with it, is proved in proofs/Theorem.
use Rattle.std.specs.Prelude.{ℕ, ◌≤◌, true, false, ◌≡◌, List, [], ◌++◌, length}
use Rattle.bit_times.specs.declared.micros.Micros.{Micros}
use Rattle.settings.specs.declared.parameters.Parameters.{Parameters}
use Rattle.ring.specs.Ring.{Ring, others}
use Rattle.codec_records.specs.Records.{head_of}
use Rattle.codec_answers.specs.declared.Sent.{Sent}
use Rattle.station.specs.declared.state.State.{State}
use Rattle.station.specs.declared.parts.Core.{Core}
use Rattle.station.specs.declared.parts.Counts.{Counts}
use Rattle.station.specs.declared.station.Station.{Station}
use Rattle.theorem_silence.specs.Silence.{holds_token, until, sent_until, counted_in}
use Rattle.theorem_silence.specs.Phases.{Phase, holding, todo, in_ring, end_ring, advance}
use Rattle.theorem_silence.specs.OnePoll.{At}

-- the station of these parts
abbrev pub station_of : Parameters → ℕ → Counts → State → Core → Ring → Station
station_of p n ks s c r = record { state = s; core = c; token_ring = r; p = p; counts = ks; applications = n }

-- a poll record's clock
abbrev pub clock_of : List ℕ → Micros
clock_of bytes = record { 0 = (head_of bytes).clock }

-- What a run from any place comes to, by what it sends, the station at its end and the slots that are counted.
pub record RunFrom (p : Parameters) (ph : Phase) (s : Station) (records : List (List ℕ)) : Type 0 where
  -- what is not sent yet, and that what is sent and the rest are what was to be sent
  pub rest : List Sent
  pub sends_of : sent_until s records ++ rest ≡ todo p.address ph
  -- the token is held exactly when all is sent
  pub all_of : holds_token (until s records) ≡ true → rest ≡ []
  pub some_of : holds_token (until s records) ≡ false → rest ≡ [] → ⊥
  -- as many counted polls as there are telegrams to be sent lead to the token
  pub bound_of : length (todo p.address ph) ≤ counted_in s records → holds_token (until s records) ≡ true
  -- who is then left in the ring, and the place once the token is held
  pub left_of : others (until s records).token_ring ≡ in_ring (advance (length (sent_until s records)) ph)
  pub held_at : holds_token (until s records) ≡ true → At (holding (end_ring ph)) p (until s records).state (until s records).core (until s records).token_ring
