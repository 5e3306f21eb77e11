-- What is found in the letter's case: among the polls one that asks the applications, and what the station sent and left before it. The
-- proof is in proofs/Asking.
use Rattle.std.specs.Prelude.{ℕ, suc, ◌≤◌, ◌≡◌, List, ◌∷◌, ◌++◌, length}
use Rattle.settings.specs.declared.parameters.Parameters.{Parameters}
use Rattle.ring.specs.Ring.{Ring}
use Rattle.codec_answers.specs.declared.Sent.{Sent}
use Rattle.station.specs.declared.state.State.{State}
use Rattle.station.specs.declared.parts.Core.{Core}
use Rattle.station.specs.declared.parts.Counts.{Counts}
use Rattle.station.specs.declared.station.Station.{Station}
use Rattle.theorem_silence.specs.Silence.{counted_in}
use Rattle.theorem_silence.specs.Phases.{Phase, holding, todo, end_ring}
use Rattle.theorem_silence.specs.OnePoll.{At}
use Rattle.theorem_silence.specs.Theorem.{station_of}
use Rattle.theorem_silence.specs.Letter.{after_polls, sent_in, Asks}

-- One of these polls asks the applications; those before it have sent this and nothing else, and have left these others in the ring.
pub record Found (p : Parameters) (out : List Sent) (os : List ℕ) (s : Station) (records : List (List ℕ)) : Type 0 where
  pub before : List (List ℕ)
  pub asking : List ℕ
  pub rest : List (List ℕ)
  pub are : records ≡ before ++ (asking ∷ rest)
  pub sent : sent_in s before ≡ out
  pub place : At (holding os) p (after_polls s before).state (after_polls s before).core (after_polls s before).token_ring
  pub asks : Asks (after_polls s before) asking

-- from a place, with what is found: all that was to be sent is sent before
abbrev pub FoundAt : Parameters → ℕ → Phase → Counts → State → Core → Ring → List (List ℕ) → Type 0
FoundAt p n ph ks s c r records = suc (length (todo p.address ph)) ≤ counted_in (station_of p n ks s c r) records → Found p (todo p.address ph) (end_ring ph) (station_of p n ks s c r) records
