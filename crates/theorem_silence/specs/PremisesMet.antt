-- The premises of Silence can be met, with any number of others and with the gap flag both ways; as a statement. Its proof is in
-- proofs/Shown.
use Rattle.std.specs.Prelude.{ℕ, ◌≤◌, Bool, ◌≡◌, length}
use Rattle.ring.specs.Ring.{others}
use Rattle.station.specs.declared.state.PassTokenAttempt.TheVariants.{First}
use Rattle.station.specs.declared.state.State.TheVariants.{PassToken}
use Rattle.station.specs.declared.station.Station.{Station}
use Rattle.theorem_silence.specs.Silence.{Start}
use Rattle.theorem_silence.specs.Calls.{ByCalls}
use Rattle.theorem_silence.specs.Sharp.{Sharp}

-- A station that calls make, that meets the premises of Silence, that has k others in its ring and passes the token with or without
-- a look at the gap; and runs of it that show that the bound is sharp.
pub record Met (k : ℕ) (gap : Bool) : Type 0 where
  pub station : Station
  pub by_calls : ByCalls station
  pub starts : Start station
  pub size : length (others station.token_ring) ≡ k
  pub flag : station.state ≡ PassToken gap First
  pub is_sharp : Sharp station

-- there is one for every number of others that a ring can have, and for both flags
abbrev pub PremisesMet : Type 0
PremisesMet = (k : ℕ) → k ≤ 125 → (gap : Bool) → Met k gap
