-- What a step comes to in the other states of a passive station: it leaves it passive, and does not enter ClaimToken. The proof is in
-- proofs/Unclaimed.
use Rattle.std.specs.Prelude.{◌≡◌}
use Rattle.station.specs.declared.state.ConnectivityState.{ConnectivityState}
use Rattle.station.specs.declared.done.Event.{Event}
use Rattle.station.specs.declared.done.Event.TheVariants as event
use Rattle.station.specs.Whole.{Step}
use Rattle.station.specs.Parts.{state_number}

-- what is counted of a step is no entry to ClaimToken
abbrev pub NoClaim : Event → Type 0
NoClaim event.Nothing = Unit {0}
NoClaim event.Claim = ⊥
NoClaim event.Removal = Unit {0}
NoClaim (event.Meetings met) = Unit {0}

-- a step leaves the connectivity state, ends in ClaimToken only where K holds, and counts no entry to it
pub record Unclaimed (v : ConnectivityState) (K : Type 0) (s : Step) : Type 0 where
  pub same : s.core.connectivity_state ≡ v
  pub claims : state_number s.state ≡ 4 → K
  pub no_entry : NoClaim s.event
