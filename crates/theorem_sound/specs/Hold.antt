-- What asking the applications ends with, and where a step of station_hold may end. What the steps come to is proved in proofs/Hold.
use Rattle.std.specs.Prelude.{ℕ, ◌<◌, Bool}
use Rattle.std.proofs.Math.Bool.{true}
use Rattle.station.specs.declared.state.PassTokenAttempt.TheVariants.{First}
use Rattle.station.specs.declared.state.UseTokenData.{UseTokenData}
use Rattle.station.specs.declared.state.State.{State}
use Rattle.station.specs.declared.state.State.TheVariants.{UseToken, AwaitDataResponse, PassToken}
use Rattle.station_hold.specs.Hold.{Asked}

-- what asking ends with: one of the n applications
pub record AskedGood (n : ℕ) (a : Asked) : Type 0 where
  pub asked : a.application < n

-- where a step with the token in hand may end: it goes on with it, awaits a reply, or passes the token on
pub record HoldEnds (E : State → Type 0) : Type 0 where
  pub ends_use : (cycled : Bool) (held : UseTokenData) → E (UseToken cycled held)
  pub ends_await : (a : ℕ) (held : UseTokenData) → E (AwaitDataResponse a held)
  pub ends_pass : E (PassToken true First)
