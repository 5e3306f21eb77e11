-- Where a token pass may end. What the steps of station_pass, station_await_status and station_check_pass come to is proved in
-- proofs/Pass.
use Rattle.std.specs.Prelude.{ℕ, Bool, ◌≡◌}
use Rattle.std.proofs.Math.Bool.{true, false}
use Rattle.station.specs.declared.state.UseTokenData.{UseTokenData}
use Rattle.station.specs.declared.state.PassTokenAttempt.{PassTokenAttempt}
use Rattle.station.specs.declared.state.State.{State}
use Rattle.station.specs.declared.state.State.TheVariants.{UseToken, CheckTokenPass, AwaitStatusResponse}

-- where a token pass may end: with the token, if alone; checking the pass; with a gap question, if it looks at the gap; and where it was,
-- if the pause is not over
pub record PassEnds (E : State → Type 0) (gap : Bool) : Type 0 where
  pub ends_alone : (held : UseTokenData) → E (UseToken false held)
  pub ends_check : (attempt : PassTokenAttempt) → E (CheckTokenPass attempt)
  pub ends_asking : gap ≡ true → (a : ℕ) → E (AwaitStatusResponse a)
