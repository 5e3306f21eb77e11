-- What a line that speaks of the state alone has to say of each state that a move leads to. That every move keeps every line is proved in
-- proofs/Kept.
use Rattle.std.specs.Prelude.{ℕ, ◌≤◌, ◌<◌, Bool, Option}
use Rattle.settings.specs.declared.parameters.Parameters.{Parameters}
use Rattle.station.specs.declared.state.PassTokenAttempt.{PassTokenAttempt}
use Rattle.station.specs.declared.state.UseTokenData.{UseTokenData}
use Rattle.station.specs.declared.state.State.{State}
use Rattle.station.specs.declared.state.State.TheVariants.{Offline, ListenToken, ActiveIdle, UseToken, ClaimToken, AwaitDataResponse, PassToken, CheckTokenPass, AwaitStatusResponse, PassiveIdle}
use Rattle.theorem_sound.specs.Moves.{Low, Other, HeldFits}

-- What a line that speaks of the state alone has to say of each state that a move leads to.
pub record OfStates (p : Parameters) (n : ℕ) (P : State → Type 0) : Type 0 where
  pub of_offline : P Offline
  pub of_listen_token : (q : Option ℕ) (k : ℕ) → Other p.address q → k ≤ 1 → P (ListenToken q k)
  pub of_active_idle : (q m : Option ℕ) (k : ℕ) → Low q → Other p.address m → k ≤ 1 → P (ActiveIdle q m k)
  pub of_use_token : (cycled : Bool) (held : UseTokenData) → HeldFits n held → P (UseToken cycled held)
  pub of_claim_token : (first : Bool) → P (ClaimToken first)
  pub of_await_data : (a : ℕ) (held : UseTokenData) → a < 128 → HeldFits n held → P (AwaitDataResponse a held)
  pub of_pass_token : (gap : Bool) (attempt : PassTokenAttempt) → P (PassToken gap attempt)
  pub of_check_token : (attempt : PassTokenAttempt) → P (CheckTokenPass attempt)
  pub of_await_status : (a : ℕ) → P (AwaitStatusResponse a)
  pub of_passive_idle : (q : Option ℕ) → Other p.address q → P (PassiveIdle q)
