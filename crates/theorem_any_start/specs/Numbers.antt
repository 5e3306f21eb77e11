-- How many counted polls each state needs at most: as many as its plan has telegrams (`by_state` of AnyStart). None is above 3k + 2. As a
-- statement; the proof is in proofs/Numbers.
use Rattle.std.specs.Prelude.{ℕ, ◌+◌, ◌*◌, ◌≤◌, true, false, ◌≡◌, List, Option}
use Rattle.ring.specs.declared.GapState.{GapState}
use Rattle.ring.specs.declared.GapState.TheVariants.{Waiting, DoPoll}
use Rattle.station.specs.declared.state.PassTokenAttempt.{PassTokenAttempt}
use Rattle.station.specs.declared.state.PassTokenAttempt.TheVariants.{First}
use Rattle.station.specs.declared.state.State.TheVariants.{Offline, ListenToken, ActiveIdle, ClaimToken, PassToken, CheckTokenPass, AwaitStatusResponse, PassiveIdle}
use Rattle.theorem_any_start.specs.AnyStart.{plan_on, in_plan}

-- by the state, with k others
pub record Numbers (gap : GapState) (stations : List ℕ) (own k : ℕ) : Type 0 where
  pub offline : in_plan (plan_on Offline gap stations own) ≡ 2
  pub was_passive : (request : Option ℕ) → in_plan (plan_on (PassiveIdle request) gap stations own) ≡ 2
  pub listening : (request : Option ℕ) (collisions : ℕ) → in_plan (plan_on (ListenToken request collisions) gap stations own) ≡ 2
  pub idle : (request newPreviousStation : Option ℕ) (collisions : ℕ) → in_plan (plan_on (ActiveIdle request newPreviousStation collisions) gap stations own) ≡ 2
  -- ClaimToken with its first token sent; that it stands before its first is covered, but no call leaves a station so
  pub claiming : in_plan (plan_on (ClaimToken false) gap stations own) ≡ 1
  pub before_claiming : in_plan (plan_on (ClaimToken true) gap stations own) ≡ 2
  -- PassToken with a gap question due, at any attempt
  pub question_due : (a : ℕ) (attempt : PassTokenAttempt) → in_plan (plan_on (PassToken true attempt) (DoPoll a) stations own) ≡ 3 * k + 2
  -- with none due, at the first attempt
  pub no_question : (count : ℕ) → in_plan (plan_on (PassToken true First) (Waiting count) stations own) ≡ 3 * k + 1
  pub no_look : in_plan (plan_on (PassToken false First) gap stations own) ≡ 3 * k + 1
  pub awaiting : (address : ℕ) → in_plan (plan_on (AwaitStatusResponse address) gap stations own) ≡ 3 * k + 1
  -- CheckTokenPass with somebody else in the ring: at most 3k, and that after a first token
  pub checking : 1 ≤ k → in_plan (plan_on (CheckTokenPass First) gap stations own) ≡ 3 * k
  pub checking_most : 1 ≤ k → (attempt : PassTokenAttempt) → in_plan (plan_on (CheckTokenPass attempt) gap stations own) ≤ 3 * k
