-- The proof of Numbers: how many telegrams each state's plan has.
use Rattle.std.specs.Prelude.{ℕ, ◌*◌, ◌≤◌, refl, List, length}
use Rattle.std.proofs.Common.{arith}
use Rattle.ring.specs.declared.GapState.{GapState}
use Rattle.station.specs.declared.state.PassTokenAttempt.{PassTokenAttempt}
use Rattle.station.specs.declared.state.PassTokenAttempt.TheVariants.{First, Second, Third}
use Rattle.station.specs.declared.state.State.TheVariants.{CheckTokenPass}
use Rattle.theorem_silence.proofs.Phases.{tokens_length}
use Rattle.theorem_any_start.specs.AnyStart.{plan_on, in_plan}
use Rattle.theorem_any_start.proofs.Theorem.{from_length}
use Rattle.theorem_any_start.specs.Numbers.{Numbers}

check_most : (stations : List ℕ) (own : ℕ) (gap : GapState) → 1 ≤ length stations → (attempt : PassTokenAttempt) → in_plan (plan_on (CheckTokenPass attempt) gap stations own) ≤ 3 * length stations
check_most stations own gap l First = omega (arith, from_length 1 stations own)
check_most stations own gap l Second = omega (arith, from_length 2 stations own)
check_most stations own gap l Third = omega (arith, from_length 3 stations own)

pub numbers : (gap : GapState) (stations : List ℕ) (own : ℕ) → Numbers gap stations own (length stations)
numbers gap stations own =
    let all = tokens_length stations own in
    record {
      offline = refl;
      was_passive = λ q. refl;
      listening = λ q i. refl;
      idle = λ q m i. refl;
      claiming = refl;
      before_claiming = refl;
      question_due = λ a k. omega arith;
      no_question = λ i. all;
      no_look = all;
      awaiting = λ a. all;
      checking = λ l. omega (arith, from_length 1 stations own);
      checking_most = check_most stations own gap;
    }
