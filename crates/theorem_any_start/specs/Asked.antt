-- The letter from any start, as a statement; its proof is in proofs/Theorem.antt. Whatever the station was doing, silence ends with its
-- applications, which are the cabinets, being asked again: by the (3k+3)th counted poll.
use Rattle.std.specs.Prelude.{ℕ, ◌+◌, ◌*◌, ◌≤◌, ◌≡◌, List, ◌∷◌, ◌++◌, length}
use Rattle.ring.specs.Ring.{others}
use Rattle.codec_answers.specs.declared.Sent.{Sent}
use Rattle.station.specs.declared.station.Station.{Station}
use Rattle.theorem_silence.specs.Silence.{AllQuiet}
use Rattle.theorem_silence.specs.Letter.{after_polls, sent_in, Asks}
use Rattle.theorem_any_start.specs.AnyStart.{AnyStart, lost_counted_in, plan_of, Before}

-- one of the polls asks the applications; those before it have sent what the state plans, and nothing else
pub record AskedAgain (s : Station) (records : List (List ℕ)) : Type 0 where
  pub before : List (List ℕ)
  pub asking : List ℕ
  pub later : List (List ℕ)
  pub are : records ≡ before ++ (asking ∷ later)
  pub first : List Sent
  pub first_is : Before (plan_of s) first
  pub sent : sent_in s before ≡ first ++ (plan_of s).tokens_left
  pub asks : Asks (after_polls s before) asking

-- for every such station with k others in its ring and any list of silent polls
abbrev pub LetterTheorem : Type 0
LetterTheorem = (s : Station) (records : List (List ℕ)) → AnyStart s → AllQuiet s.applications records → 3 * length (others s.token_ring) + 3 ≤ lost_counted_in s records → AskedAgain s records
