-- What silence does from any start (document 02, P11), as a statement. Its proof is in proofs/Theorem.antt, over Listening and
-- theorem_silence's places. Beside it: Numbers (how many polls each state needs), Sharp (3k + 2 cannot be smaller), PremisesMet (calls make
-- such stations, in each state), Asked (the letter from any start). Document 02's words:
--
--   "take a station that is online, with k others in its ring, in any state but UseToken and AwaitDataResponse. Let no further command
--   come, and let every poll be accepted and report no telegram, no pending byte and no transmission. Then it enters UseToken by the
--   (3k+2)th poll that comes at least the lost-token timeout after known last activity. A poll with unknown activity is not counted."
--
-- What a silent poll is, a run, when the token is held and what is sent until then are Silence's definitions (demand 3).
use Rattle.std.specs.Prelude.{ℕ, suc, ◌+◌, ◌*◌, ◌≤◌, Bool, true, false, cond, ◌≡◌, List, [], ◌∷◌, ◌++◌, length, leb, Option, Some, None}
use Rattle.bit_times.specs.declared.micros.Micros.{Micros}
use Rattle.settings.specs.Settings.{token_lost_of}
use Rattle.settings_build.specs.Build.{first_refusal, plain_of}
use Rattle.ring.specs.declared.GapState.{GapState}
use Rattle.ring.specs.declared.GapState.TheVariants.{Waiting, DoPoll}
use Rattle.ring.specs.Ring.{others}
use Rattle.codec_telegrams.specs.declared.ResponseState.{ResponseState}
use Rattle.codec_records.specs.Records.{head_of}
use Rattle.codec_answers.specs.declared.Sent.{Sent}
use Rattle.codec_answers.specs.declared.Sent.TheVariants.{StatusRequest, StatusResponse}
use Rattle.station.specs.declared.state.ConnectivityState.TheVariants as connectivity
use Rattle.station.specs.declared.state.PassTokenAttempt.{PassTokenAttempt}
use Rattle.station.specs.declared.state.State.{State}
use Rattle.station.specs.declared.state.State.TheVariants.{Offline, ListenToken, ActiveIdle, UseToken, ClaimToken, AwaitDataResponse, PassToken, CheckTokenPass, AwaitStatusResponse, PassiveIdle}
use Rattle.station.specs.declared.station.Station.{Station}
use Rattle.station.specs.Parts.{state_number}
use Rattle.station_pass.specs.Pass.{gap_advanced}
use Rattle.station_poll.specs.Poll.{poll_of}
use Rattle.theorem_sound.specs.Keeps.{RingGood}
use Rattle.theorem_silence.specs.Silence.{AllQuiet, holds_token, until, sent_until, counted_in, tokens}
use Rattle.theorem_silence.specs.Phases.{tried_before, tokens_from, claim_tokens}

-- What is assumed of the station. Every station that calls make with accepted settings meets the first two lines (`met_by_calls` of
-- PremisesMet).
pub record AnyStart (s : Station) : Type 0 where
  -- its settings pass the check of a whole record
  pub settings : first_refusal (plain_of s.p) ≡ 0
  -- its ring is sound and has the settings' address for its own
  pub ring_good : RingGood s.p s.token_ring
  -- it is online; its state may still be Offline or PassiveIdle, where no poll came since the command
  pub is_online : s.core.connectivity_state ≡ connectivity.Online
  -- it is in any state but UseToken and AwaitDataResponse
  pub not_use_token : state_number s.state ≡ 3 → ⊥
  pub not_await_data : state_number s.state ≡ 5 → ⊥

-- Which polls count.

-- a time comes at least the timeout after known last bus activity
unfoldable pub lost_after : Option Micros → ℕ → ℕ → Bool
lost_after None now timeout = false
lost_after (Some last) now timeout = leb (last.0 + timeout) now

-- a poll is counted: its clock comes at least the lost-token timeout after the last bus activity, which is known before the poll
unfoldable pub lost_counted : Station → List ℕ → Bool
lost_counted s bytes = lost_after s.core.last_bus_activity (head_of bytes).clock (token_lost_of s.p).0

-- how many polls of the run are counted
unfoldable pub lost_counted_in : Station → List (List ℕ) → ℕ
lost_counted_in s [] = 0
lost_counted_in s (bytes ∷ later) = cond (lost_counted s bytes) 1 0 + lost_counted_in (poll_of s bytes).station later

-- What is to be sent, by the state.

-- a status request that is noted and not answered yet; the gap question that is due; the tokens
pub record Plan : Type 0 where
  pub noted : Option ℕ
  pub question : List Sent
  pub tokens_left : List Sent

-- nothing but these tokens
abbrev pub only_tokens : List Sent → Plan
only_tokens left = record { noted = None; question = []; tokens_left = left }

-- who waits for the lost token claims it: two tokens to itself
abbrev pub claim_plan : Option ℕ → ℕ → Plan
claim_plan request own = record { noted = request; question = []; tokens_left = claim_tokens true own }

-- a token pass: with a gap question due it is asked first, and the pass then starts at its first attempt; the gap's turn counts only
-- where the pass looks at the gap
abbrev pub pass_plan : Bool → GapState → PassTokenAttempt → List ℕ → ℕ → Plan
pass_plan true (DoPoll current) attempt stations own = record { noted = None; question = StatusRequest current ∷ []; tokens_left = tokens stations own }
pass_plan true (Waiting count) attempt stations own = only_tokens (tokens_from (tried_before attempt) stations own)
pass_plan false gap attempt stations own = only_tokens (tokens_from (tried_before attempt) stations own)

-- by the state, with the gap's turn moved on by one (what a pass that looks at the gap does first), the others in ring order, and own
abbrev pub plan_on : State → GapState → List ℕ → ℕ → Plan
plan_on Offline gap stations own = claim_plan None own
plan_on (ListenToken request collisions) gap stations own = claim_plan request own
plan_on (ActiveIdle request newPreviousStation collisions) gap stations own = claim_plan request own
plan_on (ClaimToken first) gap stations own = only_tokens (claim_tokens first own)
plan_on (PassToken look attempt) gap stations own = pass_plan look gap attempt stations own
plan_on (CheckTokenPass attempt) gap stations own = only_tokens (tokens_from (suc (tried_before attempt)) stations own)
plan_on (AwaitStatusResponse address) gap stations own = only_tokens (tokens stations own)
plan_on (PassiveIdle request) gap stations own = claim_plan None own
plan_on (UseToken cycled held) gap stations own = only_tokens []
plan_on (AwaitDataResponse address held) gap stations own = only_tokens []

abbrev pub plan_of : Station → Plan
plan_of s = plan_on s.state (gap_advanced s.p s.token_ring s.core.gap_state) (others s.token_ring) s.p.address

-- how many telegrams question and tokens are
abbrev pub in_plan : Plan → ℕ
in_plan plan = length (plan.question ++ plan.tokens_left)

-- What comes before the tokens: the gap question where one is due, else nothing; or the answer to a status request that was noted, where
-- its pause is over before the token is lost.
pub data Before (plan : Plan) (first : List Sent) : Type 0 where
  asked : first ≡ plan.question → Before plan first
  answered : (source : ℕ) (state : ResponseState) → plan.noted ≡ Some source → first ≡ StatusResponse source state ∷ [] → Before plan first

-- What is claimed, for any such station and any list of later polls. `others` are the other stations in its ring, in ring order; k is
-- their number, which is at most 125 (`others_length` of ring).
pub record FromAnyStart (s : Station) (records : List (List ℕ)) : Type 0 where
  -- The bound: it enters UseToken by the (3k+2)th counted poll. (Counted polls after that count too; applied to the shortest run with
  -- 3k + 2 of them, it says "by".)
  pub bound : 3 * length (others s.token_ring) + 2 ≤ lost_counted_in s records → holds_token (until s records) ≡ true
  -- By the state: as many counted polls are enough as there are telegrams in the question and the tokens (Numbers has the numbers).
  pub by_state : in_plan (plan_of s) ≤ lost_counted_in s records → holds_token (until s records) ≡ true
  -- From ClaimToken (4) to AwaitStatusResponse (8), where nothing waits for the lost token, polls that come one slot time after known last
  -- activity are enough, those that Silence counts.
  pub by_slot : 4 ≤ state_number s.state → state_number s.state ≤ 8 → in_plan (plan_of s) ≤ counted_in s records → holds_token (until s records) ≡ true
  -- What is sent, and the order: until it enters UseToken it sends nothing but what comes before the tokens, and the tokens, from the
  -- first on. What is sent and the rest make up that list.
  pub first : List Sent
  pub first_is : Before (plan_of s) first
  pub rest : List Sent
  pub sends : sent_until s records ++ rest ≡ first ++ (plan_of s).tokens_left
  -- it has entered UseToken exactly when all of them are sent
  pub all_sent : holds_token (until s records) ≡ true → rest ≡ []
  pub some_left : holds_token (until s records) ≡ false → rest ≡ [] → ⊥

-- the theorem
abbrev pub Theorem : Type 0
Theorem = (s : Station) (records : List (List ℕ)) → AnyStart s → AllQuiet s.applications records → FromAnyStart s records
