-- The letter's own case, as a statement; its proof is in proofs/Asking.antt.
--
-- A neighbour that never answers is out of the ring after three tokens, and the station asks its cabinets again. In document 01's
-- words: the station has one other in its ring and starts a token pass; the bus stays silent. By the fourth counted poll it has sent
-- three tokens to the neighbour and one to itself, the neighbour is out of the ring, and the station holds the token. By the fifth
-- it has asked its applications, which are the cabinets.
use Rattle.std.specs.Prelude.{ℕ, ◌≤◌, Bool, true, false, cond, not, ◌≡◌, List, [], ◌∷◌, ◌++◌, None}
use Rattle.bit_times.specs.declared.micros.Micros.{Micros}
use Rattle.ring.specs.Ring.{has, others}
use Rattle.codec_decisions.specs.declared.Decision.{Decision}
use Rattle.codec_decisions.specs.declared.Decision.TheVariants as decision
use Rattle.codec_records.specs.Records.{head_of, decision_at}
use Rattle.codec_answers.specs.declared.Sent.{Sent}
use Rattle.codec_answers.specs.declared.Sent.TheVariants.{Nothing, Token, Application}
use Rattle.station.specs.declared.station.Station.{Station}
use Rattle.station.specs.Parts.{state_number}
use Rattle.station.specs.Steps.{to_use_token}
use Rattle.station_hold.specs.Hold.{asked_of, holds_of}
use Rattle.station_poll.specs.Poll.{poll_of}
use Rattle.theorem_silence.specs.Silence.{Start, AllQuiet, holds_token, until, told, sent_until, counted_in}

-- the station after these polls
unfoldable pub after_polls : Station → List (List ℕ) → Station
after_polls s [] = s
after_polls s (bytes ∷ later) = after_polls (poll_of s bytes).station later

-- all that these polls send, in order
unfoldable pub sent_in : Station → List (List ℕ) → List Sent
sent_in s [] = []
sent_in s (bytes ∷ later) = told (poll_of s bytes).answer.sent ++ sent_in (poll_of s bytes).station later

-- what application a sends by its decision, of normal or high priority
abbrev pub wanted : Decision → ℕ → Bool → Sent
wanted decision.Decline a high = Nothing
wanted (decision.Send length) a high = Application 0 a high length
wanted (decision.SendExpectReply address length) a high = Application address a high length

-- What is sent when the n applications are asked, one after the other, from the one whose turn it is: the telegram of the first
-- that does not decline, nothing if all decline.
unfoldable pub asked_sent : List ℕ → ℕ → ℕ → Bool → Sent
asked_sent bytes n turn high =
    let asked = asked_of bytes n turn None high in
    cond asked.sends (wanted (decision_at bytes n asked.application high) asked.application high) Nothing

-- The poll comes within the hold time. do_use_token first sets the end of hold, if the token's time is not that of the last token, and
-- then looks at it; so it is the end that the station has after the poll.
abbrev pub in_hold_time : Station → List ℕ → Bool
in_hold_time s bytes = holds_of (record { 0 = (head_of bytes).clock }) (poll_of s bytes).station.core.end_token_hold_time

-- A poll in which the station holds a new token and asks its applications. The other thing that a silent poll with a new token can do
-- is to wait, for a transmission to end or for the pause: then nothing is sent and the state stays UseToken, which `on` rules out.
pub record Asks (s : Station) (bytes : List ℕ) : Type 0 where
  -- it holds the token since this time (UseToken), and has not asked anyone with it yet
  pub since : Micros
  pub holds : s.state ≡ to_use_token since
  -- it asks for normal telegrams within the hold time, for those of high priority after it
  pub high : Bool
  pub when : in_hold_time s bytes ≡ not high
  -- it sends what the applications want
  pub asks : (poll_of s bytes).answer.sent ≡ asked_sent bytes s.applications s.core.next_application high
  -- if that is nothing, all have declined and the token is to be passed on: the state is PassToken, number 6
  pub on : (poll_of s bytes).answer.sent ≡ Nothing → state_number (poll_of s bytes).station.state ≡ 6

-- three tokens to the neighbour, then one to itself
abbrev pub four_tokens : ℕ → ℕ → List Sent
four_tokens neighbour own = Token neighbour ∷ Token neighbour ∷ Token neighbour ∷ Token own ∷ []

-- the neighbour is out and the token is held
pub record Out (s : Station) (neighbour : ℕ) (records : List (List ℕ)) : Type 0 where
  pub holds : holds_token (until s records) ≡ true
  pub sent : sent_until s records ≡ four_tokens neighbour s.p.address
  pub gone : has (until s records).token_ring neighbour ≡ false

-- one of the polls asks the applications; those before it have sent the four tokens and nothing else
pub record Asked (s : Station) (neighbour : ℕ) (records : List (List ℕ)) : Type 0 where
  pub before : List (List ℕ)
  pub asking : List ℕ
  pub rest : List (List ℕ)
  pub are : records ≡ before ++ (asking ∷ rest)
  pub sent : sent_in s before ≡ four_tokens neighbour s.p.address
  pub gone : has (after_polls s before).token_ring neighbour ≡ false
  pub asks : Asks (after_polls s before) asking

-- the letter's case: out by the fourth counted poll, asked by the fifth
pub record Letter (s : Station) (neighbour : ℕ) (records : List (List ℕ)) : Type 0 where
  pub by_four : 4 ≤ counted_in s records → Out s neighbour records
  pub by_five : 5 ≤ counted_in s records → Asked s neighbour records

-- for every station that starts a token pass with one other in its ring, and any list of silent polls
abbrev pub LetterTheorem : Type 0
LetterTheorem = (s : Station) (neighbour : ℕ) (records : List (List ℕ)) → Start s → others s.token_ring ≡ neighbour ∷ [] → AllQuiet s.applications records → Letter s neighbour records
