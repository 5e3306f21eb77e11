-- Silence (demand 3), as a statement. Its proof is in proofs/Theorem.antt, over Times, Phases and OnePoll. Beside it: Calls (every station
-- that calls make meets the first two premises), PremisesMet (for every number of others and both gap flags calls make a station that meets
-- all), Sharp (the bound cannot be smaller), Question (why no gap question may be due), Letter (the letter's own case). The mission's
-- words:
--
--   "Let a station that is not offline start a token pass on its first attempt, no gap question due, with k others in its ring.
--   Let no command follow, and let all later polls be accepted and report no telegram, no pending byte and no transmission. Then,
--   until it holds the token, it sends three tokens to each other station, in ring order, removing each after its third, and one
--   to itself. It holds the token by the (3k+1)th poll that comes at least one slot time after known last bus activity."
--
-- Document 01: "holds the token" is the state UseToken, "start a token pass" the state PassToken; a poll with unknown activity is
-- not counted. Document 02 (P5): with no others left nobody is next in the ring, and the last token goes to the station itself.
use Rattle.std.specs.Prelude.{ℕ, ◌+◌, ◌-◌, ◌*◌, ◌/◌, ◌≤◌, Bool, true, false, cond, ◌≡◌, List, [], ◌∷◌, ◌++◌, length, drop, leb, eqb, Option, Some, None}
use Rattle.bit_times.specs.declared.micros.Micros.{Micros}
use Rattle.settings.specs.declared.parameters.Parameters.{Parameters}
use Rattle.settings.specs.Settings.{slot_time_of}
use Rattle.settings_build.specs.Build.{first_refusal, plain_of}
use Rattle.ring.specs.declared.GapState.{GapState}
use Rattle.ring.specs.declared.GapState.TheVariants.{Waiting, DoPoll}
use Rattle.ring.specs.Ring.{Ring, others}
use Rattle.codec_records.specs.Records.{head_of, record_refusal}
use Rattle.codec_answers.specs.declared.Sent.{Sent}
use Rattle.codec_answers.specs.declared.Sent.TheVariants.{Nothing, Token, StatusRequest, StatusResponse, Application}
use Rattle.station.specs.declared.state.ConnectivityState.TheVariants as connectivity
use Rattle.station.specs.declared.state.PassTokenAttempt.TheVariants.{First}
use Rattle.station.specs.declared.state.State.TheVariants.{PassToken}
use Rattle.station.specs.declared.parts.Core.{Core}
use Rattle.station.specs.declared.station.Station.{Station}
use Rattle.station.specs.Parts.{state_number}
use Rattle.station_pass.specs.Pass.{gap_advanced}
use Rattle.station_poll.specs.Poll.{poll_of}
use Rattle.theorem_sound.specs.Sound.{SoundStation}

-- What is assumed of the station.

-- a gap state that asks: the walk has an address to poll
abbrev pub asks_on : GapState → Bool
asks_on (Waiting count) = false
asks_on (DoPoll current) = true

-- Is a gap question due in a token pass? Only a pass with `gap` (do_gap) set looks at the gap. It moves the gap's turn on by one
-- (a count goes up, or a walk begins or goes on), and asks if the turn then has an address to poll.
unfoldable pub gap_due : Parameters → Core → Ring → Bool → Bool
gap_due p c ring gap = cond gap (asks_on (gap_advanced p ring c.gap_state)) false

-- the station is online
abbrev pub Online : Station → Type 0
Online s = s.core.connectivity_state ≡ connectivity.Online

-- "a station that is not offline starts a token pass on its first attempt, no gap question due"
pub record Start (s : Station) : Type 0 where
  -- its settings pass the check of a whole record
  pub settings : first_refusal (plain_of s.p) ≡ 0
  -- it is a station as the calls make it (`sound`: every station that calls make is such)
  pub sound : SoundStation s
  -- it is not offline
  pub not_offline : Online s
  -- it is in PassToken, at its first attempt, with or without a look at the gap
  pub gap : Bool
  pub passing : s.state ≡ PassToken gap First
  -- no gap question is due
  pub no_question : gap_due s.p s.core s.token_ring gap ≡ false

-- What is assumed of the later polls. That no command follows is said by there being polls only.

-- The record of a poll of a station with n applications is accepted and reports no telegram, no pending byte and no transmission.
-- Nothing is assumed of its clock, which may go back, or of the applications' decisions.
pub record Quiet (n : ℕ) (bytes : List ℕ) : Type 0 where
  pub accepted : record_refusal bytes n ≡ 0
  pub no_telegram : (head_of bytes).telegrams ≡ 0
  pub no_pending : (head_of bytes).pending ≡ 0
  pub no_transmission : (head_of bytes).transmitting ≡ false

-- all later polls
abbrev pub AllQuiet : ℕ → List (List ℕ) → Type 0
AllQuiet n [] = Unit {0}
AllQuiet n (bytes ∷ later) = Quiet n bytes × AllQuiet n later

-- What is said of a run. A run is a station and the records of its polls, in order.

-- holds the token: the state UseToken
unfoldable pub holds_token : Station → Bool
holds_token s = eqb (state_number s.state) 3

-- the station at the end of the run, or, if it is earlier, when it first holds the token
unfoldable pub until : Station → List (List ℕ) → Station
until s [] = s
until s (bytes ∷ later) = cond (holds_token s) s (until (poll_of s bytes).station later)

-- what one poll sent, as a list: nothing, or one telegram of any kind
abbrev pub told : Sent → List Sent
told Nothing = []
told (Token destination) = Token destination ∷ []
told (StatusRequest destination) = StatusRequest destination ∷ []
told (StatusResponse destination state) = StatusResponse destination state ∷ []
told (Application destination application high bytes) = Application destination application high bytes ∷ []

-- all that is sent until then, in order, by the polls' answers
unfoldable pub sent_until : Station → List (List ℕ) → List Sent
sent_until s [] = []
sent_until s (bytes ∷ later) = cond (holds_token s) [] (told (poll_of s bytes).answer.sent ++ sent_until (poll_of s bytes).station later)

-- a time comes at least one slot time after known last bus activity
unfoldable pub slot_after : Option Micros → ℕ → ℕ → Bool
slot_after None now slot = false
slot_after (Some last) now slot = leb (last.0 + slot) now

-- a poll is counted: its clock comes at least one slot time after the last bus activity, which is known before the poll
unfoldable pub counted : Station → List ℕ → Bool
counted s bytes = slot_after s.core.last_bus_activity (head_of bytes).clock (slot_time_of s.p).0

-- how many polls of the run are counted
unfoldable pub counted_in : Station → List (List ℕ) → ℕ
counted_in s [] = 0
counted_in s (bytes ∷ later) = cond (counted s bytes) 1 0 + counted_in (poll_of s bytes).station later

-- What is claimed.

-- three tokens to each, in this order
abbrev pub thrice : List ℕ → List Sent
thrice [] = []
thrice (a ∷ more) = Token a ∷ Token a ∷ Token a ∷ thrice more

-- three tokens to each other station, in ring order, and one to itself
abbrev pub tokens : List ℕ → ℕ → List Sent
tokens stations own = thrice stations ++ (Token own ∷ [])

-- The four parts, for any station that starts and any list of later polls. `others` are the other stations in its ring, in ring
-- order; k is their number, which is at most 125 (`others_length` of ring).
pub record Silence (s : Station) (records : List (List ℕ)) : Type 0 where
  -- what is not sent yet
  pub rest : List Sent
  -- What is sent, and the order: until it holds the token it sends nothing but three tokens to each other station, in ring order,
  -- and one to itself, from the first on. What is sent and the rest make up that list.
  pub sends : sent_until s records ++ rest ≡ tokens (others s.token_ring) s.p.address
  -- it holds the token exactly when all of them are sent
  pub all_sent : holds_token (until s records) ≡ true → rest ≡ []
  pub some_left : holds_token (until s records) ≡ false → rest ≡ [] → ⊥
  -- Removals: each station is taken out after its third token, when the next token goes out. So with tokens 1 to 3 sent nobody is
  -- out, with 4 to 6 the first is, .. and in the end, with 3k + 1, all are. (With none sent, 0 - 1 is 0.)
  pub removes : others (until s records).token_ring ≡ drop ((length (sent_until s records) - 1) / 3) (others s.token_ring)
  -- The bound: it holds the token by the (3k+1)th counted poll. (Counted polls after the token is held count too; applied to the
  -- shortest run with 3k + 1 of them, it says "by".)
  pub bound : 3 * length (others s.token_ring) + 1 ≤ counted_in s records → holds_token (until s records) ≡ true

-- the theorem
abbrev pub Theorem : Type 0
Theorem = (s : Station) (records : List (List ℕ)) → Start s → AllQuiet s.applications records → Silence s records
