-- What a passive station does (document 02, P10), as statements; the proofs are in proofs/Theorem.antt, over Idle.antt and Unclaimed.antt
-- there. Document 02's words:
--
--   "A spare logger should sit on the bus, answer status requests and never take the token."
--
-- Both are said of any station that is passive, sound or not, after any records and no command. A record that is refused leaves the
-- station as it was, so nothing is asked of the records.
use Rattle.std.specs.Prelude.{ℕ, ◌≡◌, List, [], ◌∷◌}
use Rattle.codec_telegrams.specs.declared.ResponseState.TheVariants.{Slave}
use Rattle.codec_answers.specs.declared.Sent.{Sent}
use Rattle.codec_answers.specs.declared.Sent.TheVariants as sent
use Rattle.codec_answers.specs.declared.Notice.TheVariants as notice
use Rattle.codec_answers.specs.declared.Answer.{Answer}
use Rattle.station.specs.declared.state.ConnectivityState.TheVariants as connectivity
use Rattle.station.specs.declared.parts.Core.{Core}
use Rattle.station.specs.declared.station.Station.{Station}
use Rattle.station.specs.Parts.{state_number}
use Rattle.station_poll.specs.Poll.{poll_of}

-- the station was put passive
abbrev pub IsPassive : Station → Type 0
IsPassive s = s.core.connectivity_state ≡ connectivity.Passive

-- its state has this number: 9 is PassiveIdle, 4 ClaimToken
abbrev pub In : ℕ → Station → Type 0
In number s = state_number s.state ≡ number

-- the station after polls with these records, and no command
unfoldable pub polled : Station → List (List ℕ) → Station
polled s [] = s
polled s (bytes ∷ later) = polled (poll_of s bytes).station later

-- what may be sent: nothing, or a status response of type slave
pub data OnlyAnswers : Sent → Type 0 where
  sends_nothing : OnlyAnswers sent.Nothing
  answers : (asked_by : ℕ) → OnlyAnswers (sent.StatusResponse asked_by Slave)

-- what stays of a core: all but the last bus activity and the pending bytes
pub record CoreStays (before now : Core) : Type 0 where
  pub token_time : now.last_token_time ≡ before.last_token_time
  pub hold_end : now.end_token_hold_time ≡ before.end_token_hold_time
  pub gap : now.gap_state ≡ before.gap_state
  pub application : now.next_application ≡ before.next_application
  pub connected : now.connectivity_state ≡ before.connectivity_state

-- what stays of a station: that, its settings, its counts and the number of its applications, and its ring's own address. Of the ring
-- nothing else stays: it witnesses tokens
pub record StationStays (before now : Station) : Type 0 where
  pub core_stays : CoreStays before.core now.core
  pub own : now.token_ring.own ≡ before.token_ring.own
  pub settings : now.p ≡ before.p
  pub counted : now.counts ≡ before.counts
  pub applications : now.applications ≡ before.applications

-- what an answer may say: no state but PassiveIdle, nothing sent but answers, nothing told to an application
pub record Answered (a : Answer) : Type 0 where
  pub state_is : a.state ≡ 9
  pub sends : OnlyAnswers a.sent
  pub tells : a.notice ≡ notice.NoNotice

-- 1. It never takes the token. From PassiveIdle, after any records (`earlier`) and whatever record comes next: the station is in
-- PassiveIdle, all the above stays, and the next answer says no more than it may.
pub record NeverTakes (s : Station) (earlier : List (List ℕ)) (next : List ℕ) : Type 0 where
  pub in_passive_idle : In 9 (polled s earlier)
  pub stays : StationStays s (polled s earlier)
  pub answered : Answered (poll_of (polled s earlier) next).answer

abbrev pub NeverTakesTheToken : Type 0
NeverTakesTheToken = (s : Station) (earlier : List (List ℕ)) (next : List ℕ) → IsPassive s → In 9 s → NeverTakes s earlier next

-- 2. It never enters ClaimToken. Once passive, in any state, after any records and whatever record comes next: a poll that leaves the
-- station in ClaimToken found it there; and the entries to ClaimToken, as the station counts them, are as many as when it was put
-- passive. (One that is in ClaimToken already sends its second token.)
pub record NoEntry (s : Station) (earlier : List (List ℕ)) (next : List ℕ) : Type 0 where
  pub found_there : In 4 (poll_of (polled s earlier) next).station → In 4 (polled s earlier)
  pub entries : (polled s earlier).counts.claims ≡ s.counts.claims

abbrev pub NeverClaims : Type 0
NeverClaims = (s : Station) (earlier : List (List ℕ)) (next : List ℕ) → IsPassive s → NoEntry s earlier next
