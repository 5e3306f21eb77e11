-- What never happens: the arms of the definitions that are there only so that they are total, and tests that are never asked. Here is what
-- the theorems on them speak of. The theorems are in proofs/Never, by the same numbers; 3, 4 and 5 need no more words and are there alone.
use Rattle.std.specs.Prelude.{ℕ, ◌≤◌, Bool, true, ◌≡◌, ◌⊎◌, List, Option, Some, None}
use Rattle.bit_times.specs.declared.micros.Micros.{Micros}
use Rattle.codec_decisions.specs.declared.Decision.TheVariants as decision
use Rattle.codec_records.specs.Records.{decision_at}
use Rattle.station.specs.declared.state.State.{State}
use Rattle.station.specs.declared.state.State.TheVariants.{Offline, ListenToken, ActiveIdle, UseToken, ClaimToken, AwaitDataResponse, PassToken, CheckTokenPass, AwaitStatusResponse, PassiveIdle}
use Rattle.station.specs.Parts.{state_number}
use Rattle.station.specs.Steps.{to_passive_idle}
use Rattle.station_hold.specs.Hold.{Asked}

-- 1. Offline inside the dispatch: `dispatch_never_offline` of proofs/Sound.antt.

-- 2. An application that declines where one was found to send (app_transmit_of, its first clause): the one that asking found to send
-- does not decline.
pub record SenderSends (bytes : List ℕ) (n : ℕ) (high : Bool) (a : Asked) : Type 0 where
  pub no_decline : a.sends ≡ true → decision_at bytes n a.application high ≡ decision.Decline → ⊥

-- 6. A test of a pause, a slot or a lost token with a clock before the last activity: the dispatch is given none. (The published
-- lost-token test takes the absolute difference of the two.)
abbrev pub NotAfter : Option Micros → Micros → Type 0
NotAfter None now = Unit {0}
NotAfter (Some last) now = last.0 ≤ now.0

-- 7. A telegram heard in another state (listen_telegram and handle_telegram, their other clauses), and a request noted while telegrams
-- are received. Before each telegram of do_listen_token the station is in ListenToken with no request noted, or Offline by a second
-- collision of the same poll.
abbrev pub Listening : State → Type 0
Listening Offline = Unit {0}
Listening (ListenToken None collisions) = Unit {0}
Listening (ListenToken (Some source) collisions) = ⊥
Listening (ActiveIdle request newPreviousStation collisions) = ⊥
Listening (UseToken cycled held) = ⊥
Listening (ClaimToken first) = ⊥
Listening (AwaitDataResponse address held) = ⊥
Listening (PassToken gap attempt) = ⊥
Listening (CheckTokenPass attempt) = ⊥
Listening (AwaitStatusResponse address) = ⊥
Listening (PassiveIdle request) = ⊥

-- Before each telegram of do_active_idle and do_check_token_pass the station is in ActiveIdle with no request noted, or in ListenToken
-- by a second collision of the same poll. (`debug_assert_state!` in handle_telegram.)
abbrev pub Handling : State → Type 0
Handling Offline = ⊥
Handling (ListenToken request collisions) = Unit {0}
Handling (ActiveIdle None newPreviousStation collisions) = Unit {0}
Handling (ActiveIdle (Some source) newPreviousStation collisions) = ⊥
Handling (UseToken cycled held) = ⊥
Handling (ClaimToken first) = ⊥
Handling (AwaitDataResponse address held) = ⊥
Handling (PassToken gap attempt) = ⊥
Handling (CheckTokenPass attempt) = ⊥
Handling (AwaitStatusResponse address) = ⊥
Handling (PassiveIdle request) = ⊥

-- 8. A pause or a slot asked with the activity unknown (`get_or_insert` in wait_synchronization_pause and check_slot_expired): the
-- dispatch of a sound station is given an unknown activity in two states alone: in ListenToken, where the lost-token test comes first
-- and sets it; and in PassiveIdle with no request noted, where no time is asked for.
abbrev pub MayNotKnow : State → Type 0
MayNotKnow x = (state_number x ≡ 1) ⊎ (x ≡ to_passive_idle)
