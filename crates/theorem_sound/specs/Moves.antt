-- What calls do to a station's state and core, move by move, and from which states the published text lets each transition start.
--
-- A move is one of the places where active.rs writes to the station. It goes from a state and the core beside it to a state and its
-- core. Its transitions carry the assertion of the Rust (`debug_assert_state!`) as a premise. That a call's moves (`Moves`) lead from the
-- state and core before it to those after it says that transitions lead there, each from a state that its assertion allows; and what each move keeps, each call keeps. The proof takes the
-- transitions where the definitions make them, one by one; the statement alone says that such moves exist. Which states a poll joins
-- is said by the table in Follows.antt.
use Rattle.std.specs.Prelude.{ℕ, ◌+◌, ◌^◌, ◌≤◌, ◌<◌, Bool, true, false, cond, ◌≡◌, ◌⊎◌, List, [], ◌∷◌, eqb, Option, Some, None}
use Rattle.bit_times.specs.Times.{clock_end}
use Rattle.bit_times.specs.declared.micros.Micros.{Micros}
use Rattle.settings.specs.declared.parameters.Parameters.{Parameters}
use Rattle.ring.specs.declared.GapState.{GapState}
use Rattle.ring.specs.declared.GapState.TheVariants.{Waiting, DoPoll}
use Rattle.station.specs.declared.state.PassTokenAttempt.{PassTokenAttempt}
use Rattle.station.specs.declared.state.UseTokenData.{UseTokenData}
use Rattle.station.specs.declared.state.ConnectivityState.{ConnectivityState}
use Rattle.station.specs.declared.state.ConnectivityState.TheVariants as connectivity
use Rattle.station.specs.declared.state.State.{State}
use Rattle.station.specs.declared.state.State.TheVariants.{Offline, ListenToken, ActiveIdle, UseToken, ClaimToken, AwaitDataResponse, PassToken, CheckTokenPass, AwaitStatusResponse, PassiveIdle}
use Rattle.station.specs.declared.parts.Core.{Core}
use Rattle.station.specs.Parts.{with_activity, with_pending, with_gap, with_next_application, with_connectivity, fresh_core, state_number}
use Rattle.station.specs.Steps.{to_listen_token, to_passive_idle, to_active_idle, known_at, marked_at, sent_at}
use Rattle.station_hold.specs.Hold.{hold_end_of}

-- a list has a number
abbrev pub lists : List ℕ → ℕ → Bool
lists [] k = false
lists (a ∷ more) k = cond (eqb a k) true (lists more k)

-- The states that each transition of active.rs may start from, by its `debug_assert_state!`, in the Rust's order and by the numbers of
-- documents 01 and 02: 0 Offline, 1 ListenToken, 2 ActiveIdle, 3 UseToken, 4 ClaimToken, 5 AwaitDataResponse, 6 PassToken,
-- 7 CheckTokenPass, 8 AwaitStatusResponse, 9 PassiveIdle. Two of the lists have more than the Rust's, by document 02: ListenToken may be
-- entered from PassiveIdle (9, the last of its list), and PassiveIdle from ListenToken and ActiveIdle (1 and 2, the last of its list).
abbrev pub passive_idle_from : List ℕ
passive_idle_from = 0 ∷ 9 ∷ 1 ∷ 2 ∷ []

abbrev pub listen_token_from : List ℕ
listen_token_from = 1 ∷ 0 ∷ 2 ∷ 9 ∷ []

abbrev pub active_idle_from : List ℕ
active_idle_from = 2 ∷ 1 ∷ 3 ∷ 5 ∷ 7 ∷ 8 ∷ []

abbrev pub use_token_from : List ℕ
use_token_from = 3 ∷ 4 ∷ 6 ∷ 5 ∷ 2 ∷ []

abbrev pub claim_token_from : List ℕ
claim_token_from = 4 ∷ 1 ∷ 2 ∷ []

abbrev pub await_data_response_from : List ℕ
await_data_response_from = 5 ∷ 3 ∷ []

abbrev pub pass_token_from : List ℕ
pass_token_from = 6 ∷ 3 ∷ 4 ∷ 7 ∷ 8 ∷ []

abbrev pub check_token_pass_from : List ℕ
check_token_pass_from = 7 ∷ 6 ∷ []

abbrev pub await_status_response_from : List ℕ
await_status_response_from = 8 ∷ 6 ∷ []

-- a state is one of these: the assertion of a transition that starts there
abbrev pub In : List ℕ → State → Type 0
In states x = lists states (state_number x) ≡ true

-- the last bus activity is known
abbrev pub Known : Option Micros → Type 0
Known None = ⊥
Known (Some last) = Unit {0}

-- once a request is noted the activity is known
abbrev pub KnownWith : Option ℕ → Option Micros → Type 0
KnownWith None a = Unit {0}
KnownWith (Some source) a = Known a

-- no address, or one below 128
abbrev pub Low : Option ℕ → Type 0
Low None = Unit {0}
Low (Some a) = a < 128

-- no address, or another station's: below 128, and not our own
abbrev pub Other : ℕ → Option ℕ → Type 0
Other own None = Unit {0}
Other own (Some a) = (a < 128) × (a ≡ own → ⊥)

-- no application, or one of n
abbrev pub OneOf : ℕ → Option ℕ → Type 0
OneOf n None = Unit {0}
OneOf n (Some a) = a < n

-- A time that a clock can show: 48 bits.
abbrev pub Clock : Micros → Type 0
Clock t = t.0 < clock_end

-- with a new token no application was asked yet: it has no first one
abbrev pub Unasked : UseTokenData → Type 0
Unasked held = held.first_app ≡ None

-- a token's data: its time is a clock's, its first application one of n
pub record HeldFits (n : ℕ) (held : UseTokenData) : Type 0 where
  pub token_time : Clock held.token_time
  pub first_one : OneOf n held.first_app

-- an address that is asked in the gap: that of a station, below 126, which is not our own, and below the settings' highest station
-- address, or 0
pub record GapAsked (p : Parameters) (a : ℕ) : Type 0 where
  pub low : a < 126
  pub not_own : a ≡ p.address → ⊥
  pub below : (a < p.highest_station_address) ⊎ (a ≡ 0)

-- The address that the gap state polls is one that is asked in the gap.
abbrev pub GapAddressed : Parameters → GapState → Type 0
GapAddressed p (Waiting count) = Unit {0}
GapAddressed p (DoPoll a) = GapAsked p a

-- The count of a gap state that waits is at most one above the settings' gap wait.
abbrev pub GapCounted : Parameters → GapState → Type 0
GapCounted p (Waiting count) = count ≤ p.gap_wait_rotations + 1
GapCounted p (DoPoll a) = Unit {0}

-- The moves, with settings p, n applications and the clock now: each place of active.rs that writes to the station. The first ones
-- leave the state, and most of the others leave the core.
pub data Move (p : Parameters) (n : ℕ) (now : Micros) : State → Core → State → Core → Type 0 where
  -- last_bus_activity.get_or_insert(now): before a pause, a slot and a lost token are looked at
  waits : {x : State} {c : Core} → Move p n now x c x (with_activity c (Some (known_at c.last_bus_activity now)))
  -- mark_bus_activity
  marks : {x : State} {c : Core} → Move p n now x c x (with_activity c (marked_at c.last_bus_activity now))
  -- mark_tx: a telegram of at most 255 bytes
  sends : {x : State} {c : Core} (bytes : ℕ) → bytes ≤ 255 → Move p n now x c x (with_activity c (sent_at p now bytes))
  -- check_for_bus_activity, mark_rx: the pending bytes, a record's field of 11 bits; in Offline none
  pends : {x : State} {c : Core} (pending : ℕ) → pending < 2 ^ 11 → (x ≡ Offline → pending ≡ 0) → Move p n now x c x (with_pending c pending)
  -- do_use_token: the end of hold and the last token time, by the token in hand
  holds : {c : Core} (held : UseTokenData) (cycled : Bool) → HeldFits n held → Move p n now (UseToken cycled held) c (UseToken cycled held) (hold_end_of p c held.token_time)
  -- schedule_next_application
  turns : {c : Core} (held : UseTokenData) (cycled : Bool) (a : ℕ) → a < n → Move p n now (UseToken cycled held) c (UseToken cycled held) (with_next_application c a)
  -- do_pass_token: the gap's turn
  gaps : {c : Core} (gap : Bool) (attempt : PassTokenAttempt) (g : GapState) → GapAddressed p g → GapCounted p g → Move p n now (PassToken gap attempt) c (PassToken gap attempt) (with_gap c g)
  -- get_listen_token_status_request, get_listen_token_collision_count: a field of ListenToken
  listens : {c : Core} (q q' : Option ℕ) (k k' : ℕ) → Other p.address q' → k' ≤ 1 → Move p n now (ListenToken q k) c (ListenToken q' k') c
  -- the field of PassiveIdle: the activity is known where a request is noted
  passives : {c : Core} (q q' : Option ℕ) → Other p.address q' → KnownWith q' c.last_bus_activity → Move p n now (PassiveIdle q) c (PassiveIdle q') c
  -- get_active_idle_status_request, get_active_idle_new_previous_station, get_active_idle_collision_count: a field of ActiveIdle
  idles : {c : Core} (q q' m m' : Option ℕ) (k k' : ℕ) → Low q' → Other p.address m' → k' ≤ 1 → Move p n now (ActiveIdle q m k) c (ActiveIdle q' m' k') c
  -- get_use_token_data, get_use_token_first_cycle_done: the first cycle is done, by the token whose time is the last token time
  cycles : {c : Core} (held kept : UseTokenData) (cycled : Bool) → HeldFits n kept → kept.token_time.0 ≡ c.last_token_time.0 → Move p n now (UseToken cycled held) c (UseToken true kept) c
  -- get_claim_token_first: the second token is to be sent
  claims : {c : Core} → Move p n now (ClaimToken true) c (ClaimToken false) c
  -- transition_passive_idle, of a station that is passive
  passive_idle : {x : State} {c : Core} → In passive_idle_from x → c.connectivity_state ≡ connectivity.Passive → Move p n now x c to_passive_idle c
  -- transition_listen_token, of a station that is not offline
  listen_token : {x : State} {c : Core} → In listen_token_from x → (c.connectivity_state ≡ connectivity.Offline → ⊥) → Move p n now x c to_listen_token c
  -- transition_active_idle: from ListenToken too, where the activity is known by then
  active_idle : {x : State} {c : Core} → In active_idle_from x → Known c.last_bus_activity → Move p n now x c to_active_idle c
  -- transition_use_token, with a new token
  use_token : {x : State} {c : Core} (held : UseTokenData) → In use_token_from x → HeldFits n held → Unasked held → Move p n now x c (UseToken false held) c
  -- transition_use_token, with the token that was kept, and first_cycle_done: after a reply or a timeout
  use_token_again : {c : Core} (a : ℕ) (held : UseTokenData) → HeldFits n held → held.token_time.0 ≡ c.last_token_time.0 → Move p n now (AwaitDataResponse a held) c (UseToken true held) c
  -- transition_claim_token: from ListenToken too, where the activity is known by then
  claim_token : {x : State} {c : Core} → In claim_token_from x → Known c.last_bus_activity → Move p n now x c (ClaimToken true) c
  -- transition_await_data_response: with the token whose time is the last token time
  await_data_response : {x : State} {c : Core} (a : ℕ) (held : UseTokenData) → In await_data_response_from x → a < 128 → HeldFits n held → held.token_time.0 ≡ c.last_token_time.0 → Move p n now x c (AwaitDataResponse a held) c
  -- transition_pass_token
  pass_token : {x : State} {c : Core} (gap : Bool) (attempt : PassTokenAttempt) → In pass_token_from x → Move p n now x c (PassToken gap attempt) c
  -- transition_check_token_pass
  check_token_pass : {x : State} {c : Core} (attempt : PassTokenAttempt) → In check_token_pass_from x → Move p n now x c (CheckTokenPass attempt) c
  -- transition_await_status_response: of the address that the gap state polls
  await_status_response : {x : State} {c : Core} (a : ℕ) → In await_status_response_from x → c.gap_state ≡ DoPoll a → Move p n now x c (AwaitStatusResponse a) c
  -- set_offline: by command, or by a second collision
  goes_offline : {x : State} {c : Core} → Move p n now x c Offline fresh_core
  -- set_online, set_passive
  connects : {x : State} {c : Core} (v : ConnectivityState) → (v ≡ connectivity.Offline → ⊥) → Move p n now x c x (with_connectivity c v)

-- a list of moves, from a state and its core to a state and its core
pub data Moves (p : Parameters) (n : ℕ) (now : Micros) : State → Core → State → Core → Type 0 where
  none : {x : State} {c : Core} → Moves p n now x c x c
  then : {x y z : State} {c d e : Core} → Moves p n now x c y d → Move p n now y d z e → Moves p n now x c z e

-- what each move keeps, a list of moves keeps
pub keeps : {p : Parameters} {n : ℕ} {now : Micros} {x y : State} {c d : Core} (P : State → Core → Type 0) → ((x y : State) (c d : Core) → Move p n now x c y d → P x c → P y d) → Moves p n now x c y d → P x c → P y d
keeps P step none b = b
keeps P step (then more m) b = step _ _ _ _ m (keeps P step more b)
