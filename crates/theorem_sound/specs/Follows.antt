-- Where a poll can leave a station, state by state, as a table; and the attempt at which a token pass stands between two polls. The
-- theorems are in proofs/Sound.antt. Both are said of settings whose slot is not shorter than the pause, as that of accepted settings is.
use Rattle.std.specs.Prelude.{ℕ, ◌+◌, ◌*◌, ◌≤◌, Bool, true, false, cond, ◌≡◌, refl, List, [], ◌∷◌, eqb, get_or}
use Rattle.std.proofs.Common.{arith, mul-le-mul, leb-true, leb-false}
use Rattle.bit_times.specs.declared.micros.Micros.{Micros}
use Rattle.bit_times.specs.Times.{pause_bits, time_of}
use Rattle.settings.specs.declared.parameters.Parameters.{Parameters}
use Rattle.settings.specs.Settings.{slot_time_of, token_lost_of}
use Rattle.station.specs.declared.state.PassTokenAttempt.TheVariants.{First}
use Rattle.station.specs.declared.state.State.{State}
use Rattle.station.specs.declared.state.State.TheVariants.{Offline, ListenToken, ActiveIdle, UseToken, ClaimToken, AwaitDataResponse, PassToken, CheckTokenPass, AwaitStatusResponse, PassiveIdle}
use Rattle.station.specs.declared.parts.Core.{Core}
use Rattle.station.specs.Parts.{with_activity, state_number}
use Rattle.station.specs.Steps.{known_at, elapsed_of, waited_of, pause_of, slot_expired_of, token_lost_wait_of}
use Rattle.theorem_sound.specs.Moves.{lists, listen_token_from, active_idle_from, use_token_from, claim_token_from, await_data_response_from, pass_token_from, check_token_pass_from, await_status_response_from, passive_idle_from}
use Rattle.bit_times.proofs.Laws.{time_grows}

-- For each state, the numbers of the states in which a poll can leave it.
-- Offline: an online station goes to ListenToken and on from there, but has no request to answer yet. ListenToken: a second collision,
-- an answer while ready, a lost token. ActiveIdle: a second collision, a token accepted, a lost token. UseToken: a reply awaited, or
-- PassToken. ClaimToken: the second token. AwaitDataResponse: something else heard, a reply, or the timeout, after which the
-- applications are asked at once. PassToken: the token back, the pass checked, a gap question. CheckTokenPass: as ActiveIdle does, or
-- the token sent again. AwaitStatusResponse: something else heard, an answer, or the token passed on at once. PassiveIdle: it stays, or,
-- put online, does as Offline does. A passive station goes from Offline, ListenToken and ActiveIdle to PassiveIdle.
abbrev pub reached : State → List ℕ
reached Offline = 0 ∷ 1 ∷ 4 ∷ 9 ∷ []
reached (ListenToken request collisions) = 0 ∷ 1 ∷ 2 ∷ 4 ∷ 9 ∷ []
reached (ActiveIdle request newPreviousStation collisions) = 1 ∷ 2 ∷ 3 ∷ 4 ∷ 9 ∷ []
reached (UseToken cycled held) = 3 ∷ 5 ∷ 6 ∷ []
reached (ClaimToken first) = 3 ∷ 4 ∷ []
reached (AwaitDataResponse address held) = 2 ∷ 3 ∷ 5 ∷ 6 ∷ []
reached (PassToken gap attempt) = 3 ∷ 6 ∷ 7 ∷ 8 ∷ []
reached (CheckTokenPass attempt) = 1 ∷ 2 ∷ 3 ∷ 7 ∷ []
reached (AwaitStatusResponse address) = 2 ∷ 3 ∷ 6 ∷ 7 ∷ 8 ∷ []
reached (PassiveIdle request) = 0 ∷ 1 ∷ 4 ∷ 9 ∷ []

-- A token pass stands at its first attempt: the second and the third are sent in the poll that finds them due. And of a claim the
-- first token is sent: in the poll that finds the token lost.
abbrev pub FirstAttempt : State → Type 0
FirstAttempt Offline = Unit {0}
FirstAttempt (ListenToken request collisions) = Unit {0}
FirstAttempt (ActiveIdle request newPreviousStation collisions) = Unit {0}
FirstAttempt (UseToken cycled held) = Unit {0}
FirstAttempt (ClaimToken first) = first ≡ false
FirstAttempt (AwaitDataResponse address held) = Unit {0}
FirstAttempt (PassToken gap attempt) = attempt ≡ First
FirstAttempt (CheckTokenPass attempt) = Unit {0}
FirstAttempt (AwaitStatusResponse address) = Unit {0}
FirstAttempt (PassiveIdle request) = Unit {0}

-- the slot is not shorter than the pause
abbrev pub SlotCoversPause : Parameters → Type 0
SlotCoversPause p = (time_of (record { 0 = pause_bits }) p.baudrate).0 ≤ (slot_time_of p).0

-- so it is where the slot has at least 33 bits; accepted settings have at least 100
pub slot_covers_pause : (p : Parameters) → 33 ≤ p.slot_bits → SlotCoversPause p
unfolding slot_time_of
slot_covers_pause p l = time_grows _ p.slot_bits p.baudrate (omega arith)

-- a poll of a station in the state x leaves it in the state y
pub record Follows (p : Parameters) (x y : State) : Type 0 where
  pub in_table : SlotCoversPause p → lists (reached x) (state_number y) ≡ true
  pub at_first : SlotCoversPause p → FirstAttempt y

-- where the slot has expired the pause is over
pub covered : (p : Parameters) (c : Core) (now : Micros) → SlotCoversPause p → (slot_expired_of p c now).over ≡ true → (pause_of p c now).over ≡ false → ⊥
unfolding slot_expired_of pause_of waited_of elapsed_of
covered p c now s e f =
    let last = (known_at c.last_bus_activity now).0 in
    omega (arith, leb-true (last + (slot_time_of p).0) now.0 e, leb-false (last + (time_of (record { 0 = pause_bits }) p.baudrate).0) now.0 f)

-- the lost-token timeout is not shorter than a slot
pub slot_lost : (p : Parameters) → (slot_time_of p).0 ≤ (token_lost_of p).0
unfolding slot_time_of token_lost_of
slot_lost p =
    let slot = p.slot_bits in
    let times : slot * 1 ≤ slot * (6 + 2 * p.address) = mul-le-mul (omega arith) (omega arith) in
    time_grows slot _ p.baudrate (omega arith)

-- where the token is lost the pause is over
pub lost_covered : (p : Parameters) (c : Core) (now : Micros) → SlotCoversPause p → (token_lost_wait_of p c now).over ≡ true → (pause_of p (token_lost_wait_of p c now).core now).over ≡ false → ⊥
unfolding token_lost_wait_of pause_of waited_of elapsed_of with_activity known_at
lost_covered p c now s e f =
    let last = (known_at c.last_bus_activity now).0 in
    omega (arith, slot_lost p, leb-true (last + (token_lost_of p).0) now.0 e, leb-false (last + (time_of (record { 0 = pause_bits }) p.baudrate).0) now.0 f)

-- The table and the assertions: each state that the table has is joined to the one before by at most two transitions, each from a state
-- that its `debug_assert_state!` names, or is Offline by set_offline. By the numbers of the states: the ones a transition may start from.
abbrev pub starts_of : List (List ℕ)
starts_of =
    (0 ∷ 1 ∷ []) ∷ listen_token_from ∷ active_idle_from ∷ use_token_from ∷ claim_token_from ∷ await_data_response_from ∷ pass_token_from ∷ check_token_pass_from ∷ await_status_response_from ∷ passive_idle_from ∷ []

-- one transition from the state with number x to that with number y
abbrev pub one_step : ℕ → ℕ → Bool
one_step x y = lists (get_or starts_of y []) x

-- some number of a list passes a test, and all do
abbrev pub some_of : List ℕ → (ℕ → Bool) → Bool
some_of [] f = false
some_of (a ∷ more) f = cond (f a) true (some_of more f)

abbrev pub all_of : List ℕ → (ℕ → Bool) → Bool
all_of [] f = true
all_of (a ∷ more) f = cond (f a) (all_of more f) false

-- none, one or two transitions
abbrev pub joined : ℕ → ℕ → Bool
joined x y = cond (eqb x y) true (cond (one_step x y) true (some_of (get_or starts_of y []) (λ z. one_step x z)))

pub table_is_joined : (x : State) → all_of (reached x) (joined (state_number x)) ≡ true
table_is_joined Offline = refl
table_is_joined (ListenToken q k) = refl
table_is_joined (ActiveIdle q m k) = refl
table_is_joined (UseToken k d) = refl
table_is_joined (ClaimToken f) = refl
table_is_joined (AwaitDataResponse a d) = refl
table_is_joined (PassToken g k) = refl
table_is_joined (CheckTokenPass k) = refl
table_is_joined (AwaitStatusResponse a) = refl
table_is_joined (PassiveIdle q) = refl
