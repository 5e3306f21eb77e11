-- A state as plain numbers, and these as two words (the live door: a station is bytes). Assumes nothing.
use Rattle.std.specs.Prelude.{ℕ, Bool, true, false, cond, List, [], ◌∷◌, eqb, Option, Some, None}
use Rattle.codec_fields.specs.Fields.{is_one, bit_number, put_all, reads}
use Rattle.station.specs.declared.state.PassTokenAttempt.{PassTokenAttempt}
use Rattle.station.specs.declared.state.PassTokenAttempt.TheVariants.{First, Second, Third}
use Rattle.station.specs.declared.state.UseTokenData.{UseTokenData}
use Rattle.station.specs.declared.state.State.{State}
use Rattle.station.specs.declared.state.State.TheVariants.{Offline, ListenToken, ActiveIdle, UseToken, ClaimToken, AwaitDataResponse, PassToken, CheckTokenPass, AwaitStatusResponse, PassiveIdle}
use Rattle.station_numbers.specs.declared.StateNumbers.{StateNumbers}

-- an address or an application by its number, 255 for none
abbrev pub number_or_none : Option ℕ → ℕ
number_or_none None = 255
number_or_none (Some a) = a

unfoldable pub none_or_number : ℕ → Option ℕ
none_or_number n = cond (eqb n 255) None (Some n)

-- an attempt by its number, counted from 0; the first where there is no such attempt
abbrev pub attempt_number : PassTokenAttempt → ℕ
attempt_number First = 0
attempt_number Second = 1
attempt_number Third = 2

unfoldable pub attempt_of : ℕ → PassTokenAttempt
attempt_of n = cond (eqb n 1) Second (cond (eqb n 2) Third First)

-- the numbers of a state without a token: document 01's number, its flag, who asked for the status, who may be the new previous
-- station, the collisions, the attempt, who is to answer
unfoldable pub plain_numbers : ℕ → Bool → ℕ → ℕ → ℕ → ℕ → ℕ → StateNumbers
plain_numbers kind flag request previous collisions attempt address =
    record { token_time = 0; kind = kind; flag = flag; request = request; previous = previous; collisions = collisions; attempt = attempt; address = address; first_app = 0 }

-- those of a state with a token in hand: its time and its first application
unfoldable pub held_numbers : ℕ → Bool → ℕ → UseTokenData → StateNumbers
held_numbers kind flag address held =
    record { token_time = held.token_time.0; kind = kind; flag = flag; request = 0; previous = 0; collisions = 0; attempt = 0; address = address; first_app = number_or_none held.first_app }

-- a state's numbers: what it does not hold is 0
unfoldable pub state_numbers : State → StateNumbers
state_numbers Offline = plain_numbers 0 false 0 0 0 0 0
state_numbers (ListenToken request collisions) = plain_numbers 1 false (number_or_none request) 0 collisions 0 0
state_numbers (ActiveIdle request newPreviousStation collisions) = plain_numbers 2 false (number_or_none request) (number_or_none newPreviousStation) collisions 0 0
state_numbers (UseToken cycled held) = held_numbers 3 cycled 0 held
state_numbers (ClaimToken first) = plain_numbers 4 first 0 0 0 0 0
state_numbers (AwaitDataResponse address held) = held_numbers 5 false address held
state_numbers (PassToken gap attempt) = plain_numbers 6 gap 0 0 0 (attempt_number attempt) 0
state_numbers (CheckTokenPass attempt) = plain_numbers 7 false 0 0 0 (attempt_number attempt) 0
state_numbers (AwaitStatusResponse address) = plain_numbers 8 false 0 0 0 0 address
state_numbers (PassiveIdle request) = plain_numbers 9 false (number_or_none request) 0 0 0 0

-- the token that numbers hold
unfoldable pub held_of : StateNumbers → UseTokenData
held_of f = record { token_time = record { 0 = f.token_time }; first_app = none_or_number f.first_app }

-- the state that numbers are; Offline where there is no state with such a number
unfoldable pub state_from : StateNumbers → State
state_from f =
    cond (eqb f.kind 1) (ListenToken (none_or_number f.request) f.collisions)
    (cond (eqb f.kind 2) (ActiveIdle (none_or_number f.request) (none_or_number f.previous) f.collisions)
    (cond (eqb f.kind 3) (UseToken f.flag (held_of f))
    (cond (eqb f.kind 4) (ClaimToken f.flag)
    (cond (eqb f.kind 5) (AwaitDataResponse f.address (held_of f))
    (cond (eqb f.kind 6) (PassToken f.flag (attempt_of f.attempt))
    (cond (eqb f.kind 7) (CheckTokenPass (attempt_of f.attempt))
    (cond (eqb f.kind 8) (AwaitStatusResponse f.address)
    (cond (eqb f.kind 9) (PassiveIdle (none_or_number f.request)) Offline))))))))

-- the state's word: number 7, flag 1, request 8, new previous station 8, collisions 8, attempt 8, address 8, first application 8, zero 8
abbrev pub state_widths : List ℕ
state_widths = 7 ∷ 1 ∷ 8 ∷ 8 ∷ 8 ∷ 8 ∷ 8 ∷ 8 ∷ 8 ∷ []

abbrev pub state_values : StateNumbers → List ℕ
state_values f = f.kind ∷ bit_number f.flag ∷ f.request ∷ f.previous ∷ f.collisions ∷ f.attempt ∷ f.address ∷ f.first_app ∷ 0 ∷ []

unfoldable pub state_word : StateNumbers → ℕ
state_word f = put_all 0 state_widths (state_values f)

-- the numbers that such a word says, with the token's time, which is a word of its own
unfoldable pub numbers_in : ℕ → ℕ → StateNumbers
numbers_in word time =
    reads state_widths
    (λ kind flag request previous collisions attempt address first_app spare.
    record { token_time = time; kind = kind; flag = is_one flag; request = request; previous = previous; collisions = collisions; attempt = attempt; address = address; first_app = first_app })
    word
