-- What is counted (document 02, P6), as what happens in a run by demand 2's definitions of a step: by the state before and after an entry,
-- by who is no longer in the ring, and telegram by telegram. No count is looked at here, nor what a step says of itself (`event`, `met`).
use Rattle.std.specs.Prelude.{ℕ, zero, suc, ◌+◌, Bool, true, false, cond, List, [], ◌∷◌, ltb, eqb}
use Rattle.bit_times.specs.declared.micros.Micros.{Micros}
use Rattle.settings.specs.declared.parameters.Parameters.{Parameters}
use Rattle.ring.specs.Ring.{Ring, has, others}
use Rattle.codec_telegrams.specs.declared.Telegram.{Telegram}
use Rattle.codec_telegrams.specs.declared.Telegram.TheVariants as telegram
use Rattle.codec_records.specs.Records.{head_of, telegram_at}
use Rattle.codec_answers.specs.declared.Outcome.TheVariants as outcome
use Rattle.station.specs.declared.state.PassTokenAttempt.TheVariants.{First, Second, Third}
use Rattle.station.specs.declared.state.State.{State}
use Rattle.station.specs.declared.state.State.TheVariants.{Offline, ListenToken, ActiveIdle, UseToken, ClaimToken, AwaitDataResponse, PassToken, CheckTokenPass, AwaitStatusResponse, PassiveIdle}
use Rattle.station.specs.declared.parts.Core.{Core}
use Rattle.station.specs.declared.station.Station.{Station}
use Rattle.station.specs.Whole.{Heard}
use Rattle.station.specs.Parts.{state_number}
use Rattle.station.specs.Steps.{to_active_idle, bus_activity_of, slot_expired_of, token_lost_wait_of, heard_of}
use Rattle.station_listen.specs.Listen.{heard_all}
use Rattle.station_poll.specs.Poll.{entered_of}
use Rattle.station_answer.specs.Answer.{Polled}
use Rattle.trace.specs.Entries.{entry_of}
use Rattle.theorem_every_trace.specs.Statement.{Entry}

-- Claims: an entry to ClaimToken, state 4, from any other state. The poll that sends the second token begins there, and is none.
abbrev claim_state : ℕ
claim_state = 4

unfoldable pub enters_claim : State → State → ℕ
enters_claim before after = cond (eqb (state_number before) claim_state) 0 (cond (eqb (state_number after) claim_state) 1 0)

abbrev pub claims_at : Station → Entry → ℕ
claims_at s e = enters_claim s.state (entry_of s e.kind e.bytes).station.state

-- Removals: a poll that finds the token's third attempt pending and consumes no telegram, so that nobody's pass is witnessed in it; and how
-- many of the other members before it are no members after it.
unfoldable pub in_third : State → Bool
in_third Offline = false
in_third (ListenToken request collisions) = false
in_third (ActiveIdle request newPreviousStation collisions) = false
in_third (UseToken cycled held) = false
in_third (ClaimToken first) = false
in_third (AwaitDataResponse address held) = false
in_third (PassToken gap attempt) = false
in_third (CheckTokenPass First) = false
in_third (CheckTokenPass Second) = false
in_third (CheckTokenPass Third) = true
in_third (AwaitStatusResponse address) = false
in_third (PassiveIdle request) = false

-- how many of these are not in a ring
unfoldable pub missing : Ring → List ℕ → ℕ
missing ring [] = 0
missing ring (a ∷ more) = cond (has ring a) (missing ring more) (suc (missing ring more))

unfoldable pub removes : State → Ring → Ring → ℕ → ℕ
removes before ring after consumed = cond (in_third before) (cond (eqb consumed 0) (missing after (others ring)) 0) 0

-- a poll's
abbrev pub removals_in : Station → Polled → ℕ
removals_in s done = removes s.state s.token_ring done.station.token_ring done.answer.consumed

abbrev pub removals_at : Station → Entry → ℕ
removals_at s e = cond (ltb e.kind 3) 0 (removals_in s (entry_of s e.kind e.bytes))

-- Meetings of our own address: in ListenToken any telegram that has it as source, in ActiveIdle a token alone. Each is looked at in the
-- state that the telegrams before it have led to; the second one leads elsewhere, so those behind it are none.
unfoldable pub is_from : ℕ → Telegram → Bool
is_from own (telegram.Token destination source) = eqb source own
is_from own telegram.ShortConfirmation = false
is_from own (telegram.Request destination source asks) = eqb source own
is_from own (telegram.Response destination source state status) = eqb source own

unfoldable pub is_token_from : ℕ → Telegram → Bool
is_token_from own (telegram.Token destination source) = eqb source own
is_token_from own telegram.ShortConfirmation = false
is_token_from own (telegram.Request destination source asks) = false
is_token_from own (telegram.Response destination source state status) = false

-- heard while listening, in this state
unfoldable pub meets_listening : ℕ → State → Telegram → ℕ
meets_listening own Offline t = 0
meets_listening own (ListenToken request collisions) t = cond (is_from own t) 1 0
meets_listening own (ActiveIdle request newPreviousStation collisions) t = 0
meets_listening own (UseToken cycled held) t = 0
meets_listening own (ClaimToken first) t = 0
meets_listening own (AwaitDataResponse address held) t = 0
meets_listening own (PassToken gap attempt) t = 0
meets_listening own (CheckTokenPass attempt) t = 0
meets_listening own (AwaitStatusResponse address) t = 0
meets_listening own (PassiveIdle request) t = 0

-- heard in ActiveIdle, in this state
unfoldable pub meets_idle : ℕ → State → Telegram → ℕ
meets_idle own Offline t = 0
meets_idle own (ListenToken request collisions) t = 0
meets_idle own (ActiveIdle request newPreviousStation collisions) t = cond (is_token_from own t) 1 0
meets_idle own (UseToken cycled held) t = 0
meets_idle own (ClaimToken first) t = 0
meets_idle own (AwaitDataResponse address held) t = 0
meets_idle own (PassToken gap attempt) t = 0
meets_idle own (CheckTokenPass attempt) t = 0
meets_idle own (AwaitStatusResponse address) t = 0
meets_idle own (PassiveIdle request) t = 0

-- how many of the first i telegrams are such
unfoldable pub met_along : Parameters → Heard → Micros → Bool → List ℕ → ℕ → ℕ → ℕ → ℕ
met_along p h now listening bytes n count zero = 0
met_along p h now listening bytes n count (suc i) =
    let state = (heard_all p h now listening bytes n count i).state in
    let t = telegram_at bytes n i in
    met_along p h now listening bytes n count i + cond listening (meets_listening p.address state t) (meets_idle p.address state t)

-- of a poll that finds this state, by which of the two hears its telegrams: ListenToken and PassiveIdle listen; ActiveIdle, and CheckTokenPass from
-- ActiveIdle on, do not
unfoldable pub met_from : Parameters → State → Core → Ring → Micros → List ℕ → ℕ → ℕ → ℕ
met_from p Offline c ring now bytes n count = 0
met_from p (ListenToken request collisions) c ring now bytes n count =
    met_along p (heard_of (ListenToken request collisions) (token_lost_wait_of p c now).core ring outcome.Bus) now true bytes n count count
met_from p (ActiveIdle request newPreviousStation collisions) c ring now bytes n count =
    met_along p (heard_of (ActiveIdle request newPreviousStation collisions) (token_lost_wait_of p c now).core ring outcome.Bus) now false bytes n count count
met_from p (UseToken cycled held) c ring now bytes n count = 0
met_from p (ClaimToken first) c ring now bytes n count = 0
met_from p (AwaitDataResponse address held) c ring now bytes n count = 0
met_from p (PassToken gap attempt) c ring now bytes n count = 0
met_from p (CheckTokenPass attempt) c ring now bytes n count =
    met_along p (heard_of to_active_idle (slot_expired_of p c now).core ring outcome.Bus) now false bytes n count count
met_from p (AwaitStatusResponse address) c ring now bytes n count = 0
met_from p (PassiveIdle request) c ring now bytes n count =
    met_along p (heard_of (PassiveIdle request) c ring outcome.Bus) now true bytes n count count

-- and consumes so many
unfoldable pub meets : Parameters → State → Core → Ring → Micros → List ℕ → ℕ → ℕ → ℕ → ℕ
meets p s c ring now bytes n count consumed = cond (eqb consumed 0) 0 (met_from p s c ring now bytes n count)

-- a poll's, by its record
abbrev pub meetings_in : Station → List ℕ → Polled → ℕ
meetings_in s bytes done =
    let head = head_of bytes in
    let now : Micros = record { 0 = head.clock } in
    meets s.p (entered_of s.core.connectivity_state s.state) (bus_activity_of s.core now head.pending) s.token_ring now bytes s.applications head.telegrams done.answer.consumed

abbrev pub meetings_at : Station → Entry → ℕ
meetings_at s e = cond (ltb e.kind 3) 0 (meetings_in s e.bytes (entry_of s e.kind e.bytes))

-- how often something happens in a run over entries
unfoldable pub times : (Station → Entry → ℕ) → Station → List Entry → ℕ
times at s [] = 0
times at s (e ∷ es) = at s e + times at (entry_of s e.kind e.bytes).station es
