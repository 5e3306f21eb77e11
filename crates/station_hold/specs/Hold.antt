-- The token in hand, in the order of active.rs. `bytes` is the poll record, n the number of applications, count that of telegrams.
-- held (data), cycled (first_cycle_done) and address are the fields of the state, taken out by the dispatch.
use Rattle.std.specs.Prelude.{ℕ, zero, suc, ◌+◌, ◌-◌, Bool, true, false, cond, List, ltb, leb, eqb, Option, Some, None}
use Rattle.bit_times.specs.declared.micros.Micros.{Micros}
use Rattle.bit_times.specs.Times.{time_of}
use Rattle.settings.specs.declared.parameters.Parameters.{Parameters}
use Rattle.settings_rules.specs.Rules.{gap_allowance}
use Rattle.settings.specs.Settings.{rotation_time_of}
use Rattle.ring.specs.declared.GapState.{GapState}
use Rattle.ring.specs.declared.GapState.TheVariants.{Waiting, DoPoll}
use Rattle.codec_decisions.specs.declared.Decision.{Decision}
use Rattle.codec_decisions.specs.declared.Decision.TheVariants as decision
use Rattle.codec_telegrams.specs.declared.Telegram.{Telegram}
use Rattle.codec_telegrams.specs.declared.Telegram.TheVariants as telegram
use Rattle.codec_records.specs.Records.{decision_at, telegram_at}
use Rattle.codec_answers.specs.declared.Outcome.TheVariants as outcome
use Rattle.codec_answers.specs.declared.Sent.TheVariants as sent
use Rattle.codec_answers.specs.declared.Notice.{Notice}
use Rattle.codec_answers.specs.declared.Notice.TheVariants as notice
use Rattle.station.specs.declared.state.PassTokenAttempt.TheVariants.{First}
use Rattle.station.specs.declared.state.UseTokenData.{UseTokenData}
use Rattle.station.specs.declared.state.State.TheVariants.{UseToken, AwaitDataResponse, PassToken}
use Rattle.station.specs.declared.parts.Core.{Core}
use Rattle.station.specs.declared.done.Event.TheVariants as event
use Rattle.station.specs.Whole.{Step}
use Rattle.station.specs.Parts.{with_token_times, with_next_application, zero_time}
use Rattle.station.specs.Steps.{to_active_idle, pause_of, rx_of, slot_expired_of, done_of, transmit_of}

-- does a decision decline
unfoldable pub declines_on : Decision → Bool
declines_on decision.Decline = true
declines_on (decision.Send length) = false
declines_on (decision.SendExpectReply address length) = false

-- does an application decline
unfoldable pub declines_at : List ℕ → ℕ → ℕ → Bool → Bool
declines_at bytes n a high = declines_on (decision_at bytes n a high)

-- do_use_token: to PassToken, with the gap question and the first attempt; the pass itself is the next poll's
unfoldable pub use_pass_of : Core → Step
use_pass_of c = done_of (PassToken true First) c outcome.Delay

-- app_transmit_telegram: a telegram is sent, and a reply awaited where one is expected. Decline cannot be here: asked_of found
-- that this one sends; the case is filled
unfoldable pub app_transmit_of : Parameters → Core → Micros → UseTokenData → Decision → Bool → Step
app_transmit_of p c now held decision.Decline high = use_pass_of c
app_transmit_of p c now held (decision.Send length) high =
    transmit_of p (UseToken true held) c now (sent.Application 0 c.next_application high length)
app_transmit_of p c now held (decision.SendExpectReply address length) high =
    transmit_of p (AwaitDataResponse address held) c now (sent.Application address c.next_application high length)

-- schedule_next_application: first_app.get_or_insert(next_application)
unfoldable pub first_or : Option ℕ → ℕ → ℕ
first_or None a = a
first_or (Some first) a = first

-- schedule_next_application: for a < n this is (a + 1) % n
unfoldable pub turn_of : ℕ → ℕ → ℕ
turn_of a n = cond (ltb (a + 1) n) (a + 1) 0

-- what asking the applications came to: the one that is asked next, the first that declined since the token came, and whether the
-- one that is asked next sends
pub record Asked : Type 0 where
  pub application : ℕ
  pub first_app : Option ℕ
  pub sends : Bool

-- apps_transmit_telegram: who is asked and who sends (the send itself is use_apps_after). Asking goes on for k turns at most; it
-- ends where one sends, or where the cycle is completed. The turn moves only where one declines, so the first to decline is the
-- one that was asked first
unfoldable pub asked_from : ℕ → List ℕ → ℕ → ℕ → Option ℕ → Bool → Asked
asked_from zero bytes n a first high = record { application = a; first_app = first; sends = false }
asked_from (suc k) bytes n a first high =
    let cycle = first_or first a in
    cond (declines_at bytes n a high)
    (cond (eqb (turn_of a n) cycle)
    (record { application = turn_of a n; first_app = Some cycle; sends = false })
    (asked_from k bytes n (turn_of a n) (Some cycle) high))
    (record { application = a; first_app = first; sends = true })

-- apps_transmit_telegram: as many turns as there are applications
unfoldable pub asked_of : List ℕ → ℕ → ℕ → Option ℕ → Bool → Asked
asked_of bytes n a first high = asked_from n bytes n a first high

-- apps_transmit_telegram: what the one that is asked next decided, where it sends
unfoldable pub asked_decision : List ℕ → ℕ → Bool → Asked → Option Decision
asked_decision bytes n high asked = cond asked.sends (Some (decision_at bytes n asked.application high)) None

-- do_use_token: the time of a gap poll, slot bits + 100, is taken off while the gap is polled
unfoldable pub hold_less : Parameters → GapState → Micros
hold_less p (Waiting count) = zero_time
hold_less p (DoPoll address) = time_of (record { 0 = p.slot_bits + gap_allowance }) p.baudrate

-- the largest number of 64 bits
abbrev pub largest : ℕ
largest = 18446744073709551615

-- what 64 bits hold of a time: no clock, of 48 bits, comes near the largest
unfoldable pub capped : ℕ → ℕ
capped n = cond (leb n largest) n largest

-- do_use_token: from + span − less. Where the Rust's end lies below zero this is 0: a clock is never below 0, so now < end is as false
unfoldable pub end_of : Micros → Micros → Micros → Micros
end_of from span less = record { 0 = capped (from.0 + span.0 - less.0) }

-- do_use_token: a new token time sets the end of hold to the last token time + rotation time, less the gap poll's
-- (a token time equal to the last one does not renew it)
unfoldable pub hold_end_of : Parameters → Core → Micros → Core
hold_end_of p c token =
    cond (eqb c.last_token_time.0 token.0) c
    (with_token_times c token (end_of c.last_token_time (rotation_time_of p) (hold_less p c.gap_state)))

-- do_use_token: now < end_token_hold_time
unfoldable pub holds_of : Micros → Micros → Bool
holds_of now end = ltb now.0 end.0

-- do_use_token with apps_transmit_telegram: once the applications were asked, one sends or the state is PassToken
unfoldable pub use_apps_after : Parameters → Core → Micros → UseTokenData → List ℕ → ℕ → Bool → Asked → Step
use_apps_after p c now held bytes n high asked =
    let kept : UseTokenData = record { token_time = held.token_time; first_app = asked.first_app } in
    let turned = with_next_application c asked.application in
    cond asked.sends (app_transmit_of p turned now kept (decision_at bytes n asked.application high) high) (use_pass_of turned)

-- do_use_token: one cycle of the applications
unfoldable pub use_apps_of : Parameters → Core → Micros → UseTokenData → List ℕ → ℕ → Bool → Step
use_apps_of p c now held bytes n high =
    use_apps_after p c now held bytes n high (asked_of bytes n c.next_application held.first_app high)

-- do_use_token, once the end of hold is known: within the hold time normal; after it one high-priority cycle, only if no cycle was
-- begun with this token
unfoldable pub use_token_timed : Parameters → Core → Micros → UseTokenData → Bool → List ℕ → ℕ → Step
use_token_timed p c now held cycled bytes n =
    let pause = pause_of p c now in
    cond pause.over
    (cond (holds_of now pause.core.end_token_hold_time) (use_apps_of p pause.core now held bytes n false)
    (cond cycled (use_pass_of pause.core) (use_apps_of p pause.core now held bytes n true)))
    (done_of (UseToken cycled held) pause.core outcome.Delay)

-- do_use_token: the end of hold is set before the pause is asked for
unfoldable pub use_token_of : Parameters → Core → Micros → UseTokenData → Bool → List ℕ → ℕ → Step
use_token_of p c now held cycled bytes n = use_token_timed p (hold_end_of p c held.token_time) now held cycled bytes n

-- do_await_data_response: a short confirmation, or a response to us from the awaited station
unfoldable pub valid_response : Telegram → ℕ → ℕ → Bool
valid_response (telegram.Token destination source) address own = false
valid_response telegram.ShortConfirmation address own = true
valid_response (telegram.Request destination source asks) address own = false
valid_response (telegram.Response destination source state status) address own =
    cond (eqb source address) (eqb destination own) false

-- do_await_data_response: a reply is told to the application that sent; anything else leads to ActiveIdle, and nobody is told
unfoldable pub received_of : Parameters → Core → Micros → ℕ → UseTokenData → Telegram → Step
received_of p c now address held t =
    cond (valid_response t address p.address)
    (record { state = UseToken true held; core = rx_of c now; sent = sent.Nothing; notice = notice.Reply c.next_application address; outcome = outcome.Delay; consumed = 1; event = event.Nothing })
    (record { state = to_active_idle; core = rx_of c now; sent = sent.Nothing; notice = notice.NoNotice; outcome = outcome.Bus; consumed = 1; event = event.Nothing })

-- a step with a notice
unfoldable pub with_notice : Step → Notice → Step
with_notice s x = record { state = s.state; core = s.core; sent = s.sent; notice = x; outcome = s.outcome; consumed = s.consumed; event = s.event }

-- do_await_data_response: the timeout is told to the application that sent, and the token is used at once
unfoldable pub timeout_of : Parameters → Core → Micros → ℕ → UseTokenData → List ℕ → ℕ → Step
timeout_of p c now address held bytes n =
    with_notice (use_token_of p c now held true bytes n) (notice.Timeout c.next_application address)

-- do_await_data_response: only the first telegram is looked at; with none the slot is asked
unfoldable pub await_data_of : Parameters → Core → Micros → ℕ → UseTokenData → List ℕ → ℕ → ℕ → Step
await_data_of p c now address held bytes n count =
    cond (ltb 0 count) (received_of p c now address held (telegram_at bytes n 0))
    (let slot = slot_expired_of p c now in
    cond slot.over (timeout_of p slot.core now address held bytes n) (done_of (AwaitDataResponse address held) slot.core outcome.Bus))
