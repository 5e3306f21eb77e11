-- do_await_status_response. `bytes` is the poll record, n the number of applications, count that of telegrams.
use Rattle.std.specs.Prelude.{ℕ, false, cond, List, ltb, eqb}
use Rattle.bit_times.specs.declared.micros.Micros.{Micros}
use Rattle.settings.specs.declared.parameters.Parameters.{Parameters}
use Rattle.ring.specs.Ring.{Ring, add_of}
use Rattle.codec_telegrams.specs.declared.ResponseState.{ResponseState}
use Rattle.codec_telegrams.specs.declared.ResponseState.TheVariants.{Slave, MasterNotReady, MasterWithoutToken, MasterInRing}
use Rattle.codec_telegrams.specs.declared.Telegram.{Telegram}
use Rattle.codec_telegrams.specs.declared.Telegram.TheVariants as telegram
use Rattle.codec_records.specs.Records.{telegram_at}
use Rattle.codec_answers.specs.declared.Outcome.TheVariants as outcome
use Rattle.codec_answers.specs.declared.Sent.TheVariants as sent
use Rattle.codec_answers.specs.declared.Notice.TheVariants as notice
use Rattle.station.specs.declared.state.PassTokenAttempt.TheVariants.{First}
use Rattle.station.specs.declared.state.State.TheVariants.{PassToken, AwaitStatusResponse}
use Rattle.station.specs.declared.parts.Core.{Core}
use Rattle.station.specs.declared.done.Event.TheVariants as event
use Rattle.station.specs.Whole.{RingStep}
use Rattle.station.specs.Steps.{to_active_idle, rx_of, slot_expired_of, done_of, ring_step_of}
use Rattle.station_pass.specs.Pass.{pass_token_of}

-- do_await_status_response: masters without token and in the ring come into the ring
unfoldable pub status_ring_on : ResponseState → Ring → ℕ → Ring
status_ring_on Slave ring address = ring
status_ring_on MasterNotReady ring address = ring
status_ring_on MasterWithoutToken ring address = add_of ring address
status_ring_on MasterInRing ring address = add_of ring address

-- do_await_status_response: only if the status is Ok
unfoldable pub status_ring : Ring → ℕ → ResponseState → ℕ → Ring
status_ring ring address state status = cond (eqb status 0) (status_ring_on state ring address) ring

-- do_await_status_response: the awaited answer: to PassToken, without gap question; the pass itself is the next poll's
unfoldable pub status_answered : Core → Ring → RingStep
status_answered c ring =
    ring_step_of (record { state = PassToken false First; core = c; sent = sent.Nothing; notice = notice.NoNotice; outcome = outcome.Delay; consumed = 1; event = event.Nothing }) ring

-- do_await_status_response: anything else leads to ActiveIdle
unfoldable pub status_unexpected : Core → Ring → RingStep
status_unexpected c ring =
    ring_step_of (record { state = to_active_idle; core = c; sent = sent.Nothing; notice = notice.NoNotice; outcome = outcome.Bus; consumed = 1; event = event.Nothing }) ring

-- do_await_status_response: a telegram came; awaited is a response to us from the station that was asked
unfoldable pub status_received : Parameters → Core → Ring → ℕ → Telegram → RingStep
status_received p c ring address (telegram.Token destination source) = status_unexpected c ring
status_received p c ring address telegram.ShortConfirmation = status_unexpected c ring
status_received p c ring address (telegram.Request destination source asks) = status_unexpected c ring
status_received p c ring address (telegram.Response destination source state status) =
    cond (eqb source address)
    (cond (eqb destination p.address) (status_answered c (status_ring ring address state status)) (status_unexpected c ring))
    (status_unexpected c ring)

-- do_await_status_response: only the first telegram is looked at; with no answer in time the token is passed on at once
unfoldable pub await_status_of : Parameters → Core → Ring → Micros → ℕ → List ℕ → ℕ → ℕ → RingStep
await_status_of p c ring now address bytes n count =
    cond (ltb 0 count) (status_received p (rx_of c now) ring address (telegram_at bytes n 0))
    (let slot = slot_expired_of p c now in
    cond slot.over (pass_token_of p slot.core ring now false First) (ring_step_of (done_of (AwaitStatusResponse address) slot.core outcome.Bus) ring))
