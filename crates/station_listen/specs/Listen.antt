-- Listening, in the order of active.rs. `bytes` is the poll record, n the number of applications, count that of telegrams.
-- request (status_request), newPreviousStation (new_previous_station) and collisions are the fields of the state, taken out by the dispatch.
use Rattle.std.specs.Prelude.{ℕ, zero, suc, ◌+◌, Bool, true, false, cond, List, eqb, Option, Some, None}
use Rattle.bit_times.specs.declared.micros.Micros.{Micros}
use Rattle.settings.specs.declared.parameters.Parameters.{Parameters}
use Rattle.ring.specs.Ring.{Ring, prev_of}
use Rattle.codec_telegrams.specs.declared.ResponseState.{ResponseState}
use Rattle.codec_telegrams.specs.declared.ResponseState.TheVariants.{MasterNotReady, MasterWithoutToken, MasterInRing}
use Rattle.codec_telegrams.specs.declared.Telegram.{Telegram}
use Rattle.codec_records.specs.Records.{telegram_at}
use Rattle.codec_answers.specs.declared.Outcome.TheVariants as outcome
use Rattle.codec_answers.specs.declared.Sent.TheVariants as sent
use Rattle.codec_answers.specs.declared.Notice.TheVariants as notice
use Rattle.station.specs.declared.state.State.{State}
use Rattle.station.specs.declared.state.State.TheVariants.{ListenToken, ActiveIdle}
use Rattle.station.specs.declared.parts.Core.{Core}
use Rattle.station.specs.declared.done.Event.{Event}
use Rattle.station.specs.declared.done.Event.TheVariants as event
use Rattle.station.specs.Whole.{RingStep, Heard}
use Rattle.station.specs.Steps.{to_active_idle, pause_of, rx_of, token_lost_wait_of, done_of, transmit_of, with_event, ring_step_of, heard_of}
use Rattle.station_claim.specs.Claim.{claim_token_of}
use Rattle.station_hear_listen.specs.HearListen.{listen_telegram}
use Rattle.station_hear_active.specs.HearActive.{handle_telegram}

-- handle_lost_token: a lost token is claimed, and the entry to ClaimToken is counted (document 02); else the state goes on with `rest`
unfoldable pub handle_lost_token : Parameters → Core → Ring → Micros → (Core → RingStep) → RingStep
handle_lost_token p c ring now rest =
    let lost = token_lost_wait_of p c now in
    cond lost.over (with_event (claim_token_of p lost.core ring now true) event.Claim) (rest lost.core)

-- do_listen_token: without token exactly if ready and asked by the previous station, else not ready. Alone, previous is own, so
-- every asker hears "not ready"
unfoldable pub response_state : Ring → ℕ → ResponseState
response_state ring source = cond ring.ready (cond (eqb source (prev_of ring)) MasterWithoutToken MasterNotReady) MasterNotReady

-- do_listen_token: once answered, a ready station goes to ActiveIdle, whoever asked
unfoldable pub listen_answered : Ring → ℕ → State
listen_answered ring collisions = cond ring.ready to_active_idle (ListenToken None collisions)

-- do_listen_token, do_active_idle, and PassiveIdle: a status request is answered after the pause, with a station type; waiting is
-- the state until then, answered the one from then on
unfoldable pub respond_of : Parameters → State → State → Core → Ring → Micros → ℕ → ResponseState → RingStep
respond_of p waiting answered c ring now source type =
    let pause = pause_of p c now in
    cond pause.over (ring_step_of (transmit_of p answered pause.core now (sent.StatusResponse source type)) ring)
    (ring_step_of (done_of waiting pause.core outcome.Delay) ring)

-- do_listen_token: the answer to a status request
unfoldable pub listen_response : Parameters → Core → Ring → Micros → ℕ → ℕ → RingStep
listen_response p c ring now source collisions =
    respond_of p (ListenToken (Some source) collisions) (listen_answered ring collisions) c ring now source (response_state ring source)

-- receive_all_telegrams: each telegram marks a reception and is handled: if listening (in ListenToken or PassiveIdle) by the
-- closure of do_listen_token or PassiveIdle's, else by that of do_active_idle and do_check_token_pass
unfoldable pub heard_telegram : Parameters → Heard → Micros → Bool → Telegram → Bool → Heard
heard_telegram p h now listening t last =
    cond listening (listen_telegram p h.state (rx_of h.core now) h.ring t last)
    (handle_telegram p h.state (rx_of h.core now) h.ring now t last)

-- receive_all_telegrams: the first i of count telegrams; telegram count − 1 is the last pending one
unfoldable pub heard_all : Parameters → Heard → Micros → Bool → List ℕ → ℕ → ℕ → ℕ → Heard
heard_all p h now listening bytes n count zero = h
heard_all p h now listening bytes n count (suc i) =
    heard_telegram p (heard_all p h now listening bytes n count i) now listening (telegram_at bytes n i) (eqb (suc i) count)

-- document 02: the collisions of a poll, with one telegram more, which is one or none
unfoldable pub met_too : ℕ → ℕ → ℕ
met_too met here = cond (eqb here 0) met (met + 1)

-- document 02: how many of the first i of count telegrams are counted as collisions
unfoldable pub met_in : Parameters → Heard → Micros → Bool → List ℕ → ℕ → ℕ → ℕ → ℕ
met_in p h now listening bytes n count zero = 0
met_in p h now listening bytes n count (suc i) =
    met_too (met_in p h now listening bytes n count i) (heard_all p h now listening bytes n count (suc i)).met

-- what all telegrams have led to, with the collisions among them
abbrev pub with_met : Heard → ℕ → Heard
with_met h met = record { state = h.state; core = h.core; ring = h.ring; outcome = h.outcome; met = met }

-- receive_all_telegrams: with none the poll waits for the bus; after several the outcome is that of the last
unfoldable pub received_all : Parameters → State → Core → Ring → Micros → Bool → List ℕ → ℕ → ℕ → Heard
received_all p s c ring now listening bytes n count =
    let h = heard_of s c ring outcome.Bus in
    with_met (heard_all p h now listening bytes n count count) (met_in p h now listening bytes n count count)

-- document 02: what is counted of a poll with so many collisions
unfoldable pub meetings_of : ℕ → Event
meetings_of met = cond (eqb met 0) event.Nothing (event.Meetings met)

-- all telegrams of the poll are consumed, and the collisions among them are counted (document 02)
unfoldable pub consumed_all : Heard → ℕ → RingStep
consumed_all h count =
    ring_step_of (record { state = h.state; core = h.core; sent = sent.Nothing; notice = notice.NoNotice; outcome = h.outcome; consumed = count; event = meetings_of h.met }) h.ring

-- do_listen_token, on the noted request
unfoldable pub listen_token_on : Option ℕ → Parameters → Core → Ring → Micros → ℕ → List ℕ → ℕ → ℕ → RingStep
listen_token_on None p c ring now collisions bytes n count =
    consumed_all (received_all p (ListenToken None collisions) c ring now true bytes n count) count
listen_token_on (Some source) p c ring now collisions bytes n count = listen_response p c ring now source collisions

-- do_listen_token
unfoldable pub listen_token_of : Parameters → Core → Ring → Micros → Option ℕ → ℕ → List ℕ → ℕ → ℕ → RingStep
listen_token_of p c ring now request collisions bytes n count =
    handle_lost_token p c ring now (λ waited. listen_token_on request p waited ring now collisions bytes n count)

-- do_active_idle: the answer to a status request
unfoldable pub active_response : Parameters → Core → Ring → Micros → ℕ → Option ℕ → ℕ → RingStep
active_response p c ring now source newPreviousStation collisions =
    respond_of p (ActiveIdle (Some source) newPreviousStation collisions) (ActiveIdle None newPreviousStation collisions) c ring now source MasterInRing

-- do_active_idle, on the noted request
unfoldable pub active_idle_on : Option ℕ → Parameters → Core → Ring → Micros → Option ℕ → ℕ → List ℕ → ℕ → ℕ → RingStep
active_idle_on None p c ring now newPreviousStation collisions bytes n count =
    consumed_all (received_all p (ActiveIdle None newPreviousStation collisions) c ring now false bytes n count) count
active_idle_on (Some source) p c ring now newPreviousStation collisions bytes n count =
    active_response p c ring now source newPreviousStation collisions

-- do_active_idle
unfoldable pub active_idle_of : Parameters → Core → Ring → Micros → Option ℕ → Option ℕ → ℕ → List ℕ → ℕ → ℕ → RingStep
active_idle_of p c ring now request newPreviousStation collisions bytes n count =
    handle_lost_token p c ring now (λ waited. active_idle_on request p waited ring now newPreviousStation collisions bytes n count)
