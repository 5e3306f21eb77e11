-- do_check_token_pass. `bytes` is the poll record, n the number of applications, count that of telegrams.
use Rattle.std.specs.Prelude.{ℕ, false, cond, List, Option, Some, None, ltb}
use Rattle.bit_times.specs.declared.micros.Micros.{Micros}
use Rattle.settings.specs.declared.parameters.Parameters.{Parameters}
use Rattle.ring.specs.Ring.{Ring, next_of, remove_of}
use Rattle.codec_answers.specs.declared.Outcome.TheVariants as outcome
use Rattle.station.specs.declared.state.PassTokenAttempt.{PassTokenAttempt}
use Rattle.station.specs.declared.state.PassTokenAttempt.TheVariants.{First, Second, Third}
use Rattle.station.specs.declared.state.State.TheVariants.{CheckTokenPass}
use Rattle.station.specs.declared.parts.Core.{Core}
use Rattle.station.specs.declared.done.Event.{Event}
use Rattle.station.specs.declared.done.Event.TheVariants as event
use Rattle.station.specs.Whole.{RingStep}
use Rattle.station.specs.Steps.{to_active_idle, slot_expired_of, done_of, with_event, ring_step_of}
use Rattle.station_listen.specs.Listen.{received_all, consumed_all}
use Rattle.station_pass.specs.Pass.{destination_of, pass_token_of}

-- document 02: what is counted where the next station is taken out after a third attempt
unfoldable pub removal_of : Option ℕ → Event
removal_of None = event.Nothing
removal_of (Some a) = event.Removal

-- do_check_token_pass: sent again up to the third attempt, then the station that it went to is taken out and the one behind it gets its
-- first attempt (`removed_alone` of station_pass: alone nobody is taken out); the removal is counted (document 02)
unfoldable pub resend_of : Parameters → Core → Ring → Micros → PassTokenAttempt → RingStep
resend_of p c ring now First = pass_token_of p c ring now false Second
resend_of p c ring now Second = pass_token_of p c ring now false Third
resend_of p c ring now Third =
    with_event (pass_token_of p c (remove_of ring (destination_of p.address (next_of ring))) now false First) (removal_of (next_of ring))

-- do_check_token_pass: telegrams lead to ActiveIdle and are handled there
unfoldable pub check_received : Parameters → Core → Ring → Micros → PassTokenAttempt → List ℕ → ℕ → ℕ → RingStep
check_received p c ring now attempt bytes n count =
    cond (ltb 0 count) (consumed_all (received_all p to_active_idle c ring now false bytes n count) count)
    (ring_step_of (done_of (CheckTokenPass attempt) c outcome.Bus) ring)

-- do_check_token_pass
unfoldable pub check_token_pass_of : Parameters → Core → Ring → Micros → PassTokenAttempt → List ℕ → ℕ → ℕ → RingStep
check_token_pass_of p c ring now attempt bytes n count =
    let slot = slot_expired_of p c now in
    cond slot.over (resend_of p slot.core ring now attempt) (check_received p slot.core ring now attempt bytes n count)
