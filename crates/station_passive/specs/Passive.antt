-- PassiveIdle, by document 02 (P10): the Rust stops there with todo!. `bytes` is the poll record, n the number of applications, count
-- that of telegrams. request (status_request) is the field of the state.
use Rattle.std.specs.Prelude.{ℕ, true, List, Option, Some, None}
use Rattle.bit_times.specs.declared.micros.Micros.{Micros}
use Rattle.settings.specs.declared.parameters.Parameters.{Parameters}
use Rattle.ring.specs.Ring.{Ring}
use Rattle.codec_telegrams.specs.declared.ResponseState.TheVariants.{Slave}
use Rattle.station.specs.declared.state.State.TheVariants.{PassiveIdle}
use Rattle.station.specs.declared.parts.Core.{Core}
use Rattle.station.specs.Whole.{RingStep}
use Rattle.station.specs.Steps.{to_passive_idle}
use Rattle.station_listen.specs.Listen.{respond_of, received_all, consumed_all}

-- document 02, P10: PassiveIdle, on the noted request. With none the telegrams are consumed as in ListenToken, and with no telegram
-- nothing is asked of the activity: unknown, it stays unknown. A noted request is answered after the pause with type slave, ready or
-- not, and until then no telegram is consumed
unfoldable pub passive_idle_of : Parameters → Core → Ring → Micros → Option ℕ → List ℕ → ℕ → ℕ → RingStep
passive_idle_of p c ring now None bytes n count = consumed_all (received_all p to_passive_idle c ring now true bytes n count) count
passive_idle_of p c ring now (Some source) bytes n count =
    respond_of p (PassiveIdle (Some source)) to_passive_idle c ring now source Slave
