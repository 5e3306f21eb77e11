-- The premises are met, and what the theorems allow does happen: calls that make a station in PassiveIdle, and one that answers there.
use Rattle.std.specs.Prelude.{ℕ, ◌≡◌, refl, List, [], ◌∷◌}
use Rattle.codec_fields.specs.Fields.{field_of, zeros_or14, be_from, load_of}
use Rattle.bit_times.specs.declared.baud.Baud.TheVariants.{B500000}
use Rattle.bit_times.specs.Times.{rounded, time_of}
use Rattle.settings.specs.declared.parameters.Parameters.{Parameters}
use Rattle.settings.specs.Settings.{default_of}
use Rattle.ring.specs.Ring.{fresh_of}
use Rattle.codec_telegrams.specs.declared.ResponseState.TheVariants.{Slave}
use Rattle.codec_telegrams.specs.Words as words
use Rattle.codec_decisions.specs.Decisions as decisions
use Rattle.codec_records.specs.Records as records
use Rattle.codec_answers.specs.declared.Sent.TheVariants.{StatusResponse}
use Rattle.station.specs.declared.station.Station.{Station}
use Rattle.station.specs.Parts.{fresh_station, fresh_core, with_activity, with_pending, with_connectivity, is_offline}
use Rattle.station.specs.Steps as steps
use Rattle.station_hear_listen.specs.HearListen as hear
use Rattle.station_listen.specs.Listen as listening
use Rattle.station_passive.specs.Passive as idling
use Rattle.station_answer.specs.Counted as counting
use Rattle.station_answer.specs.Answer as answering
use Rattle.station_command.specs.Command as commands
use Rattle.station_poll.specs.Poll as polling
use Rattle.theorem_sound.specs.Sound.{Call, poll, after, run}
use Rattle.theorem_sound.specs.Sound as call
use Rattle.theorem_passive.specs.Statement.{IsPassive, In}

-- a station with address 5, code 6 and one application that declines; a pause is 66 µs
abbrev spare : Parameters
spare = default_of 5 B500000

-- put passive; a poll at 100 with no telegram, by which it is in PassiveIdle; a poll at 200 that hears a status request from 9 to 5
abbrev pub spare_calls : List Call
spare_calls =
    call.passive ∷ poll (0 ∷ 0 ∷ 0 ∷ 0 ∷ 0 ∷ 100 ∷ 0 ∷ 0 ∷ 0 ∷ 0 ∷ 0 ∷ 0 ∷ 0 ∷ 0 ∷ [])
    ∷ poll (0 ∷ 0 ∷ 0 ∷ 0 ∷ 0 ∷ 200 ∷ 8 ∷ 0 ∷ 0 ∷ 0 ∷ 0 ∷ 0 ∷ 0 ∷ 0 ∷ 130 ∷ 137 ∷ 128 ∷ 0 ∷ [])
    ∷ []

abbrev pub asked : Station
asked = run (fresh_station spare 1) spare_calls

-- a poll at 300, after the pause
abbrev later : List ℕ
later = 0 ∷ 0 ∷ 0 ∷ 0 ∷ 1 ∷ 44 ∷ 0 ∷ 0 ∷ 0 ∷ 0 ∷ 0 ∷ 0 ∷ 0 ∷ 0 ∷ []

-- it is passive and in PassiveIdle, and the poll at 300 answers 9 with type slave
pub record Shown : Type 0 where
  pub passive : IsPassive asked
  pub in_passive_idle : In 9 asked
  pub answers : (polling.poll_of asked later).answer.sent ≡ StatusResponse 9 Slave

-- worked out from the definitions
pub shown : Shown
unfolding field_of be_from load_of rounded time_of fresh_of fresh_station fresh_core with_activity with_pending with_connectivity is_offline after run zeros_or14 decisions.length_refusal words.response_state_of decisions.decision_refusal words.telegram_refusal words.telegram_of decisions.decision_of records.head_of records.telegram_at records.decision_at records.entry_refusal records.words_refusal records.record_refusal steps.known_at steps.elapsed_of steps.waited_of steps.marked_at steps.busy_of steps.ongoing_of steps.pause_of steps.sent_at steps.bus_activity_of steps.rx_of steps.done_of steps.transmit_of steps.heard_of steps.last_request_to_us hear.sent_by_us hear.noted_of hear.witnessed_of hear.overheard_of hear.passive_heard hear.listen_telegram listening.heard_telegram listening.heard_all listening.met_too listening.met_in listening.received_all listening.meetings_of listening.consumed_all listening.respond_of idling.passive_idle_of polling.passivated_of polling.entered_of polling.dispatch_of polling.poll_online polling.poll_inner counting.counted_of answering.step_answer answering.polled_of polling.accepted_after polling.accepted_poll polling.poll_of commands.passive_of commands.connect_of
shown = record { passive = refl; in_passive_idle = refl; answers = refl }
