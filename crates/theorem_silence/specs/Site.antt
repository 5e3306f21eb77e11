-- Document 02's site, by the clock: what a station did with a rotation that has no room for a gap poll (`site` of settings_build). These
-- settings are refused with 25 now; the run is of the station's definitions, which the rule has not changed.
use Rattle.std.specs.Prelude.{ℕ, true, ◌≡◌, refl, List, [], ◌∷◌, ◌++◌}
use Rattle.codec_fields.specs.Fields.{field_of, zeros_or14, be_from, load_of}
use Rattle.bit_times.specs.Times.{rounded, time_of}
use Rattle.settings.specs.Settings.{slot_time_of, token_lost_of, rotation_time_of}
use Rattle.settings_build.specs.Finish.{site}
use Rattle.ring_addresses.specs.Set.{walk, nearest, between_of}
use Rattle.ring.specs.declared.GapState.TheVariants.{DoPoll}
use Rattle.ring_links.specs.Links.{listed, after_of, before_of, link_at, tab, links_of, link_of, unlink_of, behind_of, insert_of, sweep_of, relink_of, follows_of, confirms_of}
use Rattle.ring.specs.Ring.{has, make, others, remove_of, fresh_of, round_of, laps_of, witness_of, claim_of, next_of, prev_of, candidate_of, polls, gap_of, counted}
use Rattle.codec_telegrams.specs.Words as words
use Rattle.codec_decisions.specs.Decisions as decisions
use Rattle.codec_records.specs.Records as records
use Rattle.codec_answers.specs.declared.Sent.TheVariants.{Application}
use Rattle.station.specs.declared.station.Station.{Station}
use Rattle.station.specs.Parts.{fresh_station, fresh_core, with_activity, with_gap, with_pending, with_token_times, with_next_application, with_connectivity, is_offline}
use Rattle.station.specs.Steps as steps
use Rattle.station_hear_listen.specs.HearListen as hear
use Rattle.station_listen.specs.Listen as listening
use Rattle.station_hold.specs.Hold as holding
use Rattle.station_pass.specs.Pass as passing
use Rattle.station_await_status.specs.AwaitStatus as awaiting
use Rattle.station_check_pass.specs.CheckPass as checking
use Rattle.station_claim.specs.Claim as claiming
use Rattle.station_answer.specs.Counted.{raised_by, counted_of}
use Rattle.station_answer.specs.Answer as answering
use Rattle.station_command.specs.Command as commands
use Rattle.station_poll.specs.Poll as polling
use Rattle.theorem_sound.specs.Sound.{Call, after, run}
use Rattle.theorem_sound.specs.Sound as call
use Rattle.theorem_silence.specs.Scripts.{sends_nine, poll_silent}

-- The station is alone: it claims the token and passes it to itself, the last times at 8000 and 8400. At 8800 the gap is due and it asks
-- 6; nobody answers, and the token comes back to it at 9400.
abbrev site_calls : List Call
site_calls =
    call.online ∷ poll_silent 1000 ∷ poll_silent 7400 ∷ poll_silent 7600 ∷ poll_silent 7800 ∷ poll_silent 8000 ∷ poll_silent 8200 ∷ poll_silent 8400 ∷ poll_silent 8600
    ∷ poll_silent 8800
    ∷ poll_silent 9400
    ∷ []

abbrev site_station : Station
site_station = run (fresh_station site 1) site_calls

-- At 9600 its application has a telegram of 9 bytes to send, of either priority.
abbrev offers_both : List ℕ
offers_both = 0 ∷ 0 ∷ 0 ∷ 0 ∷ 37 ∷ 128 ∷ 0 ∷ 0 ∷ [] ++ sends_nine ++ sends_nine

-- The gap is polled; the token before the one in hand came at 8400; the hold with the one in hand ends at 8312, before that; and what
-- is sent is the high priority telegram.
pub record SiteRun : Type 0 where
  pub polled : site_station.core.gap_state ≡ DoPoll 6
  pub token_before : site_station.core.last_token_time.0 ≡ 8400
  pub hold_ends : (polling.poll_of site_station offers_both).station.core.end_token_hold_time.0 ≡ 8312
  pub sent : (polling.poll_of site_station offers_both).answer.sent ≡ Application 0 0 true 9

-- worked out from the definitions
pub site_run : SiteRun
unfolding field_of be_from load_of rounded time_of slot_time_of token_lost_of rotation_time_of walk nearest between_of round_of laps_of listed after_of before_of link_at tab links_of link_of unlink_of behind_of insert_of sweep_of relink_of follows_of confirms_of counted has make others fresh_of witness_of claim_of next_of prev_of fresh_station fresh_core with_activity with_gap with_pending with_token_times with_next_application with_connectivity is_offline after run zeros_or14 decisions.length_refusal words.response_state_of decisions.decision_refusal words.telegram_refusal words.telegram_of decisions.decision_of records.head_of records.telegram_at records.decision_at records.entry_refusal records.words_refusal records.record_refusal steps.known_at steps.elapsed_of steps.waited_of steps.marked_at steps.busy_of steps.ongoing_of steps.pause_of steps.sent_at steps.bus_activity_of steps.rx_of steps.slot_expired_of steps.token_lost_wait_of steps.done_of steps.transmit_of steps.with_event steps.heard_of hear.sent_by_us hear.noted_of hear.witnessed_of hear.overheard_of steps.collision_of hear.listen_heard hear.listen_telegram listening.heard_telegram listening.heard_all listening.received_all listening.met_too listening.met_in listening.meetings_of listening.consumed_all listening.listen_token_on listening.handle_lost_token listening.listen_token_of polling.connected_of polling.entered_of polling.dispatch_of polling.poll_online polling.poll_inner raised_by counted_of answering.polled_of polling.accepted_after polling.accepted_poll polling.poll_of commands.online_of commands.connect_of claiming.claim_next claiming.claim_token_of steps.with_token_time holding.declines_on holding.declines_at holding.use_pass_of holding.app_transmit_of holding.first_or holding.turn_of holding.asked_from holding.asked_of holding.hold_less holding.capped holding.end_of holding.hold_end_of holding.holds_of holding.use_apps_after holding.use_apps_of holding.use_token_timed holding.use_token_of passing.gap_advanced passing.pass_sent_on passing.pass_send passing.pass_poll_on passing.pass_poll passing.pass_token_of checking.removal_of checking.resend_of checking.check_received checking.check_token_pass_of remove_of polls gap_of candidate_of answering.step_answer awaiting.await_status_of
site_run = record { polled = refl; token_before = refl; hold_ends = refl; sent = refl }
