-- Document 01's examples 1 to 12 hold, all under one theorem: each row by computing the definitions. Assumes nothing.
use Rattle.std.specs.Prelude.{true, ◌≡◌, refl, [], ◌∷◌, take, drop, Some}
use Rattle.std.proofs.Common.{ap, ◌∙◌, lit<, lit≤}
use Rattle.bit_times.specs.Times.{baud_of, rounded, time_of}
use Rattle.settings_rules.specs.Rules.{refuse_below, refuse_outside, address_refusal, baud_refusal, slot_bits_refusal, hsa_refusal, rotation_refusal, room_refusal, gap_wait_refusal, retry_refusal, min_tsdr_refusal, watchdog_refusal, factors_refusal, applications_refusal}
use Rattle.settings.specs.Settings.{new_at, unless, slot_bits_of, hsa_of, rotation_of, gap_wait_of, retry_of, min_tsdr_of, with_watchdog, watchdog_at, watchdog_of, slot_check_of, slot_time_of, min_tsdr_time_of, token_lost_of, rotation_time_of, new_of}
use Rattle.settings_watchdog.specs.Watchdog.{trial, factors_of, watchdog_time_of}
use Rattle.settings_build.specs.Build.{early_refusal, first_refusal, pair_of, built_at, build_of, plain_of}
use Rattle.ring_addresses.specs.Set.{walk, nearest, between_of, keeps, same_set}
use Rattle.ring_links.specs.Links.{listed, after_of, before_of, link_at, tab, links_of, link_of, unlink_of, behind_of, insert_of, sweep_of, relink_of, follows_of, confirms_of}
use Rattle.ring.specs.Ring.{Ring, has, make, claim_of, others, next_of, prev_of, fresh_of, add_of, remove_of, round_of, laps_of, witness_of, candidate_of, polls, gap_of, counted}
use Rattle.ring.specs.Worked.{among}
use Rattle.ring.proofs.Worked.{witness_of_members}
use Rattle.ring.proofs.Examples.{heard_nine}
use Rattle.ring.specs.declared.GapState.TheVariants.{DoPoll}
use Rattle.codec_fields.specs.Fields.{field_of, put_of, zeros_or14, be_from, load_of, over_of, stored_of}
use Rattle.codec_telegrams.specs.Words.{response_state_of, telegram_of, telegram_refusal, telegram_word}
use Rattle.codec_decisions.specs.Decisions.{decision_of, length_refusal, decision_refusal, decision_word}
use Rattle.codec_records.specs.Records.{head_of, decision_at, telegram_at, entry_refusal, words_refusal, record_refusal}
use Rattle.codec_answers.specs.Answers.{outcome_of, sent_fields, sent_from, notice_fields, notice_from, refused_answer, answer_word, full_of, answer_of, refusal_known, sent_meant, meant, unpack_of}
use Rattle.station.specs.declared.state.ConnectivityState.TheVariants as connectivity
use Rattle.station.specs.Parts.{with_activity, with_gap, with_pending, with_token_times, with_next_application, with_connectivity, is_offline, fresh_core, fresh_station}
use Rattle.station.specs.Steps.{to_active_idle, with_token_time, known_at, elapsed_of, marked_at, busy_of, ongoing_of, waited_of, pause_of, sent_at, bus_activity_of, rx_of, slot_expired_of, token_lost_wait_of, done_of, transmit_of, with_event, heard_of, collision_of, last_request_to_us}
use Rattle.station_claim.specs.Claim.{claim_next, claim_token_of}
use Rattle.station_hold.specs.Hold.{declines_on, declines_at, use_pass_of, app_transmit_of, first_or, turn_of, asked_from, asked_of, hold_less, capped, end_of, hold_end_of, holds_of, use_apps_after, use_apps_of, use_token_timed, use_token_of, valid_response, received_of, with_notice, timeout_of, await_data_of}
use Rattle.station_listen.specs.Listen.{handle_lost_token, response_state, respond_of, listen_answered, listen_response, heard_telegram, heard_all, met_too, met_in, received_all, meetings_of, consumed_all, listen_token_on, listen_token_of, active_response, active_idle_on, active_idle_of}
use Rattle.station_hear_listen.specs.HearListen.{collided, sent_by_us, noted_of, witnessed_of, overheard_of, listen_heard, listen_telegram}
use Rattle.station_hear_active.specs.HearActive.{active_collided, remembers, accepted_of, token_to_us, token_witnessed, token_heard, active_requested, active_heard, handle_telegram}
use Rattle.station_pass.specs.Pass.{gap_advanced, pass_sent_on, pass_send, pass_poll_on, pass_poll, pass_token_of}
use Rattle.station_await_status.specs.AwaitStatus.{status_ring_on, status_ring, status_answered, status_unexpected, status_received, await_status_of}
use Rattle.station_check_pass.specs.CheckPass.{removal_of, resend_of, check_received, check_token_pass_of}
use Rattle.station_poll.specs.Poll.{connected_of, entered_of, dispatch_of, poll_online, poll_inner, accepted_after, accepted_poll, poll_of}
use Rattle.station_answer.specs.Counted.{raised_by, counted_of}
use Rattle.station_answer.specs.Answer.{step_answer, polled_of, refused_poll}
use Rattle.station_command.specs.Command.{connect_of, online_of, offline_of, passive_of}
use Rattle.trace_headers.specs.Headers.{edition_of, length_of, header_in, header_of, header_refusal}
use Rattle.trace.specs.Trace.{TraceStart, Accepted, settings_of, settings_at, started_with, start_of, run_from, ran_of, replay_on, replay_of, number_of, written, buffer_of}
use Rattle.trace.specs.Entries.{record_length, entry_of}
use Rattle.station.specs.declared.station.Station.{Station}
use Rattle.theorem_examples.specs.Table.{TraceParts, left_on, left_by, trace_bytes, after_entries, example, example9, counts_of, alone_station, example10, neighbour_station, example11, collided_once, AllHold, table}

-- two stations are equal by their parts
same_station : (x y : Station) → x.state ≡ y.state → x.core ≡ y.core → x.token_ring ≡ y.token_ring → x.p ≡ y.p → x.counts ≡ y.counts → x.applications ≡ y.applications → x ≡ y
same_station x y state core ring p counts applications = λ i. record { state = state i; core = core i; token_ring = ring i; p = p i; counts = counts i; applications = applications i }

-- a trace leaves a station: by the station that its header starts, and what its entries make of that one
left_by_lem : (trace : TraceParts) (fresh left : Station) → start_of (trace_bytes trace) ≡ Accepted fresh → after_entries fresh trace.entries ≡ left → left_by trace ≡ Accepted left
left_by_lem trace fresh left start after = ap (λ (x : TraceStart). left_on x trace.entries) start ∙ ap Accepted after

-- a station with another ring
abbrev with_ring : Station → Ring → Station
with_ring s r = record { state = s.state; core = s.core; token_ring = r; p = s.p; counts = s.counts; applications = s.applications }

-- Where a token is heard, the ring is worked out apart: by what its members are.

-- example 10's station, with the ring as its calls make it
neighbour_but_ring : after_entries (fresh_station (example 10) 1) example10.entries ≡ with_ring neighbour_station (claim_of (claim_of (witness_of (fresh_of 5) 9 5)))
unfolding baud_of rounded time_of refuse_below refuse_outside address_refusal baud_refusal slot_bits_refusal hsa_refusal rotation_refusal room_refusal gap_wait_refusal retry_refusal min_tsdr_refusal watchdog_refusal factors_refusal applications_refusal early_refusal first_refusal pair_of built_at build_of plain_of slot_time_of token_lost_of rotation_time_of field_of be_from load_of response_state_of telegram_of zeros_or14 telegram_refusal decision_of length_refusal decision_refusal head_of decision_at telegram_at entry_refusal words_refusal record_refusal with_activity with_gap with_pending with_token_times with_next_application with_connectivity is_offline fresh_core fresh_station with_token_time known_at elapsed_of marked_at busy_of ongoing_of waited_of pause_of sent_at bus_activity_of rx_of slot_expired_of token_lost_wait_of done_of transmit_of with_event claim_next claim_token_of declines_on declines_at use_pass_of app_transmit_of first_or turn_of asked_from asked_of hold_less capped end_of hold_end_of holds_of use_apps_after use_apps_of use_token_timed use_token_of valid_response received_of await_data_of heard_of collision_of collided sent_by_us noted_of witnessed_of overheard_of listen_heard listen_telegram active_collided token_witnessed token_heard active_heard handle_telegram heard_telegram heard_all received_all met_too met_in meetings_of consumed_all listen_token_on handle_lost_token listen_token_of active_idle_on active_idle_of gap_advanced pass_sent_on pass_send pass_poll_on pass_poll pass_token_of await_status_of connected_of entered_of dispatch_of poll_online poll_inner raised_by counted_of polled_of accepted_after accepted_poll poll_of online_of connect_of edition_of length_of header_in header_of header_refusal settings_of settings_at started_with start_of entry_of
neighbour_but_ring = refl

neighbour_ring : claim_of (claim_of (witness_of (fresh_of 5) 9 5)) ≡ neighbour_station.token_ring
unfolding make claim_of
neighbour_ring = ap (λ (r : Ring). claim_of (claim_of r)) heard_nine

-- example 11's station once it stands back (9900), and the entries up to there and after it
abbrev stands_back : Station
stands_back =
    record {
      state = to_active_idle;
      core = record { last_token_time = record { 0 = 9400 }; end_token_hold_time = record { 0 = 72672 }; last_bus_activity = Some (record { 0 = 9900 }); gap_state = DoPoll 6; pending_bytes = 0; next_application = 1; connectivity_state = connectivity.Online };
      token_ring = make 5 (among (5 ∷ [])) 2 true;
      p = example 1;
      counts = counts_of 1 0 0;
      applications = 2;
    }

collided_but_ring :
    after_entries stands_back (drop 13 example11.entries)
    ≡ with_ring collided_once (witness_of (witness_of (witness_of (witness_of stands_back.token_ring 9 12) 12 9) 9 12) 12 9)
unfolding baud_of rounded time_of refuse_below refuse_outside address_refusal baud_refusal slot_bits_refusal hsa_refusal rotation_refusal room_refusal gap_wait_refusal retry_refusal min_tsdr_refusal watchdog_refusal factors_refusal applications_refusal early_refusal first_refusal pair_of built_at build_of plain_of slot_time_of token_lost_of rotation_time_of field_of be_from load_of response_state_of telegram_of zeros_or14 telegram_refusal decision_of length_refusal decision_refusal head_of decision_at telegram_at entry_refusal words_refusal record_refusal with_activity with_gap with_pending with_token_times with_next_application with_connectivity is_offline fresh_core fresh_station with_token_time known_at elapsed_of marked_at busy_of ongoing_of waited_of pause_of sent_at bus_activity_of rx_of slot_expired_of token_lost_wait_of done_of transmit_of with_event claim_next claim_token_of declines_on declines_at use_pass_of app_transmit_of first_or turn_of asked_from asked_of hold_less capped end_of hold_end_of holds_of use_apps_after use_apps_of use_token_timed use_token_of valid_response received_of await_data_of heard_of collision_of collided sent_by_us noted_of witnessed_of overheard_of listen_heard listen_telegram active_collided token_witnessed token_heard active_heard handle_telegram heard_telegram heard_all received_all met_too met_in meetings_of consumed_all listen_token_on handle_lost_token listen_token_of active_idle_on active_idle_of gap_advanced pass_sent_on pass_send pass_poll_on pass_poll pass_token_of await_status_of connected_of entered_of dispatch_of poll_online poll_inner raised_by counted_of polled_of accepted_after accepted_poll poll_of online_of connect_of edition_of length_of header_in header_of header_refusal settings_of settings_at started_with start_of entry_of
collided_but_ring = refl

-- the token goes round twice between 9 and 12
collided_ring : witness_of (witness_of (witness_of (witness_of stands_back.token_ring 9 12) 12 9) 9 12) 12 9 ≡ collided_once.token_ring
unfolding make between_of keeps same_set round_of laps_of
collided_ring =
    let all = among (5 ∷ 9 ∷ 12 ∷ []) in
    ap (λ (r : Ring). witness_of (witness_of (witness_of r 12 9) 9 12) 12 9) (witness_of_members 5 2 9 12 true (among (5 ∷ [])) all (lit< tt) refl (lit≤ tt) (lit< tt) (lit< tt) refl)
    ∙ ap (λ (r : Ring). witness_of (witness_of r 9 12) 12 9) (witness_of_members 5 0 12 9 true all all (lit< tt) refl (lit≤ tt) (lit< tt) (lit< tt) refl)
    ∙ ap (λ (r : Ring). witness_of r 12 9) (witness_of_members 5 1 9 12 true all all (lit< tt) refl (lit≤ tt) (lit< tt) (lit< tt) refl)
    ∙ witness_of_members 5 1 12 9 true all all (lit< tt) refl (lit≤ tt) (lit< tt) (lit< tt) refl

-- the three stations that traces leave
stations_left : (left_by example9 ≡ Accepted alone_station) × (left_by example10 ≡ Accepted neighbour_station) × (left_by example11 ≡ Accepted collided_once)
unfolding baud_of rounded time_of refuse_below refuse_outside address_refusal baud_refusal slot_bits_refusal hsa_refusal rotation_refusal room_refusal gap_wait_refusal retry_refusal min_tsdr_refusal watchdog_refusal factors_refusal applications_refusal early_refusal first_refusal pair_of built_at build_of plain_of slot_time_of token_lost_of rotation_time_of has make claim_of others next_of fresh_of witness_of polls gap_of walk nearest between_of round_of laps_of candidate_of listed after_of before_of link_at tab links_of link_of unlink_of behind_of insert_of sweep_of relink_of follows_of confirms_of counted field_of be_from load_of response_state_of telegram_of zeros_or14 telegram_refusal decision_of length_refusal decision_refusal head_of decision_at telegram_at entry_refusal words_refusal record_refusal with_activity with_gap with_pending with_token_times with_next_application with_connectivity is_offline fresh_core fresh_station with_token_time known_at elapsed_of marked_at busy_of ongoing_of waited_of pause_of sent_at bus_activity_of rx_of slot_expired_of token_lost_wait_of done_of transmit_of with_event claim_next claim_token_of declines_on declines_at use_pass_of app_transmit_of first_or turn_of asked_from asked_of hold_less capped end_of hold_end_of holds_of use_apps_after use_apps_of use_token_timed use_token_of valid_response received_of await_data_of heard_of collision_of collided sent_by_us noted_of witnessed_of overheard_of listen_heard listen_telegram active_collided token_witnessed token_heard active_heard handle_telegram heard_telegram heard_all received_all met_too met_in meetings_of consumed_all listen_token_on handle_lost_token listen_token_of active_idle_on active_idle_of gap_advanced pass_sent_on pass_send pass_poll_on pass_poll pass_token_of await_status_of connected_of entered_of dispatch_of poll_online poll_inner raised_by counted_of polled_of accepted_after accepted_poll poll_of online_of connect_of edition_of length_of header_in header_of header_refusal settings_of settings_at started_with start_of entry_of
stations_left = (
  let fresh = fresh_station (example 10) 1 in
      let after = after_entries fresh example9.entries in
      left_by_lem example9 fresh alone_station refl (same_station after alone_station refl refl refl refl refl refl),
  let fresh = fresh_station (example 10) 1 in
      left_by_lem example10 fresh neighbour_station refl (neighbour_but_ring ∙ ap (with_ring neighbour_station) neighbour_ring),
  let fresh = fresh_station (example 1) 2 in
      let after = after_entries fresh (take 13 example11.entries) in
      left_by_lem example11 fresh collided_once refl
      (ap (λ (s : Station). after_entries s (drop 13 example11.entries)) (same_station after stands_back refl refl refl refl refl refl)
      ∙ collided_but_ring
      ∙ ap (with_ring collided_once) collided_ring),
)

-- every row of the table holds
pub examples_1_to_12 : AllHold table
unfolding baud_of rounded time_of refuse_below refuse_outside trial factors_of new_at unless slot_bits_of hsa_of rotation_of gap_wait_of retry_of min_tsdr_of with_watchdog watchdog_at watchdog_of slot_check_of address_refusal baud_refusal slot_bits_refusal hsa_refusal rotation_refusal room_refusal gap_wait_refusal retry_refusal min_tsdr_refusal watchdog_refusal factors_refusal applications_refusal early_refusal first_refusal pair_of built_at build_of plain_of slot_time_of min_tsdr_time_of token_lost_of rotation_time_of watchdog_time_of new_of has make claim_of others next_of prev_of fresh_of add_of remove_of witness_of polls gap_of walk nearest between_of round_of laps_of candidate_of listed after_of before_of link_at tab links_of link_of unlink_of behind_of insert_of sweep_of relink_of follows_of confirms_of counted field_of put_of be_from load_of over_of stored_of response_state_of telegram_of zeros_or14 telegram_refusal telegram_word decision_of length_refusal decision_refusal decision_word head_of decision_at telegram_at entry_refusal words_refusal record_refusal outcome_of sent_fields sent_from notice_fields notice_from refused_answer answer_word full_of answer_of refusal_known sent_meant meant unpack_of with_activity with_gap with_pending with_token_times with_next_application with_connectivity is_offline fresh_core fresh_station with_token_time known_at elapsed_of marked_at busy_of ongoing_of waited_of pause_of sent_at bus_activity_of rx_of slot_expired_of token_lost_wait_of done_of transmit_of with_event claim_next claim_token_of declines_on declines_at use_pass_of app_transmit_of first_or turn_of asked_from asked_of hold_less capped end_of hold_end_of holds_of use_apps_after use_apps_of use_token_timed use_token_of valid_response received_of with_notice timeout_of await_data_of heard_of collision_of response_state listen_answered respond_of listen_response collided last_request_to_us sent_by_us noted_of witnessed_of overheard_of listen_heard listen_telegram active_collided remembers accepted_of token_to_us token_witnessed token_heard active_requested active_heard handle_telegram heard_telegram heard_all received_all met_too met_in meetings_of consumed_all listen_token_on handle_lost_token listen_token_of active_response active_idle_on active_idle_of gap_advanced pass_sent_on pass_send pass_poll_on pass_poll pass_token_of status_ring_on status_ring status_answered status_unexpected status_received await_status_of removal_of resend_of check_received check_token_pass_of connected_of entered_of dispatch_of poll_online poll_inner step_answer raised_by counted_of polled_of refused_poll accepted_after accepted_poll poll_of online_of connect_of offline_of passive_of edition_of length_of header_in header_of header_refusal settings_of settings_at started_with start_of record_length entry_of run_from ran_of replay_on replay_of number_of written buffer_of
examples_1_to_12 = (refl, (refl, (refl, (refl, (refl, (refl, (refl, (refl, (refl, (refl, (refl, ((refl, refl), ((refl, refl), ((refl, refl), ((stations_left.0, refl), ((stations_left.1, refl), ((stations_left.2, refl), ((stations_left.2, refl), ((refl, refl, refl), tt)))))))))))))))))))
