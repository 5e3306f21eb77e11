-- A trace that meets all premises of SilentTrace, byte by byte: document 01's example 10 from a header on. The station 5 hears a token
-- from 9, claims the lost token and passes it to 9, which never answers: the answers in the buffer say tokens to 9, 9, 9 and 5.
use Rattle.std.specs.Prelude.{ℕ, true, false, ◌≡◌, refl, List, [], ◌∷◌, ◌++◌, length, replicate, None}
use Rattle.std.proofs.Common.{sym, ap, ◌∙◌, append-nil, lit<, arith}
use Rattle.codec_fields.specs.Fields.{field_of, zeros_or14, be_from, load_of}
use Rattle.bit_times.specs.declared.baud.Baud.TheVariants.{B500000}
use Rattle.bit_times.specs.Times.{baud_of, rounded, time_of}
use Rattle.settings.specs.declared.parameters.Parameters.{Parameters}
use Rattle.settings_rules.specs.Rules as rules
use Rattle.settings.specs.Settings.{slot_time_of, token_lost_of, rotation_time_of}
use Rattle.settings_build.specs.Build.{early_refusal, first_refusal, pair_of, built_at, build_of}
use Rattle.ring_addresses.specs.Set.{walk, nearest, between_of}
use Rattle.ring_links.specs.Links.{listed, after_of, before_of, link_at, tab, links_of, link_of, unlink_of, behind_of, insert_of, sweep_of, relink_of, follows_of, confirms_of}
use Rattle.ring.specs.Ring.{has, make, others, remove_of, fresh_of, round_of, laps_of, witness_of, claim_of, next_of, prev_of}
use Rattle.ring.specs.Ring as rings
use Rattle.codec_telegrams.specs.Words as words
use Rattle.codec_decisions.specs.Decisions as decisions
use Rattle.codec_records.specs.Records as records
use Rattle.codec_answers.specs.declared.Sent.{Sent}
use Rattle.codec_answers.specs.declared.Sent.TheVariants.{Token}
use Rattle.station.specs.declared.state.PassTokenAttempt.TheVariants.{First}
use Rattle.station.specs.declared.state.State.TheVariants.{PassToken}
use Rattle.station.specs.declared.station.Station.{Station}
use Rattle.station.specs.Parts.{fresh_station, fresh_core, with_activity, with_gap, with_pending, with_token_times, with_next_application, with_connectivity, is_offline}
use Rattle.station.specs.Steps as steps
use Rattle.station_hear_listen.specs.HearListen as hear
use Rattle.station_listen.specs.Listen as listening
use Rattle.station_hold.specs.Hold as holding
use Rattle.station_pass.specs.Pass as passing
use Rattle.station_check_pass.specs.CheckPass as checking
use Rattle.station_claim.specs.Claim as claiming
use Rattle.station_answer.specs.Counted.{raised_by, counted_of}
use Rattle.station_answer.specs.Answer as answering
use Rattle.station_command.specs.Command as commands
use Rattle.station_poll.specs.Poll as polling
use Rattle.trace_headers.specs.Headers as headers
use Rattle.trace.specs.Entries as entries
use Rattle.trace.specs.Trace.{settings_of, settings_at, Accepted, started_with, start_of, replay_of, buffer_of}
use Rattle.theorem_silence.specs.Silence.{AllQuiet, Online, gap_due, slot_after, counted, counted_in, tokens}
use Rattle.theorem_silence.specs.Shown.{with_ring, ring_nine}
use Rattle.theorem_silence.proofs.Shown.{ring_is, claimed_nine}
use Rattle.theorem_silence.specs.SilentRecords.{silent_at, silent_quiet}
use Rattle.theorem_every_trace.specs.Statement.{Entry, Whole, laid, along}
use Rattle.theorem_from_header.specs.SilentTrace.{poll_entries, sent_by_answers, held_by_answers, SilentTrace, silent_answers}
use Rattle.theorem_from_header.specs.SilentTraceProof.{silence_in_trace}

-- document 01's example header: address 5, code 6, slot 200, rotation 32,436, gap wait 10, HSA 126, retry 1, min Tsdr 11, one application,
-- no watchdog
abbrev pub header : List ℕ
header = 5 ∷ 6 ∷ 0 ∷ 200 ∷ 0 ∷ 0 ∷ 126 ∷ 180 ∷ 10 ∷ 126 ∷ 1 ∷ 11 ∷ 1 ∷ 0 ∷ 0 ∷ 0 ∷ []

-- the record at 100 µs with one telegram: a token from 9 to 5
abbrev pub token_heard : List ℕ
token_heard = 0 ∷ 0 ∷ 0 ∷ 0 ∷ 0 ∷ 100 ∷ 8 ∷ 0 ∷ 0 ∷ 0 ∷ 0 ∷ 0 ∷ 0 ∷ 0 ∷ 2 ∷ 137 ∷ 0 ∷ 0 ∷ []

-- online; a silent poll, the token heard; then silence: the station claims the token at 6,600 µs, sends it twice to itself, holds it, and
-- its application declines
abbrev pub earlier : List Entry
earlier = record { kind = 0; bytes = [] } ∷ poll_entries (silent_at 1 0 ∷ token_heard ∷ silent_at 1 6600 ∷ silent_at 1 6800 ∷ silent_at 1 7000 ∷ [])

-- four silent polls, each a token and a slot after the one before
abbrev pub silent_records : List (List ℕ)
silent_records = silent_at 1 7266 ∷ silent_at 1 7732 ∷ silent_at 1 8198 ∷ silent_at 1 8664 ∷ []

-- the trace, and a buffer for its ten answers
abbrev pub trace : List ℕ
trace = header ++ (laid earlier ++ (laid (poll_entries silent_records) ++ []))

abbrev pub buffer : List ℕ
buffer = replicate 80 0

-- the header's settings
abbrev settings : Parameters
settings =
    record {
      token_rotation_bits = 32436;
      slot_bits = 200;
      address = 5;
      baudrate = B500000;
      gap_wait_rotations = 10;
      highest_station_address = 126;
      max_retry_limit = 1;
      min_tsdr_bits = 11;
      watchdog_factors = None;
    }

starts : start_of trace ≡ Accepted (fresh_station settings 1)
unfolding field_of be_from headers.edition_of headers.length_of headers.header_in headers.header_of headers.header_refusal rules.refuse_below rules.refuse_outside rules.address_refusal rules.baud_refusal rules.slot_bits_refusal rules.hsa_refusal rules.rotation_refusal rules.room_refusal rules.gap_wait_refusal rules.retry_refusal rules.min_tsdr_refusal rules.factors_refusal rules.applications_refusal early_refusal first_refusal pair_of built_at build_of baud_of settings_of settings_at started_with start_of zeros_or14
starts = refl

one_application : (headers.header_of trace).applications ≡ 1
unfolding field_of be_from headers.edition_of headers.length_of headers.header_in headers.header_of
one_application = refl

all_of_it : length header ≡ headers.header_length trace
unfolding headers.edition_of headers.length_of
all_of_it = refl

own_address : (headers.header_of trace).settings.address ≡ 5
unfolding field_of be_from headers.edition_of headers.length_of headers.header_in headers.header_of
own_address = refl

-- the station that the entries leave
abbrev pub reached : Station
reached = (along (fresh_station settings 1) earlier).station

record Reached : Type 0 where
  pub whole : Whole earlier
  pub on : Online reached
  pub state : reached.state ≡ PassToken true First
  pub due : gap_due reached.p reached.core reached.token_ring true ≡ false
  pub neighbour : others reached.token_ring ≡ 9 ∷ []
  pub all_counted : counted_in reached silent_records ≡ 4

-- its ring, which heard a token from 9 and was claimed twice
reached_ring : reached.token_ring ≡ claim_of (claim_of (witness_of (fresh_of 5) 9 5))
unfolding entries.record_length entries.entry_of field_of be_from load_of rounded time_of slot_time_of token_lost_of rotation_time_of prev_of fresh_station fresh_core with_activity with_gap with_pending with_token_times with_next_application with_connectivity is_offline zeros_or14 decisions.length_refusal words.response_state_of decisions.decision_refusal words.telegram_refusal words.telegram_of decisions.decision_of records.head_of records.telegram_at records.decision_at records.entry_refusal records.words_refusal records.record_refusal steps.known_at steps.elapsed_of steps.marked_at steps.busy_of steps.ongoing_of steps.waited_of steps.pause_of steps.sent_at steps.bus_activity_of steps.rx_of steps.slot_expired_of steps.token_lost_wait_of steps.done_of steps.transmit_of steps.with_event steps.heard_of hear.sent_by_us hear.noted_of hear.witnessed_of hear.overheard_of steps.collision_of hear.listen_heard hear.listen_telegram listening.heard_telegram listening.heard_all listening.received_all listening.met_too listening.met_in listening.meetings_of listening.consumed_all listening.listen_token_on listening.handle_lost_token listening.listen_token_of polling.connected_of polling.entered_of polling.dispatch_of polling.poll_online polling.poll_inner raised_by counted_of answering.polled_of polling.accepted_after polling.accepted_poll polling.poll_of commands.online_of commands.connect_of claiming.claim_next claiming.claim_token_of steps.with_token_time holding.declines_on holding.declines_at holding.use_pass_of holding.app_transmit_of holding.first_or holding.turn_of holding.asked_from holding.asked_of holding.hold_less holding.capped holding.end_of holding.hold_end_of holding.holds_of holding.use_apps_after holding.use_apps_of holding.use_token_timed holding.use_token_of passing.gap_advanced gap_due passing.pass_sent_on passing.pass_send passing.pass_poll_on passing.pass_poll passing.pass_token_of checking.removal_of checking.resend_of checking.check_received checking.check_token_pass_of counted counted_in slot_after answering.step_answer
reached_ring = refl

reached_is : reached ≡ with_ring reached ring_nine
reached_is = ring_is reached ring_nine (reached_ring ∙ claimed_nine)

-- worked out from the definitions
worked : Reached
unfolding entries.record_length entries.entry_of field_of be_from load_of rounded time_of slot_time_of token_lost_of rotation_time_of walk nearest between_of round_of laps_of listed after_of before_of link_at tab links_of link_of unlink_of behind_of insert_of sweep_of relink_of follows_of confirms_of rings.counted has make others fresh_of witness_of claim_of next_of prev_of fresh_station fresh_core with_activity with_gap with_pending with_token_times with_next_application with_connectivity is_offline zeros_or14 decisions.length_refusal words.response_state_of decisions.decision_refusal words.telegram_refusal words.telegram_of decisions.decision_of records.head_of records.telegram_at records.decision_at records.entry_refusal records.words_refusal records.record_refusal steps.known_at steps.elapsed_of steps.marked_at steps.busy_of steps.ongoing_of steps.waited_of steps.pause_of steps.sent_at steps.bus_activity_of steps.rx_of steps.slot_expired_of steps.token_lost_wait_of steps.done_of steps.transmit_of steps.with_event steps.heard_of hear.sent_by_us hear.noted_of hear.witnessed_of hear.overheard_of steps.collision_of hear.listen_heard hear.listen_telegram listening.heard_telegram listening.heard_all listening.received_all listening.met_too listening.met_in listening.meetings_of listening.consumed_all listening.listen_token_on listening.handle_lost_token listening.listen_token_of polling.connected_of polling.entered_of polling.dispatch_of polling.poll_online polling.poll_inner raised_by counted_of answering.polled_of polling.accepted_after polling.accepted_poll polling.poll_of commands.online_of commands.connect_of claiming.claim_next claiming.claim_token_of steps.with_token_time holding.declines_on holding.declines_at holding.use_pass_of holding.app_transmit_of holding.first_or holding.turn_of holding.asked_from holding.asked_of holding.hold_less holding.capped holding.end_of holding.hold_end_of holding.holds_of holding.use_apps_after holding.use_apps_of holding.use_token_timed holding.use_token_of passing.gap_advanced gap_due passing.pass_sent_on passing.pass_send passing.pass_poll_on passing.pass_poll passing.pass_token_of checking.removal_of checking.resend_of checking.check_received checking.check_token_pass_of remove_of counted counted_in slot_after answering.step_answer
worked =
    record {
      whole = (refl, (refl, (refl, (refl, (refl, (refl, tt))))));
      on = refl;
      state = refl;
      due = refl;
      neighbour = ap others (reached_ring ∙ claimed_nine);
      all_counted = ap (λ (s : Station). counted_in s silent_records) reached_is;
    }

quiet : AllQuiet 1 silent_records
quiet = (silent_quiet 1 7266 (lit< tt), (silent_quiet 1 7732 (lit< tt), (silent_quiet 1 8198 (lit< tt), (silent_quiet 1 8664 (lit< tt), tt))))

-- it is a trace as SilentTrace asks for
pub silent_trace : SilentTrace trace buffer
silent_trace =
    record {
      header = header;
      earlier = earlier;
      records = silent_records;
      more = [];
      whole_header = all_of_it;
      whole = worked.whole;
      bytes = refl;
      room = omega arith;
      fresh = fresh_station settings 1;
      starts = starts;
      not_offline = worked.on;
      gap = true;
      passing = worked.state;
      no_question = worked.due;
      quiet = rw one_application quiet;
    }

-- what the call leaves in the buffer
abbrev pub left : List ℕ
left = buffer_of (replay_of trace (length buffer)) buffer

-- the last four answers say: tokens to 9, 9, 9 and 5, and then the token is held
pub record ExampleTen : Type 0 where
  pub sent : sent_by_answers (silent_answers silent_trace left) ≡ Token 9 ∷ Token 9 ∷ Token 9 ∷ Token 5 ∷ []
  pub held : held_by_answers (silent_answers silent_trace left) ≡ true

-- by the theorem: there is one other, and 3 · 1 + 1 of the polls are counted
pub example_ten : ExampleTen
unfolding silent_trace
example_ten =
    let said = silence_in_trace trace buffer silent_trace in
    let one : length (others reached.token_ring) ≡ 1 = ap length worked.neighbour in
    let four = worked.all_counted in
    let token_held = said.bound (omega arith) in
    record {
      sent =
          sym (append-nil (sent_by_answers (silent_answers silent_trace left)))
          ∙ ap (λ (rest : List Sent). sent_by_answers (silent_answers silent_trace left) ++ rest) (sym (said.all_sent token_held))
          ∙ said.sends
          ∙ ap (λ (os : List ℕ). tokens os (headers.header_of trace).settings.address) worked.neighbour
          ∙ ap (tokens (9 ∷ [])) own_address;
      held = token_held;
    }
