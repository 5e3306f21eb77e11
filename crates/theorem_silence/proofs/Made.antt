-- The stations that the calls of Scripts make, stage by stage. What does not depend on the ring is computed for every ring; the ring
-- is told by its members.
use Rattle.std.specs.Prelude.{ℕ, zero, suc, ◌+◌, ◌*◌, ◌/◌, ◌%◌, ◌^◌, ◌≤◌, ◌<◌, true, not, ◌≡◌, refl, List, [], ◌∷◌, ◌++◌, eqb}
use Rattle.std.proofs.Common.{ap, ◌∙◌, lit<, arith, lt-ltb, eq-eqb, ne_eqb}
use Rattle.std.proofs.lemmas.Bool.{lt-leb}
use Rattle.codec_fields.specs.Fields.{field_of, be_from, load_of, zeros_or14}
use Rattle.bit_times.specs.Times.{rounded, time_of}
use Rattle.settings.specs.Settings.{slot_time_of, token_lost_of, rotation_time_of}
use Rattle.ring_addresses.specs.Set.{walk, nearest, between_of, keeps, same_set}
use Rattle.ring_addresses.specs.SetLaws.{same_then}
use Rattle.ring.specs.declared.GapState.{GapState}
use Rattle.ring_links.specs.Links.{listed, after_of, before_of, link_at, tab, links_of, link_of, unlink_of, behind_of, insert_of, sweep_of, relink_of, follows_of, confirms_of}
use Rattle.ring.specs.Ring.{Ring, has, make, fresh_of, round_of, laps_of, witness_of, claim_of, others, next_of, polls, candidate_of, gap_of, counted}
use Rattle.ring.specs.Laws.{SoundRing}
use Rattle.ring.proofs.Laws.{fresh_has, fresh_made, sound_fresh}
use Rattle.ring.specs.Worked.{witness_all, kept_after, addresses_only}
use Rattle.ring.proofs.Worked.{witnessed_own}
use Rattle.codec_telegrams.specs.declared.Telegram.TheVariants as telegram
use Rattle.codec_telegrams.specs.Words as words
use Rattle.codec_decisions.specs.Decisions as decisions
use Rattle.codec_records.specs.declared.Head.{Head}
use Rattle.codec_records.specs.Records as records
use Rattle.station.specs.declared.state.State.{State}
use Rattle.station.specs.declared.parts.Core.{Core}
use Rattle.station.specs.declared.station.Station.{Station}
use Rattle.station.specs.Parts.{fresh_station, fresh_core, with_activity, with_gap, with_pending, with_token_times, with_next_application, with_connectivity, is_offline}
use Rattle.station.specs.Steps as steps
use Rattle.station_hear_listen.specs.HearListen as hear
use Rattle.station_hear_active.specs.HearActive as active
use Rattle.station_listen.specs.Listen as listening
use Rattle.station_hold.specs.Hold as holding
use Rattle.station_pass.specs.Pass as passing
use Rattle.station_await_status.specs.AwaitStatus as status
use Rattle.station_claim.specs.Claim as claiming
use Rattle.station_answer.specs.Answer.{Polled}
use Rattle.station_answer.specs.Counted.{raised_by, counted_of}
use Rattle.station_answer.specs.Answer as answering
use Rattle.station_command.specs.Command as commands
use Rattle.station_poll.specs.Poll as polling
use Rattle.theorem_sound.specs.Sound.{Call, poll, after, run}
use Rattle.theorem_silence.specs.Rings.{members_of}
use Rattle.theorem_silence.specs.Scripts.{token, declines, record_of, poll_silent, lowest, hears_all, begins_question}
use Rattle.theorem_silence.specs.Made.{lowest_with, core_at, pass_question, awaits_one, begun_look, ring_all, ring_alone, begun_question, ring_but_one, FirstRuns, Members, SaysToken, Claimed, OneAnswers}

-- The stations on the way, each with any ring.

-- a station by its state, its core and whatever ring it has
by_parts : (s : Station) (claimed met : ℕ) (x : State) (c : Core) → s.state ≡ x → s.core ≡ c → s.p ≡ lowest → s.counts ≡ record { claims = claimed; removals = 0; meetings = met } → s.applications ≡ 1 → s ≡ lowest_with claimed met x c s.token_ring
by_parts s claimed met x c state core p counts applications = λ i. record { state = state i; core = core i; token_ring = s.token_ring; p = p i; counts = counts i; applications = applications i }

-- no call changes nothing, and a run goes on where the one before it ended
pub calls_none : (s : Station) → run s [] ≡ s
unfolding run
calls_none s = refl

pub calls_on : (cs ds : List Call) (s : Station) → run s (cs ++ ds) ≡ run (run s cs) ds
unfolding run
calls_on [] ds s = refl
calls_on (c ∷ cs) ds s = calls_on cs ds (after s c)

-- The start, and who is heard.

pub first_runs : FirstRuns
unfolding walk nearest between_of same_set round_of laps_of listed after_of before_of link_at tab links_of link_of unlink_of behind_of insert_of sweep_of relink_of follows_of confirms_of counted has make fresh_of witness_of claim_of others next_of rounded time_of slot_time_of token_lost_of rotation_time_of with_activity with_gap with_pending with_token_times with_next_application with_connectivity is_offline after run field_of be_from load_of zeros_or14 words.response_state_of words.telegram_refusal words.telegram_of decisions.length_refusal decisions.decision_refusal decisions.decision_of records.head_of records.telegram_at records.decision_at records.entry_refusal records.words_refusal records.record_refusal steps.known_at steps.elapsed_of steps.waited_of steps.marked_at steps.busy_of steps.ongoing_of steps.bus_activity_of steps.done_of polling.connected_of polling.entered_of polling.dispatch_of polling.poll_online polling.poll_inner polling.accepted_after polling.accepted_poll polling.poll_of raised_by counted_of answering.polled_of steps.rx_of steps.token_lost_wait_of steps.heard_of hear.sent_by_us hear.noted_of hear.witnessed_of hear.overheard_of steps.collision_of hear.listen_heard hear.listen_telegram listening.heard_telegram listening.heard_all listening.received_all listening.met_too listening.met_in listening.meetings_of listening.consumed_all listening.listen_token_on listening.handle_lost_token listening.listen_token_of steps.pause_of steps.sent_at steps.transmit_of steps.with_event steps.with_token_time claiming.claim_next claiming.claim_token_of holding.declines_on holding.declines_at holding.use_pass_of holding.app_transmit_of holding.first_or holding.turn_of holding.asked_from holding.asked_of holding.hold_less holding.capped holding.end_of holding.hold_end_of holding.holds_of holding.use_apps_after holding.use_apps_of holding.use_token_timed holding.use_token_of passing.gap_advanced passing.pass_sent_on passing.pass_send passing.pass_poll_on passing.pass_poll passing.pass_token_of fresh_station fresh_core commands.online_of commands.connect_of holding.valid_response holding.received_of holding.await_data_of listening.active_idle_on listening.active_idle_of active.active_collided active.token_heard active.active_heard active.handle_telegram
first_runs =
    record {
      look = refl;
      heard_all = by_parts (run begun_look (hears_all 100 1 7)) _ _ _ _ refl refl refl refl refl;
      question = by_parts (run (fresh_station lowest 1) begins_question) _ _ _ _ refl refl refl refl refl;
      heard_but_one = by_parts (run begun_question (hears_all 4200 2 6)) _ _ _ _ refl refl refl refl refl;
    }

-- and their rings: after the passes that were heard
abbrev passes_from : ℕ → ℕ → List (ℕ × ℕ)
passes_from a zero = []
passes_from a (suc n) = (a % 126, (a + 1) % 126) ∷ passes_from (a + 2) n

record Witnessed : Type 0 where
  pub all : ring_all ≡ witness_all (fresh_of 0) (passes_from 1 63)
  pub but_one : ring_but_one ≡ witness_all ring_alone (passes_from 2 62)

witnessed : Witnessed
unfolding rounded time_of slot_time_of token_lost_of rotation_time_of with_activity with_gap with_pending with_token_times with_next_application with_connectivity is_offline after run field_of be_from load_of zeros_or14 words.response_state_of words.telegram_refusal words.telegram_of decisions.length_refusal decisions.decision_refusal decisions.decision_of records.head_of records.telegram_at records.decision_at records.entry_refusal records.words_refusal records.record_refusal steps.known_at steps.elapsed_of steps.waited_of steps.marked_at steps.busy_of steps.ongoing_of steps.bus_activity_of steps.done_of polling.connected_of polling.entered_of polling.dispatch_of polling.poll_online polling.poll_inner polling.accepted_after polling.accepted_poll polling.poll_of raised_by counted_of answering.polled_of steps.rx_of steps.token_lost_wait_of steps.heard_of hear.sent_by_us hear.noted_of hear.witnessed_of hear.overheard_of steps.collision_of hear.listen_heard hear.listen_telegram listening.heard_telegram listening.heard_all listening.received_all listening.met_too listening.met_in listening.meetings_of listening.consumed_all listening.listen_token_on listening.handle_lost_token listening.listen_token_of steps.pause_of steps.sent_at steps.transmit_of steps.with_event steps.with_token_time claiming.claim_next claiming.claim_token_of holding.declines_on holding.declines_at holding.use_pass_of holding.app_transmit_of holding.first_or holding.turn_of holding.asked_from holding.asked_of holding.hold_less holding.capped holding.end_of holding.hold_end_of holding.holds_of holding.use_apps_after holding.use_apps_of holding.use_token_timed holding.use_token_of passing.gap_advanced passing.pass_sent_on passing.pass_send passing.pass_poll_on passing.pass_poll passing.pass_token_of fresh_station fresh_core commands.online_of commands.connect_of holding.valid_response holding.received_of holding.await_data_of listening.active_idle_on listening.active_idle_of active.active_collided active.token_heard active.active_heard active.handle_telegram
witnessed = record { all = refl; but_one = refl }

-- whom these passes keep, and the members of the ring that heard nobody
record Tested : Type 0 where
  pub all : same_set (λ (x : ℕ). kept_after 0 (eqb x 0) (passes_from 1 63) x) (λ (x : ℕ). true) 126 ≡ true
  pub all_low : addresses_only (passes_from 1 63) ≡ true
  pub but_one : same_set (λ (x : ℕ). kept_after 0 (eqb x 0) (passes_from 2 62) x) (λ (x : ℕ). not (eqb x 1)) 126 ≡ true
  pub but_one_low : addresses_only (passes_from 2 62) ≡ true
  pub alone : same_set (has ring_alone) (λ (x : ℕ). eqb x 0) 126 ≡ true
  pub own_alone : ring_alone.own ≡ 0

tested : Tested
unfolding walk nearest between_of keeps same_set round_of laps_of listed after_of before_of link_at tab links_of link_of unlink_of behind_of insert_of sweep_of relink_of follows_of confirms_of counted has make fresh_of witness_of claim_of others next_of rounded time_of slot_time_of token_lost_of rotation_time_of with_activity with_gap with_pending with_token_times with_next_application with_connectivity is_offline after run field_of be_from load_of zeros_or14 words.response_state_of words.telegram_refusal words.telegram_of decisions.length_refusal decisions.decision_refusal decisions.decision_of records.head_of records.telegram_at records.decision_at records.entry_refusal records.words_refusal records.record_refusal steps.known_at steps.elapsed_of steps.waited_of steps.marked_at steps.busy_of steps.ongoing_of steps.bus_activity_of steps.done_of polling.connected_of polling.entered_of polling.dispatch_of polling.poll_online polling.poll_inner polling.accepted_after polling.accepted_poll polling.poll_of raised_by counted_of answering.polled_of steps.rx_of steps.token_lost_wait_of steps.heard_of hear.sent_by_us hear.noted_of hear.witnessed_of hear.overheard_of steps.collision_of hear.listen_heard hear.listen_telegram listening.heard_telegram listening.heard_all listening.received_all listening.met_too listening.met_in listening.meetings_of listening.consumed_all listening.listen_token_on listening.handle_lost_token listening.listen_token_of steps.pause_of steps.sent_at steps.transmit_of steps.with_event steps.with_token_time claiming.claim_next claiming.claim_token_of holding.declines_on holding.declines_at holding.use_pass_of holding.app_transmit_of holding.first_or holding.turn_of holding.asked_from holding.asked_of holding.hold_less holding.capped holding.end_of holding.hold_end_of holding.holds_of holding.use_apps_after holding.use_apps_of holding.use_token_timed holding.use_token_of passing.gap_advanced passing.pass_sent_on passing.pass_send passing.pass_poll_on passing.pass_poll passing.pass_token_of fresh_station fresh_core commands.online_of commands.connect_of holding.valid_response holding.received_of holding.await_data_of listening.active_idle_on listening.active_idle_of active.active_collided active.token_heard active.active_heard active.handle_telegram
tested = record { all = refl; all_low = refl; but_one = refl; but_one_low = refl; alone = refl; own_alone = refl }

-- the rings' members; the ring that heard nobody is sound, as all that calls make
pub members_if : SoundRing ring_alone → Members
members_if sound =
    let alone = same_then (has ring_alone) (λ (x : ℕ). eqb x 0) 126 tested.alone in
    record {
      all = λ x l. ap (λ (r : Ring). has r x) witnessed.all ∙ members_of (passes_from 1 63) (fresh_of 0) (λ (y : ℕ). eqb y 0) (λ (y : ℕ). true) (sound_fresh 0 (lit< tt)) (fresh_made 0).own_is (fresh_has 0) tested.all_low tested.all x l;
      alone = alone;
      but_one = λ x l. ap (λ (r : Ring). has r x) witnessed.but_one ∙ members_of (passes_from 2 62) ring_alone (λ (y : ℕ). eqb y 0) (λ (y : ℕ). not (eqb y 1)) sound tested.own_alone alone tested.but_one_low tested.but_one x l;
      own_all = ap (λ (r : Ring). r.own) witnessed.all ∙ witnessed_own (passes_from 1 63) (fresh_of 0) ∙ (fresh_made 0).own_is;
      own_alone = tested.own_alone;
      own_but_one = ap (λ (r : Ring). r.own) witnessed.but_one ∙ witnessed_own (passes_from 2 62) ring_alone ∙ tested.own_alone;
    }

-- The token from k to us.

tokens_same : (d s k : ℕ) → d ≡ 0 → s ≡ k → telegram.Token d s ≡ telegram.Token 0 k
tokens_same d s k a b = cc

-- the word of such a token
token_word : (k : ℕ) → k < 128 → (words.telegram_refusal (k * 65536) ≡ 0) × (words.telegram_of (k * 65536) ≡ telegram.Token 0 k)
unfolding words.telegram_refusal words.telegram_of zeros_or14 field_of
token_word k l = (
  rw (lt-leb (2 ^ 32) (k * 65536) (omega arith), eq-eqb (k * 65536 / 2 ^ 30 % 2 ^ 2) 0 (omega arith), eq-eqb (k * 65536 / 2 ^ 15 % 2 ^ 1) 0 (omega arith), eq-eqb (k * 65536 / 2 ^ 13 % 2 ^ 2) 0 (omega arith), eq-eqb (k * 65536 / 2 ^ 9 % 2 ^ 4) 0 (omega arith), eq-eqb (k * 65536 / 2 ^ 0 % 2 ^ 9) 0 (omega arith)),
  rw (eq-eqb (k * 65536 / 2 ^ 30 % 2 ^ 2) 0 (omega arith)) (tokens_same (k * 65536 / 2 ^ 23 % 2 ^ 7) (k * 65536 / 2 ^ 16 % 2 ^ 7) k (omega arith) (omega arith)),
)

word_of : (k : ℕ) → ((0 + (0 + k)) * 256 + 0) * 256 + 0 ≡ k * 65536
word_of k = omega arith

pub says_token : (k : ℕ) → k < 128 → SaysToken (record_of 900 declines (token k 0 ∷ [])) 900 k × SaysToken (record_of 5000 declines (token k 0 ∷ [])) 5000 k
unfolding field_of be_from load_of zeros_or14 decisions.length_refusal decisions.decision_refusal records.head_of records.telegram_at records.entry_refusal records.words_refusal records.record_refusal
says_token k l =
    let refused = ap words.telegram_refusal (word_of k) ∙ (token_word k l).0 in
    let told = ap words.telegram_of (word_of k) ∙ (token_word k l).1 in
    (record { accepted = refused; head = refl; telegram = told }, record { accepted = refused; head = refl; telegram = told })

-- an accepted record, by its first 64 bits
by_head : (s : Station) (bytes : List ℕ) (head : Head) → records.record_refusal bytes s.applications ≡ 0 → records.head_of bytes ≡ head → polling.poll_of s bytes ≡ polling.accepted_after s bytes head
unfolding polling.poll_of polling.accepted_poll
by_head s bytes head e h = rw e (ap (polling.accepted_after s bytes) h)

-- it is witnessed, and else only the last activity changes
pub cut_heard : (bytes : List ℕ) (clock k : ℕ) → SaysToken bytes clock k → 1 ≤ k → (claimed met time hold last : ℕ) (gap : GapState) (r : Ring) → last < clock → clock < last + 2400 → run (lowest_with claimed met steps.to_listen_token (core_at time hold last gap) r) (poll bytes ∷ []) ≡ lowest_with claimed met steps.to_listen_token (core_at time hold clock gap) (witness_of r k 0)
unfolding rounded time_of slot_time_of token_lost_of rotation_time_of with_activity with_gap with_pending with_token_times with_next_application with_connectivity is_offline after run steps.known_at steps.elapsed_of steps.waited_of steps.marked_at steps.busy_of steps.ongoing_of steps.bus_activity_of steps.done_of polling.connected_of polling.entered_of polling.dispatch_of polling.poll_online polling.poll_inner polling.accepted_after polling.accepted_poll polling.poll_of raised_by counted_of answering.polled_of steps.rx_of steps.token_lost_wait_of steps.heard_of steps.collision_of hear.sent_by_us hear.noted_of hear.witnessed_of hear.overheard_of hear.listen_heard hear.listen_telegram listening.heard_telegram listening.heard_all listening.received_all listening.met_too listening.met_in listening.meetings_of listening.consumed_all listening.listen_token_on listening.handle_lost_token listening.listen_token_of
cut_heard bytes clock k said l claimed met time hold last gap r later soon =
    let s = lowest_with claimed met steps.to_listen_token (core_at time hold last gap) r in
    ap (λ (x : Polled). x.station) (by_head s bytes _ said.accepted said.head)
    ∙ rw (lt-leb clock last later, lt-leb (last + 2400) clock soon, said.telegram, ne_eqb k 0 (λ e. omega arith), lt-ltb last clock later)

-- What follows does not look at the ring but for the question.

pub claimed : (r : Ring) → Claimed r
unfolding rounded time_of slot_time_of token_lost_of rotation_time_of with_activity with_gap with_pending with_token_times with_next_application with_connectivity is_offline after run field_of be_from load_of zeros_or14 words.response_state_of words.telegram_refusal words.telegram_of decisions.length_refusal decisions.decision_refusal decisions.decision_of records.head_of records.telegram_at records.decision_at records.entry_refusal records.words_refusal records.record_refusal steps.known_at steps.elapsed_of steps.waited_of steps.marked_at steps.busy_of steps.ongoing_of steps.bus_activity_of steps.done_of polling.connected_of polling.entered_of polling.dispatch_of polling.poll_online polling.poll_inner polling.accepted_after polling.accepted_poll polling.poll_of raised_by counted_of answering.polled_of steps.rx_of steps.token_lost_wait_of steps.heard_of hear.sent_by_us hear.noted_of hear.witnessed_of hear.overheard_of steps.collision_of hear.listen_heard hear.listen_telegram listening.heard_telegram listening.heard_all listening.received_all listening.met_too listening.met_in listening.meetings_of listening.consumed_all listening.listen_token_on listening.handle_lost_token listening.listen_token_of steps.pause_of steps.sent_at steps.transmit_of steps.with_event steps.with_token_time claiming.claim_next claiming.claim_token_of holding.declines_on holding.declines_at holding.use_pass_of holding.app_transmit_of holding.first_or holding.turn_of holding.asked_from holding.asked_of holding.hold_less holding.capped holding.end_of holding.hold_end_of holding.holds_of holding.use_apps_after holding.use_apps_of holding.use_token_timed holding.use_token_of
claimed r = record { look_none = refl; look_heard = refl; question_none = refl; question_heard = refl }

-- 1 is asked, where the ring has it polled; and it answers: in the ring, or not ready
pub one_gets_asked : (r : Ring) → polls r 1 ≡ true → run (pass_question r) (poll_silent 8000 ∷ []) ≡ awaits_one r
unfolding rounded time_of slot_time_of token_lost_of rotation_time_of with_activity with_gap with_pending with_token_times with_next_application with_connectivity is_offline after run field_of be_from load_of zeros_or14 words.response_state_of words.telegram_refusal words.telegram_of decisions.length_refusal decisions.decision_refusal decisions.decision_of records.head_of records.telegram_at records.decision_at records.entry_refusal records.words_refusal records.record_refusal steps.known_at steps.elapsed_of steps.waited_of steps.marked_at steps.busy_of steps.ongoing_of steps.bus_activity_of steps.done_of polling.connected_of polling.entered_of polling.dispatch_of polling.poll_online polling.poll_inner polling.accepted_after polling.accepted_poll polling.poll_of raised_by counted_of answering.polled_of steps.pause_of steps.sent_at steps.transmit_of steps.with_event steps.with_token_time claiming.claim_next claiming.claim_token_of passing.gap_advanced passing.pass_sent_on passing.pass_send passing.pass_poll_on passing.pass_poll passing.pass_token_of gap_of candidate_of status.status_ring_on status.status_ring status.status_answered status.status_received status.await_status_of
one_gets_asked r e = rw e

pub one_answers : (r : Ring) → OneAnswers r
unfolding rounded time_of slot_time_of token_lost_of rotation_time_of with_activity with_gap with_pending with_token_times with_next_application with_connectivity is_offline after run field_of be_from load_of zeros_or14 words.response_state_of words.telegram_refusal words.telegram_of decisions.length_refusal decisions.decision_refusal decisions.decision_of records.head_of records.telegram_at records.decision_at records.entry_refusal records.words_refusal records.record_refusal steps.known_at steps.elapsed_of steps.waited_of steps.marked_at steps.busy_of steps.ongoing_of steps.bus_activity_of steps.done_of polling.connected_of polling.entered_of polling.dispatch_of polling.poll_online polling.poll_inner polling.accepted_after polling.accepted_poll polling.poll_of raised_by counted_of answering.polled_of steps.rx_of gap_of candidate_of status.status_ring_on status.status_ring status.status_answered status.status_received status.await_status_of
one_answers r = record { in_ring = refl; not_ready = refl }
