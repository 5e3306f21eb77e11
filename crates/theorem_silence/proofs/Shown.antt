-- The premises of Silence are met, and its bound is sharp, for every number of others and with the gap flag both ways, by stations that
-- calls make; and the letter's case by the clock.
use Rattle.std.specs.Prelude.{ℕ, zero, suc, ◌+◌, ◌*◌, ◌^◌, ◌<◌, ◌≤◌, Bool, true, false, ◌||◌, ◌≡◌, refl, List, [], ◌∷◌, ◌++◌, eqb, leb}
use Rattle.std.proofs.Common.{sym, ap, subst, ◌∙◌, arith, eq-eqb, ne_eqb, leb-true, leb-false}
use Rattle.std.proofs.lemmas.Bool.{lt-leb}
use borrow.Table.Steps.{cases}
use Rattle.codec_fields.specs.Fields.{field_of, zeros_or14, be_from, load_of}
use Rattle.bit_times.specs.Times.{baud_of, rounded, time_of}
use Rattle.settings.specs.declared.parameters.Parameters.{Parameters}
use Rattle.settings_rules.specs.Rules.{refuse_below, refuse_outside, address_refusal, baud_refusal, slot_bits_refusal, hsa_refusal, rotation_refusal, room_refusal, gap_wait_refusal, retry_refusal, min_tsdr_refusal, factors_refusal, applications_refusal}
use Rattle.settings.specs.Settings.{slot_time_of, token_lost_of, rotation_time_of}
use Rattle.settings_build.specs.Build.{early_refusal, first_refusal, plain_of}
use Rattle.ring_addresses.specs.Set.{walk, nearest, between_of}
use Rattle.ring.specs.declared.GapState.{GapState}
use Rattle.ring.specs.declared.GapState.TheVariants.{Waiting, DoPoll}
use Rattle.ring_links.specs.Links.{listed, after_of, before_of, link_at, tab, links_of, link_of, unlink_of, behind_of, insert_of, sweep_of, relink_of, follows_of, confirms_of}
use Rattle.ring.specs.Ring.{Ring, polls, has, make, others, remove_of, fresh_of, round_of, laps_of, witness_of, claim_of, add_of, next_of, prev_of}
use Rattle.ring.specs.Ring as rings
use Rattle.ring.specs.Laws.{SoundRing}
use Rattle.ring.proofs.Laws.{claim_has, claim_own, add_has, add_own, fresh_has, fresh_made, witness_own, sound_claim, sound_witness}
use Rattle.ring.proofs.Examples.{heard_nine}
use Rattle.codec_telegrams.specs.Words as words
use Rattle.codec_decisions.specs.Decisions as decisions
use Rattle.codec_records.specs.declared.Head.{Head}
use Rattle.codec_records.specs.Records as records
use Rattle.station.specs.declared.state.PassTokenAttempt.TheVariants.{First}
use Rattle.station.specs.declared.state.State.TheVariants.{PassToken}
use Rattle.station.specs.declared.station.Station.{Station}
use Rattle.station.specs.Parts.{fresh_station, fresh_core, with_activity, with_gap, with_pending, with_token_times, with_next_application, with_connectivity, is_offline}
use Rattle.station.specs.Steps as steps
use Rattle.station_hear_listen.specs.HearListen as hear
use Rattle.station_listen.specs.Listen as listening
use Rattle.station_hold.specs.Hold as holding
use Rattle.station_pass.specs.Pass as passing
use Rattle.station_check_pass.specs.CheckPass as checking
use Rattle.station_claim.specs.Claim as claiming
use Rattle.station_answer.specs.Counted.{raised_by, counted_of}
use Rattle.station_answer.specs.Answer as answering
use Rattle.station_command.specs.Command as commands
use Rattle.station_poll.specs.Poll as polling
use Rattle.theorem_sound.specs.Sound.{Call, after, run, SoundStation}
use Rattle.theorem_sound.proofs.Sound as of_calls
use Rattle.theorem_silence.specs.Silence.{Quiet, gap_due, slot_after, counted, counted_in}
use Rattle.theorem_silence.specs.Letter.{sent_in}
use Rattle.theorem_silence.specs.Calls.{ByCalls, sound_of_calls, start_of_calls}
use Rattle.theorem_silence.specs.Sharp.{turn_time}
use Rattle.theorem_silence.proofs.Sharp.{sharp}
use Rattle.theorem_silence.specs.Scripts.{poll_hearing, poll_silent, claims, lowest, hears_all, hears_cut, begins_look, others_look, response_of1, answer_type, begins_question, others_question, asks_one, calls_for}
use Rattle.theorem_silence.specs.PremisesMet.{Met, PremisesMet}
use Rattle.theorem_silence.specs.Rings.{UpTo, others_up_to, cut_all, cut_added, one_out, one_asked}
use Rattle.theorem_silence.proofs.OnePoll.{no_gap}
use Rattle.theorem_silence.specs.Made.{listens_look, lowest_with, core_at, pass_look, pass_question, awaits_one, pass_answered, begun_look, ring_all, ring_alone, begun_question, ring_but_one, Members}
use Rattle.theorem_silence.proofs.Made.{calls_none, calls_on, first_runs, members_if, says_token, cut_heard, claimed, one_gets_asked, one_answers}
use Rattle.theorem_silence.specs.Shown.{ring_of, heard_at, before_one, here, letter_calls, letter_station, five, LetterRun, with_ring, ring_nine}

-- with accepted settings and one application there is a new station, and calls make others of it
one_accepted : applications_refusal 1 ≡ 0
unfolding applications_refusal refuse_outside
one_accepted = refl

pub made_by : (p : Parameters) (cs : List Call) (s : Station) → first_refusal (plain_of p) ≡ 0 → run (fresh_station p 1) cs ≡ s → ByCalls s
made_by p cs s e m = record { settings = p; applications = 1; accepted = e; number_accepted = one_accepted; calls = cs; makes = m }

pub lowest_accepted : first_refusal (plain_of lowest) ≡ 0
unfolding first_refusal early_refusal plain_of refuse_below refuse_outside address_refusal baud_refusal slot_bits_refusal hsa_refusal rotation_refusal room_refusal gap_wait_refusal retry_refusal min_tsdr_refusal factors_refusal baud_of
lowest_accepted = refl

-- 3k + 1 turns of such a station end well before the clock does
room : (k last : ℕ) → k ≤ 125 → last ≤ 9000 → last + (slot_time_of lowest).0 + (3 * k + 1) * turn_time lowest < 2 ^ 48
unfolding slot_time_of time_of rounded
room k last h l = omega arith

-- a core that starts a token pass, and a ring with the members 0, 1, .. k: the premises are met
met_by : (k : ℕ) (gap : Bool) (claimed met time hold last : ℕ) (turn : GapState) (r : Ring) (cs : List Call) → k ≤ 125 → last ≤ 9000 → run (fresh_station lowest 1) cs ≡ lowest_with claimed met (PassToken gap First) (core_at time hold last turn) r → gap_due lowest (core_at time hold last turn) r gap ≡ false → r.own ≡ 0 → UpTo r k → Met k gap
met_by k gap claimed met time hold last turn r cs h l makes due own members =
    let s = lowest_with claimed met (PassToken gap First) (core_at time hold last turn) r in
    let calls = made_by lowest cs s lowest_accepted makes in
    let starts = start_of_calls s calls refl gap refl due in
    let size = others_up_to r k own h members in
    record { station = s; by_calls = calls; starts = starts; size = size; flag = refl; is_sharp = sharp s (record { 0 = last }) starts refl (rw size (room k last h l)) }

-- What calls make is sound, and so are the rings that heard the others: hence their members.
sound_by : (cs : List Call) → SoundStation (run (fresh_station lowest 1) cs)
sound_by cs = sound_of_calls (run (fresh_station lowest 1) cs) (made_by lowest cs (run (fresh_station lowest 1) cs) lowest_accepted refl)

sound_all : SoundRing ring_all
sound_all = (of_calls.sound (hears_all 100 1 7) begun_look (subst SoundStation first_runs.look (sound_by begins_look))).ring_sound

sound_heard : SoundRing ring_but_one
sound_heard = (of_calls.sound (hears_all 4200 2 6) begun_question (subst SoundStation first_runs.question (sound_by begins_question))).ring_sound

members : Members
members = members_if (sound_by begins_question).ring_sound

-- With the look at the gap.

-- of the ring, once the others are heard: its members and its own
only_zero : (x : ℕ) → eqb x 0 ≡ leb x 0
only_zero x = cases (leb x 0) (λ t. eq-eqb x 0 (omega (arith, leb-true x 0 t)) ∙ sym t) (λ f. ne_eqb x 0 (λ e. omega (arith, leb-false x 0 f)) ∙ sym f)

pub members_look : (k : ℕ) → k ≤ 125 → UpTo (ring_of k) k
members_look zero l x m = fresh_has 0 x m ∙ only_zero x
members_look (suc k) l x m = cut_all ring_all (suc k) sound_all members.own_all (omega arith) l members.all x m

pub own_of : (k : ℕ) → (ring_of k).own ≡ 0
own_of zero = (fresh_made 0).own_is
own_of (suc k) = witness_own ring_all (suc k) 0 ∙ members.own_all

-- claiming twice changes no member, and not own
pub claimed_has : (r : Ring) (x : ℕ) → has (claim_of (claim_of r)) x ≡ has r x
claimed_has r x = claim_has (claim_of r) x ∙ claim_has r x

pub claimed_own : (r : Ring) → (claim_of (claim_of r)).own ≡ r.own
claimed_own r = claim_own (claim_of r) ∙ claim_own r

-- the calls make a station that listens, when it has heard the others
pub made_listens : (k : ℕ) → k ≤ 125 → run (fresh_station lowest 1) (begins_look ++ others_look k) ≡ listens_look (heard_at k) (ring_of k)
made_listens k l = calls_on begins_look (others_look k) (fresh_station lowest 1) ∙ ap (λ (s : Station). run s (others_look k)) first_runs.look ∙ go k l
  where
    go : (k : ℕ) → k ≤ 125 → run begun_look (others_look k) ≡ listens_look (heard_at k) (ring_of k)
    go zero l = calls_none begun_look
    go (suc k) l =
        let cut = hears_cut 900 (suc k) ∷ [] in
        calls_on (hears_all 100 1 7) cut begun_look
        ∙ ap (λ (s : Station). run s cut) first_runs.heard_all
        ∙ cut_heard _ 900 (suc k) (says_token (suc k) (omega arith)).0 (omega arith) 0 0 0 0 800 (Waiting 0) ring_all (omega arith) (omega arith)

-- and more calls go on from there
pub made_on : (k : ℕ) → k ≤ 125 → (cs : List Call) → run (fresh_station lowest 1) ((begins_look ++ others_look k) ++ cs) ≡ run (listens_look (heard_at k) (ring_of k)) cs
made_on k l cs = calls_on (begins_look ++ others_look k) cs (fresh_station lowest 1) ∙ ap (λ (s : Station). run s cs) (made_listens k l)

-- so the token pass
pub made_look : (k : ℕ) → k ≤ 125 → run (fresh_station lowest 1) (calls_for k true) ≡ pass_look (claim_of (claim_of (ring_of k)))
made_look k l = made_on k l (claims 3300) ∙ go k
  where
    go : (k : ℕ) → run (listens_look (heard_at k) (ring_of k)) (claims 3300) ≡ pass_look (claim_of (claim_of (ring_of k)))
    go zero = (claimed (fresh_of 0)).look_none
    go (suc k) = (claimed (witness_of ring_all (suc k) 0)).look_heard

-- no question is due: the count is 0
pub no_question : (r : Ring) → gap_due lowest (pass_look r).core r true ≡ false
unfolding gap_due passing.gap_advanced
no_question r = refl

met_look : (k : ℕ) → k ≤ 125 → Met k true
met_look k l =
    let r = claim_of (claim_of (ring_of k)) in
    met_by k true 1 0 3500 64872 3566 (Waiting 0) r (calls_for k true) l (omega arith) (made_look k l) (no_question r) (claimed_own (ring_of k) ∙ own_of k)
    (λ x m. claimed_has (ring_of k) x ∙ members_look k l x m)

-- Without it: after a gap question.

-- of the ring, once the others but 1 are heard: its own, and that 1 is no member
pub own_before : (k : ℕ) → (before_one k).own ≡ 0
own_before zero = members.own_alone
own_before (suc zero) = members.own_alone
own_before (suc (suc k)) = witness_own ring_but_one (suc (suc k)) 0 ∙ members.own_but_one

pub one_absent : (k : ℕ) → k ≤ 125 → has (before_one k) 1 ≡ false
one_absent zero l = members.alone 1 (omega arith)
one_absent (suc zero) l = members.alone 1 (omega arith)
one_absent (suc (suc k)) l = one_out ring_but_one (suc (suc k)) sound_heard (omega arith) l (members.but_one 1 (omega arith))

-- and so are these
sound_before : (k : ℕ) → SoundRing (before_one k)
sound_before zero = (sound_by begins_question).ring_sound
sound_before (suc zero) = (sound_by begins_question).ring_sound
sound_before (suc (suc k)) = sound_witness ring_but_one (suc (suc k)) 0 sound_heard

-- the ring, once 1 has answered
abbrev after_one : ℕ → Ring
after_one zero = claim_of (claim_of (before_one zero))
after_one (suc k) = add_of (claim_of (claim_of (before_one (suc k)))) 1

-- its own and its members
own_after : (k : ℕ) → (after_one k).own ≡ 0
own_after zero = claimed_own ring_alone ∙ members.own_alone
own_after (suc k) = add_own (claim_of (claim_of (before_one (suc k)))) 1 ∙ claimed_own (before_one (suc k)) ∙ own_before (suc k)

zero_and_one : (x : ℕ) → (eqb x 1 || eqb x 0) ≡ leb x 1
zero_and_one zero = refl
zero_and_one (suc zero) = refl
zero_and_one (suc (suc x)) = rw (ne_eqb (suc (suc x)) 1 (λ e. omega arith), ne_eqb (suc (suc x)) 0 (λ e. omega arith), lt-leb (suc (suc x)) 1 (omega arith))

-- with 1 the ring that was heard has the members 0, 1, .. k
pub with_one : (k : ℕ) → suc k ≤ 125 → (x : ℕ) → x < 126 → (eqb x 1 || has (before_one (suc k)) x) ≡ leb x (suc k)
with_one zero l x m = ap (λ (b : Bool). eqb x 1 || b) (members.alone x m) ∙ zero_and_one x
with_one (suc k) l x m = cut_added ring_but_one (suc (suc k)) sound_heard members.own_but_one (omega arith) l members.but_one x m

members_question : (k : ℕ) → k ≤ 125 → UpTo (after_one k) k
members_question zero l x m = claimed_has ring_alone x ∙ members.alone x m ∙ only_zero x
members_question (suc k) l x m = add_has (claim_of (claim_of (before_one (suc k)))) 1 x (sound_claim (claim_of (before_one (suc k))) (sound_claim (before_one (suc k)) (sound_before (suc k)))) (omega arith) m ∙ ap (λ (b : Bool). eqb x 1 || b) (claimed_has (before_one (suc k)) x) ∙ with_one k l x m

-- the calls lead to a token pass with 1 to be asked
claims_due : (k : ℕ) → k ≤ 125 → run (run begun_question (others_question k)) (claims 7400) ≡ pass_question (claim_of (claim_of (before_one k)))
claims_due zero l = ap (λ (s : Station). run s (claims 7400)) (calls_none begun_question) ∙ (claimed ring_alone).question_none
claims_due (suc zero) l = ap (λ (s : Station). run s (claims 7400)) (calls_none begun_question) ∙ (claimed ring_alone).question_none
claims_due (suc (suc k)) l =
    let cut = hears_cut 5000 (suc (suc k)) ∷ [] in
    ap (λ (s : Station). run s (claims 7400))
    (calls_on (hears_all 4200 2 6) cut begun_question
    ∙ ap (λ (s : Station). run s cut) first_runs.heard_but_one
    ∙ cut_heard _ 5000 (suc (suc k)) (says_token (suc (suc k)) (omega arith)).1 (omega arith) 1 2 3400 67872 4900 (Waiting 2) ring_but_one (omega arith) (omega arith))
    ∙ (claimed (witness_of ring_but_one (suc (suc k)) 0)).question_heard

pub made_due : (k : ℕ) → k ≤ 125 → (cs : List Call) → run (fresh_station lowest 1) (begins_question ++ (others_question k ++ (claims 7400 ++ cs))) ≡ run (pass_question (claim_of (claim_of (before_one k)))) cs
made_due k l cs =
    calls_on begins_question (others_question k ++ (claims 7400 ++ cs)) (fresh_station lowest 1)
    ∙ ap (λ (s : Station). run s (others_question k ++ (claims 7400 ++ cs))) first_runs.question
    ∙ calls_on (others_question k) (claims 7400 ++ cs) begun_question
    ∙ calls_on (claims 7400) cs (run begun_question (others_question k))
    ∙ ap (λ (s : Station). run s cs) (claims_due k l)

-- it is: 1 is no member
pub one_due : (k : ℕ) → k ≤ 125 → polls (claim_of (claim_of (before_one k))) 1 ≡ true
one_due k l = one_asked (claim_of (claim_of (before_one k))) (sound_claim (claim_of (before_one k)) (sound_claim (before_one k) (sound_before k))) (claimed_own (before_one k) ∙ own_before k) (claimed_has (before_one k) 1 ∙ one_absent k l)

-- the calls make the station that was answered
made_question : (k : ℕ) → k ≤ 125 → run (fresh_station lowest 1) (calls_for k false) ≡ pass_answered (after_one k)
made_question k l =
    let r = claim_of (claim_of (before_one k)) in
    made_due k l (asks_one k)
    ∙ calls_on (poll_silent 8000 ∷ []) (poll_hearing 8300 (response_of1 (answer_type k) ∷ []) ∷ []) (pass_question r)
    ∙ ap (λ (s : Station). run s (poll_hearing 8300 (response_of1 (answer_type k) ∷ []) ∷ [])) (one_gets_asked r (one_due k l))
    ∙ answered_for k
  where
    answered_for : (k : ℕ) → run (awaits_one (claim_of (claim_of (before_one k)))) (poll_hearing 8300 (response_of1 (answer_type k) ∷ []) ∷ []) ≡ pass_answered (after_one k)
    answered_for zero = (one_answers (claim_of (claim_of ring_alone))).not_ready
    answered_for (suc k) = (one_answers (claim_of (claim_of (before_one (suc k))))).in_ring

met_question : (k : ℕ) → k ≤ 125 → Met k false
met_question k l = met_by k false 2 2 7600 68272 8300 (DoPoll 1) (after_one k) (calls_for k false) l (omega arith) (made_question k l) (no_gap lowest (pass_answered (after_one k)).core (after_one k)) (own_after k) (members_question k l)

-- for both flags
pub premises_met : PremisesMet
premises_met k l true = met_look k l
premises_met k l false = met_question k l

-- The letter's case, by the clock.

-- a silent record, told by its first 64 bits
quiet_at : {bytes : List ℕ} (clock : ℕ) → records.record_refusal bytes 1 ≡ 0 → records.head_of bytes ≡ record { clock = clock; pending = 0; telegrams = 0; transmitting = false } → Quiet 1 bytes
quiet_at clock e h =
    record { accepted = e; no_telegram = ap (λ (x : Head). x.telegrams) h; no_pending = ap (λ (x : Head). x.pending) h; no_transmission = ap (λ (x : Head). x.transmitting) h }

here_accepted : first_refusal (plain_of here) ≡ 0
unfolding first_refusal early_refusal plain_of refuse_below refuse_outside address_refusal baud_refusal slot_bits_refusal hsa_refusal rotation_refusal room_refusal gap_wait_refusal retry_refusal min_tsdr_refusal factors_refusal baud_of
here_accepted = refl

pub ring_is : (s : Station) (r : Ring) → s.token_ring ≡ r → s ≡ with_ring s r
ring_is s r e = ap (with_ring s) e

pub claimed_nine : claim_of (claim_of (witness_of (fresh_of 5) 9 5)) ≡ ring_nine
unfolding make claim_of
claimed_nine = ap (λ (r : Ring). claim_of (claim_of r)) heard_nine

letter_ring : letter_station.token_ring ≡ claim_of (claim_of (witness_of (fresh_of 5) 9 5))
unfolding field_of be_from load_of rounded time_of slot_time_of token_lost_of rotation_time_of prev_of fresh_station fresh_core with_activity with_gap with_pending with_token_times with_next_application with_connectivity is_offline after run zeros_or14 decisions.length_refusal words.response_state_of decisions.decision_refusal words.telegram_refusal words.telegram_of decisions.decision_of records.head_of records.telegram_at records.decision_at records.entry_refusal records.words_refusal records.record_refusal steps.known_at steps.elapsed_of steps.waited_of steps.marked_at steps.busy_of steps.ongoing_of steps.pause_of steps.sent_at steps.bus_activity_of steps.rx_of steps.slot_expired_of steps.token_lost_wait_of steps.done_of steps.transmit_of steps.with_event steps.heard_of hear.sent_by_us hear.noted_of hear.witnessed_of hear.overheard_of steps.collision_of hear.listen_heard hear.listen_telegram listening.heard_telegram listening.heard_all listening.received_all listening.met_too listening.met_in listening.meetings_of listening.consumed_all listening.listen_token_on listening.handle_lost_token listening.listen_token_of polling.connected_of polling.entered_of polling.dispatch_of polling.poll_online polling.poll_inner raised_by counted_of answering.polled_of polling.accepted_after polling.accepted_poll polling.poll_of commands.online_of commands.connect_of claiming.claim_next claiming.claim_token_of steps.with_token_time holding.declines_on holding.declines_at holding.use_pass_of holding.app_transmit_of holding.first_or holding.turn_of holding.asked_from holding.asked_of holding.hold_less holding.capped holding.end_of holding.hold_end_of holding.holds_of holding.use_apps_after holding.use_apps_of holding.use_token_timed holding.use_token_of passing.gap_advanced passing.pass_sent_on passing.pass_send passing.pass_poll_on passing.pass_poll passing.pass_token_of checking.removal_of checking.resend_of checking.check_received checking.check_token_pass_of counted counted_in slot_after sent_in answering.step_answer gap_due
letter_ring = refl

letter_is : letter_station ≡ with_ring letter_station ring_nine
letter_is = ring_is letter_station ring_nine (letter_ring ∙ claimed_nine)

-- worked out from the definitions
pub letter_run : LetterRun
unfolding field_of be_from load_of rounded time_of slot_time_of token_lost_of rotation_time_of walk nearest between_of round_of laps_of listed after_of before_of link_at tab links_of link_of unlink_of behind_of insert_of sweep_of relink_of follows_of confirms_of rings.counted has make others fresh_of witness_of claim_of next_of prev_of fresh_station fresh_core with_activity with_gap with_pending with_token_times with_next_application with_connectivity is_offline after run zeros_or14 decisions.length_refusal words.response_state_of decisions.decision_refusal words.telegram_refusal words.telegram_of decisions.decision_of records.head_of records.telegram_at records.decision_at records.entry_refusal records.words_refusal records.record_refusal steps.known_at steps.elapsed_of steps.waited_of steps.marked_at steps.busy_of steps.ongoing_of steps.pause_of steps.sent_at steps.bus_activity_of steps.rx_of steps.slot_expired_of steps.token_lost_wait_of steps.done_of steps.transmit_of steps.with_event steps.heard_of hear.sent_by_us hear.noted_of hear.witnessed_of hear.overheard_of steps.collision_of hear.listen_heard hear.listen_telegram listening.heard_telegram listening.heard_all listening.received_all listening.met_too listening.met_in listening.meetings_of listening.consumed_all listening.listen_token_on listening.handle_lost_token listening.listen_token_of polling.connected_of polling.entered_of polling.dispatch_of polling.poll_online polling.poll_inner raised_by counted_of answering.polled_of polling.accepted_after polling.accepted_poll polling.poll_of commands.online_of commands.connect_of claiming.claim_next claiming.claim_token_of steps.with_token_time holding.declines_on holding.declines_at holding.use_pass_of holding.app_transmit_of holding.first_or holding.turn_of holding.asked_from holding.asked_of holding.hold_less holding.capped holding.end_of holding.hold_end_of holding.holds_of holding.use_apps_after holding.use_apps_of holding.use_token_timed holding.use_token_of passing.gap_advanced passing.pass_sent_on passing.pass_send passing.pass_poll_on passing.pass_poll passing.pass_token_of checking.removal_of checking.resend_of checking.check_received checking.check_token_pass_of remove_of counted counted_in slot_after sent_in answering.step_answer gap_due
letter_run =
    record {
      starts = start_of_calls letter_station (made_by here letter_calls letter_station here_accepted refl) refl true refl refl;
      neighbour = ap others (letter_ring ∙ claimed_nine);
      quiet = (quiet_at 7266 refl refl, (quiet_at 7732 refl refl, (quiet_at 8198 refl refl, (quiet_at 8664 refl refl, (quiet_at 9130 refl refl, tt)))));
      all_counted = ap (λ (s : Station). counted_in s five) letter_is;
      sent = ap (λ (s : Station). sent_in s five) letter_is;
    }
