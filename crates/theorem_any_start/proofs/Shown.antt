-- The proof of PremisesMet: calls that lead a new station of address 0 to each state, with 1, .. k as its others (in PassToken with a
-- question due and in AwaitStatusResponse 2, .. k + 1). The calls up to ListenToken and PassToken are those of theorem_silence's Scripts.
use Rattle.std.specs.Prelude.{ℕ, zero, suc, ◌+◌, ◌*◌, ◌^◌, ◌≤◌, ◌<◌, true, false, ◌≡◌, refl, List, [], ◌∷◌, ◌++◌, length}
use Rattle.std.proofs.Common.{sym, ap, subst, ◌∙◌, arith}
use Rattle.codec_fields.specs.Fields.{field_of, be_from, load_of, zeros_or14}
use Rattle.bit_times.specs.Times.{rounded, time_of}
use Rattle.settings.specs.Settings.{slot_time_of, token_lost_of, rotation_time_of}
use Rattle.ring.specs.declared.GapState.TheVariants.{Waiting, DoPoll}
use Rattle.ring.specs.Ring.{Ring, claim_of, others, polls, candidate_of, gap_of, fresh_of}
use Rattle.ring.proofs.Laws.{others_claim, others_fresh}
use Rattle.codec_telegrams.specs.Words as words
use Rattle.codec_decisions.specs.Decisions as decisions
use Rattle.codec_records.specs.Records as records
use Rattle.station.specs.declared.state.PassTokenAttempt.TheVariants.{First}
use Rattle.station.specs.declared.state.State.TheVariants.{ClaimToken, PassToken}
use Rattle.station.specs.declared.station.Station.{Station}
use Rattle.station.specs.Parts.{fresh_station, fresh_core, state_number, with_activity, with_gap, with_pending, with_token_times, with_next_application, with_connectivity, is_offline}
use Rattle.station.specs.Steps as steps
use Rattle.station_listen.specs.Listen as listening
use Rattle.station_passive.specs.Passive as idling
use Rattle.station_hold.specs.Hold as holding
use Rattle.station_pass.specs.Pass as passing
use Rattle.station_claim.specs.Claim as claiming
use Rattle.station_answer.specs.Counted.{raised_by, counted_of}
use Rattle.station_answer.specs.Answer as answering
use Rattle.station_command.specs.Command as commands
use Rattle.station_poll.specs.Poll as polling
use Rattle.theorem_sound.specs.Keeps.{RingGood}
use Rattle.theorem_sound.specs.Sound.{Call, poll, after, run}
use Rattle.theorem_sound.proofs.Sound.{part_ring}
use Rattle.theorem_sound.specs.Sound as call
use Rattle.theorem_silence.specs.Silence.{Online, Quiet, slot_after, counted}
use Rattle.theorem_silence.specs.Times.{slotted}
use Rattle.theorem_silence.specs.Phases.{starting}
use Rattle.theorem_silence.specs.OnePoll.{At}
use Rattle.theorem_silence.proofs.Theorem.{counted_moves}
use Rattle.theorem_silence.specs.Calls.{sound_of_calls}
use Rattle.theorem_silence.specs.Scripts.{token, declines, expects_reply, record_of, poll_hearing, poll_silent, lowest, begins_look, others_look, begins_question, others_question, claims, calls_for}
use Rattle.theorem_silence.specs.Made.{lowest_with, core_at, listens_look, pass_look, pass_question, awaits_one}
use Rattle.theorem_silence.proofs.Made.{calls_none, calls_on, one_gets_asked}
use Rattle.theorem_silence.specs.Rings.{others_up_to, others_but_one}
use Rattle.theorem_silence.specs.Shown.{ring_of, heard_at, before_one}
use Rattle.theorem_silence.proofs.Shown.{made_by, lowest_accepted, members_look, own_of, made_listens, made_on, made_look, no_question, own_before, one_absent, with_one, made_due, one_due, premises_met}
use Rattle.theorem_any_start.specs.Sharp.{SharpAt, late_time}
use Rattle.theorem_any_start.proofs.Sharp.{sharp}
use Rattle.theorem_any_start.specs.PremisesMet.{Met, MetSharp, PremisesMet}
use Rattle.theorem_any_start.proofs.PremisesMet.{met_by_calls}

-- these calls make a station in this state with this ring
met_by : (number k : ℕ) (s : Station) (cs : List Call) → run (fresh_station lowest 1) cs ≡ s → Online s → state_number s.state ≡ number → (number ≡ 3 → ⊥) → (number ≡ 5 → ⊥) → length (others s.token_ring) ≡ k → Met number k
met_by number k s cs makes on state held reply size =
    let calls = made_by lowest cs s lowest_accepted makes in
    record { station = s; by_calls = calls; starts = met_by_calls s calls on (λ e. held (sym state ∙ e)) (λ e. reply (sym state ∙ e)); in_state = state; size = size }

-- Offline: no poll since the command.
abbrev went_online : Station
went_online = run (fresh_station lowest 1) (call.online ∷ [])

went : (Online went_online) × ((state_number went_online.state ≡ 0) × (went_online.token_ring ≡ fresh_of 0))
unfolding run after commands.online_of commands.connect_of fresh_station fresh_core with_connectivity steps.done_of answering.polled_of
went = (refl, (refl, refl))

met_offline : Met 0 0
met_offline = met_by 0 0 went_online (call.online ∷ []) refl went.0 went.1.0 (λ e. omega arith) (λ e. omega arith) (ap (λ (r : Ring). length (others r)) went.1.1 ∙ ap length (others_fresh 0 (omega arith)))

-- PassiveIdle: passive, a poll, and online with no poll since.
abbrev went_passive : List Call
went_passive = call.passive ∷ poll_silent 0 ∷ call.online ∷ []

abbrev back_online : Station
back_online = run (fresh_station lowest 1) went_passive

back : (Online back_online) × ((state_number back_online.state ≡ 9) × (back_online.token_ring ≡ fresh_of 0))
unfolding field_of be_from load_of zeros_or14 run after commands.online_of commands.passive_of commands.connect_of fresh_station fresh_core with_activity with_pending with_connectivity is_offline decisions.length_refusal decisions.decision_refusal decisions.decision_of records.head_of records.entry_refusal records.words_refusal records.record_refusal steps.busy_of steps.ongoing_of steps.bus_activity_of steps.done_of steps.heard_of listening.heard_all listening.received_all listening.meetings_of listening.consumed_all idling.passive_idle_of polling.passivated_of polling.entered_of polling.dispatch_of polling.poll_online polling.poll_inner polling.accepted_after polling.accepted_poll polling.poll_of answering.polled_of
back = (refl, (refl, refl))

met_passive : Met 9 0
met_passive = met_by 9 0 back_online went_passive refl back.0 back.1.0 (λ e. omega arith) (λ e. omega arith) (ap (λ (r : Ring). length (others r)) back.1.1 ∙ ap length (others_fresh 0 (omega arith)))

-- ListenToken: the others were heard. Claiming changes no member.
listens_size : (k : ℕ) → k ≤ 125 → length (others (ring_of k)) ≡ k
listens_size k l = others_up_to (ring_of k) k (own_of k) l (members_look k l)

claimed_size : (r : Ring) (k : ℕ) → length (others r) ≡ k → length (others (claim_of r)) ≡ k
claimed_size r k e = ap length (others_claim r) ∙ e

met_listening : (k : ℕ) → k ≤ 125 → Met 1 k
met_listening k l = met_by 1 k (listens_look (heard_at k) (ring_of k)) (begins_look ++ others_look k) (made_listens k l) refl refl (λ e. omega arith) (λ e. omega arith) (listens_size k l)

-- ClaimToken: the token was lost and is sent for the first time.
abbrev claims_first : Ring → Station
claims_first r = lowest_with 1 0 (ClaimToken false) (core_at 0 0 3366 (Waiting 0)) r

-- ActiveIdle: the claimed token is used, the application sends and expects a reply, and a token between two others comes instead.
abbrev loses_token : List Call
loses_token = poll_silent 3300 ∷ poll_silent 3500 ∷ poll (record_of 3700 expects_reply []) ∷ poll_hearing 4100 (token 2 3 ∷ []) ∷ []

abbrev idles : Ring → Station
idles r = lowest_with 1 0 steps.to_active_idle (core_at 3500 64872 4100 (Waiting 0)) r

-- worked out for every ring, with others heard and without
record FromListening (last : ℕ) (r : Ring) : Type 0 where
  pub claims_it : run (listens_look last r) (poll_silent 3300 ∷ []) ≡ claims_first (claim_of r)
  pub loses_it : run (listens_look last r) loses_token ≡ idles (claim_of (claim_of r))

from_listening : (r : Ring) → FromListening 0 r × FromListening 900 r
unfolding rounded time_of slot_time_of token_lost_of rotation_time_of with_activity with_gap with_pending with_token_times with_next_application with_connectivity is_offline after run field_of be_from load_of zeros_or14 words.response_state_of words.telegram_refusal words.telegram_of decisions.length_refusal decisions.decision_refusal decisions.decision_of records.head_of records.telegram_at records.decision_at records.entry_refusal records.words_refusal records.record_refusal steps.known_at steps.elapsed_of steps.waited_of steps.marked_at steps.busy_of steps.ongoing_of steps.bus_activity_of steps.done_of polling.connected_of polling.entered_of polling.dispatch_of polling.poll_online polling.poll_inner polling.accepted_after polling.accepted_poll polling.poll_of raised_by counted_of answering.polled_of steps.rx_of steps.token_lost_wait_of steps.heard_of steps.collision_of listening.heard_telegram listening.heard_all listening.received_all listening.met_too listening.met_in listening.meetings_of listening.consumed_all listening.listen_token_on listening.handle_lost_token listening.listen_token_of steps.pause_of steps.sent_at steps.transmit_of steps.with_event steps.with_token_time claiming.claim_next claiming.claim_token_of holding.declines_on holding.declines_at holding.use_pass_of holding.app_transmit_of holding.first_or holding.turn_of holding.asked_from holding.asked_of holding.hold_less holding.capped holding.end_of holding.hold_end_of holding.holds_of holding.use_apps_after holding.use_apps_of holding.use_token_timed holding.use_token_of holding.valid_response holding.received_of holding.await_data_of
from_listening r = (record { claims_it = refl; loses_it = refl }, record { claims_it = refl; loses_it = refl })

from_heard : (k : ℕ) (r : Ring) → FromListening (heard_at k) r
from_heard zero r = (from_listening r).0
from_heard (suc k) r = (from_listening r).1

met_claiming : (k : ℕ) → k ≤ 125 → Met 4 k
met_claiming k l =
    let r = ring_of k in
    met_by 4 k (claims_first (claim_of r)) ((begins_look ++ others_look k) ++ (poll_silent 3300 ∷ [])) (made_on k l (poll_silent 3300 ∷ []) ∙ (from_heard k r).claims_it) refl refl (λ e. omega arith) (λ e. omega arith)
    (claimed_size r k (listens_size k l))

met_idle : (k : ℕ) → k ≤ 125 → Met 2 k
met_idle k l =
    let r = ring_of k in
    met_by 2 k (idles (claim_of (claim_of r))) ((begins_look ++ others_look k) ++ loses_token) (made_on k l loses_token ∙ (from_heard k r).loses_it) refl refl (λ e. omega arith) (λ e. omega arith)
    (claimed_size (claim_of r) k (claimed_size r k (listens_size k l)))

-- PassToken: as for Silence.
met_passing : (k : ℕ) → k ≤ 125 → Met 6 k
met_passing k l =
    let m = premises_met k l true in
    let s = m.station in
    let number : state_number s.state ≡ 6 = ap state_number m.flag in
    let other : (i : ℕ) → state_number s.state ≡ i → 6 ≡ i = λ i e. sym number ∙ e in
    record { station = s; by_calls = m.by_calls; starts = met_by_calls s m.by_calls m.starts.not_offline (λ e. let z = other 3 e in omega arith) (λ e. let z = other 5 e in omega arith); in_state = number; size = m.size }

-- PassToken with a gap question due, and AwaitStatusResponse: 1 is not in the ring, the others are 2, .. k + 1.
abbrev due_ring : ℕ → Ring
due_ring k = claim_of (claim_of (before_one (suc k)))

due_size : (k : ℕ) → k ≤ 124 → length (others (due_ring k)) ≡ k
due_size k l =
    let r = before_one (suc k) in
    claimed_size (claim_of r) k (claimed_size r k (omega (arith, others_but_one r (suc k) (own_before (suc k)) (omega arith) (omega arith) (one_absent (suc k) (omega arith)) (with_one k (omega arith)))))

-- 1 is to be asked
asks_one_next : (r : Ring) → polls r 1 ≡ true → passing.gap_advanced lowest r (Waiting 2) ≡ DoPoll 1
unfolding passing.gap_advanced gap_of candidate_of
asks_one_next r e = rw e

-- 3k + 2 turns of such a station end well before the clock does
room : (k : ℕ) → k ≤ 124 → 7666 + (token_lost_of lowest).0 + (3 * k + 2) * late_time lowest < 2 ^ 48
unfolding token_lost_of time_of rounded
room k l = omega arith

met_due : (k : ℕ) → k ≤ 124 → MetSharp k
unfolding met_by
met_due k l =
    let r = due_ring k in
    let size = due_size k l in
    let m = met_by 6 k (pass_question r) (begins_question ++ (others_question (suc k) ++ (claims 7400 ++ []))) (made_due (suc k) (omega arith) [] ∙ calls_none (pass_question r)) refl refl (λ e. omega arith) (λ e. omega arith) size in
    let exact = sharp (pass_question r) (record { 0 = 7666 }) 1 First m.starts refl (asks_one_next r (one_due (suc k) (omega arith))) refl (rw size (room k l)) in
    record { met = m; is_sharp = subst (λ (i : ℕ). SharpAt (pass_question r) (3 * i + 1)) size exact }

met_awaiting : (k : ℕ) → k ≤ 124 → Met 8 k
met_awaiting k l =
    let r = due_ring k in
    met_by 8 k (awaits_one r) (begins_question ++ (others_question (suc k) ++ (claims 7400 ++ (poll_silent 8000 ∷ [])))) (made_due (suc k) (omega arith) (poll_silent 8000 ∷ []) ∙ one_gets_asked r (one_due (suc k) (omega arith))) refl refl (λ e. omega arith) (λ e. omega arith)
    (due_size k l)

-- CheckTokenPass: one poll more than PassToken. Where the pass leads is told by Silence's places.
one_call : (s : Station) (bytes : List ℕ) → run s (poll bytes ∷ []) ≡ (polling.poll_of s bytes).station
unfolding run after
one_call s bytes = refl

abbrev look_ring : ℕ → Ring
look_ring k = claim_of (claim_of (ring_of k))

quiet_4000 : Quiet 1 (record_of 4000 declines [])
unfolding field_of be_from load_of zeros_or14 decisions.length_refusal decisions.decision_refusal records.head_of records.entry_refusal records.words_refusal records.record_refusal
quiet_4000 = record { accepted = refl; no_telegram = refl; no_pending = refl; no_transmission = refl }

counted_4000 : (r : Ring) → counted (pass_look r) (record_of 4000 declines []) ≡ true
unfolding counted slot_after slot_time_of time_of rounded records.head_of field_of be_from load_of
counted_4000 r = refl

met_checking : (k : ℕ) → 1 ≤ k → k ≤ 125 → Met 7 k
met_checking k one l = go (others (look_ring k)) refl
  where
    s : Station
    s = pass_look (look_ring k)

    last : List ℕ
    last = record_of 4000 declines []

    size : length (others (look_ring k)) ≡ k
    size = claimed_size (claim_of (ring_of k)) k (claimed_size (ring_of k) k (listens_size k l))

    makes : run (fresh_station lowest 1) (calls_for k true ++ (poll last ∷ [])) ≡ (polling.poll_of s last).station
    makes = calls_on (calls_for k true) (poll last ∷ []) (fresh_station lowest 1) ∙ ap (λ (t : Station). run t (poll last ∷ [])) (made_look k l) ∙ one_call s last

    good : RingGood lowest (look_ring k)
    good = part_ring s (sound_of_calls s (made_by lowest (calls_for k true) s lowest_accepted (made_look k l)))

    go : (os : List ℕ) → others (look_ring k) ≡ os → Met 7 k
    go [] e = let z = sym size ∙ ap length e in absurd (omega arith)
    go (x ∷ more) e =
        let here : At (starting First (x ∷ more)) lowest (PassToken true First) s.core (look_ring k) = (record { on = refl; ring_good = good; are = e }, record { gap = true; passing = refl; no_question = no_question (look_ring k) }) in
        let to = counted_moves (starting First (x ∷ more)) s last (slotted lowest lowest_accepted) quiet_4000 tt here (counted_4000 (look_ring k)) in
        met_by 7 k (polling.poll_of s last).station (calls_for k true ++ (poll last ∷ [])) makes to.0.on (ap state_number to.1) (λ z. omega arith) (λ z. omega arith) (ap length (to.0.are ∙ sym e) ∙ size)

-- all of them
pub all_met : PremisesMet
all_met =
    record {
      offline = met_offline;
      was_passive = met_passive;
      listening = met_listening;
      idle = met_idle;
      claiming = met_claiming;
      passing = met_passing;
      question_due = met_due;
      checking = met_checking;
      awaiting = met_awaiting;
    }
