-- From a header to the theorems: the station that a trace's header starts is what `new` gives for settings that `build` made of the
-- header's fields, and the station after any entries is one that calls make. So what the theorems say of such stations holds inside
-- every trace.
use Rattle.std.specs.Prelude.{ℕ, ◌≡◌, refl, Bool, true, false, cond, List, [], ◌∷◌, eqb, Result, Ok, Err}
use Rattle.std.proofs.Common.{sym, ap, ◌∙◌, subst, arith, eqb-true}
use borrow.Table.Steps.{cases}
use Rattle.settings.specs.declared.parameters.Parameters.{Parameters}
use Rattle.refusals.specs.declared.refusal.Refusal.{Refusal}
use Rattle.refusals.specs.declared.refusal.Refusal.TheVariants.{TraceLength}
use Rattle.settings_rules.specs.Rules.{factors_refusal, applications_refusal}
use Rattle.settings_rules.proofs.Laws.{none_refuses}
use Rattle.settings_build.specs.Build.{early_refusal, first_refusal, build_of, plain_of}
use Rattle.codec_fields.specs.Fields.{zero_or14}
use Rattle.codec_records.specs.Records.{record_refusal}
use Rattle.station.specs.declared.state.PassTokenAttempt.TheVariants.{First}
use Rattle.station.specs.declared.state.State.TheVariants.{PassToken}
use Rattle.station.specs.declared.station.Station.{Station}
use Rattle.station.specs.Parts.{fresh_station}
use Rattle.station_answer.specs.Answer.{polled_of, refused_poll}
use Rattle.station_command.specs.Command.{connect_of, online_of, offline_of, passive_of}
use Rattle.station_poll.specs.Poll.{accepted_after, accepted_poll, poll_of}
use Rattle.trace_headers.specs.declared.Header.{Header}
use Rattle.trace_headers.specs.Headers.{header_of, header_refusal}
use Rattle.trace.specs.Entries.{entry_of}
use Rattle.trace.specs.Trace.{settings_of, has_header, settings_at, Accepted, started_with, start_of, run_of}
use Rattle.theorem_sound.specs.Sound.{Call, poll, online, offline, passive, after, run, SoundStation}
use Rattle.theorem_sound.specs.Fits.{answer_to}
use Rattle.theorem_silence.specs.Silence.{gap_due, Start, AllQuiet, Silence}
use Rattle.theorem_silence.specs.Silence as silence
use Rattle.theorem_silence.proofs.Theorem as theorem
use Rattle.theorem_silence.specs.Calls.{ByCalls, settings_given, settings_of_calls, sound_of_calls, start_of_calls}
use Rattle.theorem_every_trace.specs.Statement.{Entry, along}
use Rattle.theorem_every_trace.proofs.Theorem.{taken}
use Rattle.settings_build.specs.Built.{Built}
use Rattle.settings_build.proofs.Built.{build_accepts, built_passes}

-- What is said.

-- the station that a trace's header starts: what `new` gives for the settings that `build` makes of the header's fields, and for its
-- number of applications, which is accepted
pub record StartedByHeader (trace : List ℕ) (fresh : Station) : Type 0 where
  pub settings : Parameters
  pub is_built : build_of (header_of trace).settings ≡ Ok settings
  pub applied : applications_refusal (header_of trace).applications ≡ 0
  pub is_new : fresh_station settings (header_of trace).applications ≡ fresh

-- a station inside a trace: it is one that calls make, sound, with the header's settings, which pass the check of a whole record, and
-- with the header's number of applications
pub record OfHeader (trace : List ℕ) (s : Station) : Type 0 where
  pub by_calls : ByCalls s
  pub is_sound : SoundStation s
  pub accepted : first_refusal (plain_of s.p) ≡ 0
  pub same_numbers : plain_of s.p ≡ (header_of trace).settings
  pub same_applications : s.applications ≡ (header_of trace).applications

-- the call that an entry is
unfoldable pub call_of : Entry → Call
call_of e = cond (eqb e.kind 0) online (cond (eqb e.kind 1) offline (cond (eqb e.kind 2) passive (poll e.bytes)))

-- the calls that entries are
abbrev pub entry_calls : List Entry → List Call
entry_calls [] = []
entry_calls (e ∷ es) = call_of e ∷ entry_calls es

-- Its proof.

-- settings that are not refused
chosen : (test : Bool) (x : Result Parameters Refusal) (refusal : Refusal) (p : Parameters) → cond test x (Err refusal) ≡ Ok p → (test ≡ true) × (x ≡ Ok p)
chosen true x refusal p e = (refl, e)
chosen false x refusal p e = let z : ◌≡◌ {A = ℕ} 0 1 = cc in absurd (omega arith)

-- a header that is not refused has an accepted number of applications
header_applies : (h : Header) → header_refusal h ≡ 0 → applications_refusal h.applications ≡ 0
unfolding header_refusal
header_applies h e =
    let zero_bits = zero_or14 h.zero_bits ∷ [] in
    let factors = factors_refusal h.settings.factor_1 h.settings.factor_2 ∷ zero_bits in
    (none_refuses (applications_refusal h.applications) factors (none_refuses (early_refusal h.settings) (applications_refusal h.applications ∷ factors) e).1).0

started_by : (trace : List ℕ) (fresh : Station) (x : Result Parameters Refusal) → settings_at trace ≡ x → started_with x (header_of trace).applications ≡ Accepted fresh → StartedByHeader trace fresh
unfolding settings_at settings_of started_with
started_by trace fresh (Ok p) b e =
    let long = chosen (has_header trace) _ TraceLength p b in
    let good = chosen (eqb (header_refusal (header_of trace)) 0) _ _ p long.1 in
    record {
      settings = p;
      is_built = good.1;
      applied = header_applies (header_of trace) (eqb-true _ _ good.0);
      is_new = same e;
    }
  where
    same : Accepted (fresh_station p (header_of trace).applications) ≡ Accepted fresh → fresh_station p (header_of trace).applications ≡ fresh
    same h = cc
started_by trace fresh (Err refusal) b e = let z : ◌≡◌ {A = ℕ} 0 1 = cc in absurd (omega arith)

-- the station that a trace starts is what `new` gives for accepted settings
pub header_starts : (trace : List ℕ) (fresh : Station) → start_of trace ≡ Accepted fresh → StartedByHeader trace fresh
unfolding start_of
header_starts trace fresh e = started_by trace fresh (settings_at trace) refl e

-- an entry leaves what its call leaves, and is answered as its call is
pub entry_leaves : (s : Station) (e : Entry) → (entry_of s e.kind e.bytes).station ≡ after s (call_of e)
unfolding entry_of call_of after
entry_leaves s e =
    cases (eqb e.kind 0) (λ a. rw a)
    (λ a. cases (eqb e.kind 1) (λ b. rw (a, b)) (λ b. cases (eqb e.kind 2) (λ c. rw (a, b, c)) (λ c. rw (a, b, c))))

pub entry_answers : (s : Station) (e : Entry) → (entry_of s e.kind e.bytes).answer ≡ answer_to s (call_of e)
unfolding entry_of call_of
entry_answers s e =
    cases (eqb e.kind 0) (λ a. rw a)
    (λ a. cases (eqb e.kind 1) (λ b. rw (a, b)) (λ b. cases (eqb e.kind 2) (λ c. rw (a, b, c)) (λ c. rw (a, b, c))))

-- entries leave what their calls leave
pub entries_leave : (es : List Entry) (s : Station) → run s (entry_calls es) ≡ (along s es).station
unfolding run
entries_leave [] s = refl
entries_leave (e ∷ es) s = ap (λ (x : Station). run x (entry_calls es)) (sym (entry_leaves s e)) ∙ entries_leave es (entry_of s e.kind e.bytes).station

-- no call changes the number of applications
poll_applications : (s : Station) (bytes : List ℕ) → (poll_of s bytes).station.applications ≡ s.applications
unfolding poll_of accepted_poll accepted_after polled_of refused_poll
poll_applications s bytes = cases (eqb (record_refusal bytes s.applications) 0) (λ e. rw e) (λ e. rw e)

after_applications : (s : Station) (c : Call) → (after s c).applications ≡ s.applications
unfolding after online_of offline_of passive_of connect_of polled_of
after_applications s (poll bytes) = poll_applications s bytes
after_applications s online = refl
after_applications s offline = refl
after_applications s passive = refl

run_applications : (cs : List Call) (s : Station) → (run s cs).applications ≡ s.applications
unfolding run
run_applications [] s = refl
run_applications (c ∷ cs) s = run_applications cs (after s c) ∙ after_applications s c

fresh_applications : (p : Parameters) (n : ℕ) (s : Station) → fresh_station p n ≡ s → s.applications ≡ n
unfolding fresh_station
fresh_applications p n s e = rw (← e)

-- the station that any entries leave of the one that a header starts; with no entries, that one itself
pub from_header : (trace : List ℕ) (fresh : Station) (es : List Entry) → start_of trace ≡ Accepted fresh → OfHeader trace (along fresh es).station
from_header trace fresh es e =
    record {
      by_calls = calls;
      is_sound = sound_of_calls s calls;
      accepted = settings_of_calls s calls;
      same_numbers = ap plain_of (settings_given s calls) ∙ built.same_numbers;
      same_applications =
          ap (λ (x : Station). x.applications) (sym (entries_leave es fresh))
          ∙ run_applications (entry_calls es) fresh
          ∙ fresh_applications h.settings (header_of trace).applications fresh h.is_new;
    }
  where
    s : Station
    s = (along fresh es).station

    h : StartedByHeader trace fresh
    h = header_starts trace fresh e

    built : Built (header_of trace).settings h.settings
    built = build_accepts (header_of trace).settings h.settings h.is_built

    calls : ByCalls s
    calls =
        record {
          settings = h.settings;
          applications = (header_of trace).applications;
          accepted = built_passes (header_of trace).settings h.settings built;
          number_accepted = h.applied;
          calls = entry_calls es;
          makes = ap (λ (x : Station). run x (entry_calls es)) h.is_new ∙ entries_leave es fresh;
        }

-- and the station that any run over bytes leaves of it
pub run_from_header : (trace : List ℕ) (fresh : Station) (bytes : List ℕ) (room : ℕ) → start_of trace ≡ Accepted fresh → OfHeader trace (run_of fresh bytes room).station
run_from_header trace fresh bytes room e =
    let t = taken fresh bytes room in
    subst (OfHeader trace) (sym t.reached) (from_header trace fresh t.entries e)

-- so demand 3's premises on the station's making hold inside every trace: what is left to ask is that the station is online, in
-- PassToken at its first attempt, and that no gap question is due
pub start_in_trace :
    (trace : List ℕ) (fresh : Station) (es : List Entry)
    → start_of trace ≡ Accepted fresh
    → silence.Online (along fresh es).station
    → (gap : Bool)
    → (along fresh es).station.state ≡ PassToken gap First
    → gap_due (along fresh es).station.p (along fresh es).station.core (along fresh es).station.token_ring gap ≡ false
    → Start (along fresh es).station
start_in_trace trace fresh es e on gap state due = start_of_calls (along fresh es).station (from_header trace fresh es e).by_calls on gap state due

-- and demand 3 holds of it
pub silence_inside :
    (trace : List ℕ) (fresh : Station) (es : List Entry) (records : List (List ℕ))
    → start_of trace ≡ Accepted fresh
    → silence.Online (along fresh es).station
    → (gap : Bool)
    → (along fresh es).station.state ≡ PassToken gap First
    → gap_due (along fresh es).station.p (along fresh es).station.core (along fresh es).station.token_ring gap ≡ false
    → AllQuiet (header_of trace).applications records
    → Silence (along fresh es).station records
silence_inside trace fresh es records e on gap state due quiet =
    theorem.silence (along fresh es).station records (start_in_trace trace fresh es e on gap state due)
    (rw (from_header trace fresh es e).same_applications quiet)
