-- What the proofs use: each way in which a call ends. Assumes nothing.
use Rattle.std.specs.Prelude.{ℕ, ◌+◌, ◌-◌, ◌*◌, ◌<◌, ◌≤◌, ◌≡◌, refl, Bool, true, false, cond, List, [], ◌∷◌, length, get_or, take, drop, eqb, ltb, Option, Some, None, Result, Ok, Err}
use Rattle.std.proofs.Common.{sym, ◌∙◌, length-drop, length-take-le, eqb-true}
use Rattle.std.proofs.Math.Path.{ap}
use native.Mathlib.Omega.{arith}
use borrow.Author.Tests.{lt-ltb, le-ltb, eq-eqb, ne_eqb, ltb-false, eqb-false}
use borrow.Table.Steps.{cases}
use Rattle.codec_fields.specs.Fields.{zero_or14, stored_of}
use Rattle.codec_answers.specs.Answers.{answer_word}
use Rattle.settings.specs.declared.parameters.Parameters.{Parameters}
use Rattle.settings_rules.specs.Rules.{applications_refusal, factors_refusal}
use Rattle.settings_rules.proofs.Laws.{none_refuses}
use Rattle.settings_build.specs.Build.{build_of, early_refusal}
use Rattle.refusals.specs.declared.refusal.Refusal.{Refusal as RefusalOf}
use Rattle.refusals.specs.Refusals.{number_of as refusal_number, named, answered}
use Rattle.station.specs.declared.station.Station.{Station}
use Rattle.station.specs.Parts.{fresh_station}
use Rattle.station_answer.specs.Answer.{Polled}
use Rattle.trace_headers.specs.declared.Header.{Header}
use Rattle.trace_headers.specs.Headers.{header_length, header_of, header_refusal}
use Rattle.trace.specs.declared.entries.Entry.{Entry}
use Rattle.trace.specs.Trace.{settings_of, TraceStart, Accepted, Refused, started_with, start_in}
use Rattle.trace.specs.Entries.{record_length, entry_of}
use Rattle.trace.specs.Taken.{TakesEntry, record_of, told}
use Rattle.trace.proofs.Taken.{whole, cut_short, none_left}
use Rattle.station_bytes.specs.Bytes.{read_of, station_into}
use Rattle.live.specs.declared.Consumed.{Consumed}
use Rattle.live.specs.Live.{open_start, open_number_on, open_number, open_into_on, open_into, Stepped, Refusal, Answers, step_found, step_on, step_of, step_number, step_into, step_answer, consumed_for, Done, done_of, done_in}

-- Opened.

-- settings that a test let through
passed : (test : Bool) (x : Result Parameters RefusalOf) (n : RefusalOf) (p : Parameters) → cond test x (Err n) ≡ Ok p → test ≡ true
passed true x n p e = refl
passed false x n p e = absurd (cc e)

-- the applications of a header that gives settings are taken
header_applications : (h : Header) (p : Parameters) → settings_of h ≡ Ok p → applications_refusal h.applications ≡ 0
unfolding settings_of header_refusal
header_applications h p e =
    let none : header_refusal h ≡ 0 = eqb-true _ _ (passed (eqb (header_refusal h) 0) (build_of h.settings) (named (header_refusal h)) p e) in
    let rest = factors_refusal h.settings.factor_1 h.settings.factor_2 ∷ zero_or14 h.zero_bits ∷ [] in
    (none_refuses (applications_refusal h.applications) rest (none_refuses (early_refusal h.settings) (applications_refusal h.applications ∷ rest) none).1).0

-- the station that a header gives
pub open_made :
    (header : List ℕ) (h : Header) (p : Parameters) (made : Result Station RefusalOf)
    → header_length header ≤ length header
    → h ≡ header_of header
    → settings_of h ≡ Ok p
    → made ≡ answered (applications_refusal h.applications) (fresh_station p h.applications)
    → start_in made ≡ open_start header
unfolding open_start started_with answered
open_made header h p made l e given is =
    rw (is, header_applications h p given, le-ltb (length header) (header_length header) l, ← e, given) refl

-- the header is refused
pub open_refused : (header out : List ℕ) (n : ℕ) → Refused n ≡ open_start header → (n ≡ open_number header (length out)) × (out ≡ open_into header out)
unfolding open_number open_number_on open_into open_into_on
open_refused header out n e = rw (← e) (refl, refl)

-- there is no room
pub open_full : (header out : List ℕ) (s : Station) → Accepted s ≡ open_start header → length out < 96 → (18 ≡ open_number header (length out)) × (out ≡ open_into header out)
unfolding open_number open_number_on open_into open_into_on station_into
open_full header out s e f = rw (← e, lt-ltb (length out) 96 f) (refl, refl)

-- the station is written
pub open_done : (header out z : List ℕ) (s : Station) → Accepted s ≡ open_start header → 96 ≤ length out → z ≡ station_into out s → (24576 ≡ open_number header (length out)) × (z ≡ open_into header out)
unfolding open_number open_number_on open_into open_into_on
open_done header out z s e f is = rw (← e, le-ltb (length out) 96 f) (refl, is)

-- Stepped.

-- the number is the call's
pub done_number : (x : Stepped) (d : Done) → d ≡ done_of x → d.number ≡ step_number x
unfolding done_of step_number
done_number (Refusal n) d e = ap (λ (z : Done). z.number) e
done_number (Answers polled size) d e = ap (λ (z : Done). z.number) e

-- what a step says and leaves
abbrev Leaves : Stepped → Done → List ℕ → List ℕ → List ℕ → List ℕ → Type 0
Leaves x d station after answer said = (d ≡ done_of x) × ((after ≡ step_into x station) × (said ≡ step_answer x answer))

-- refused
refused_leaves : (x : Stepped) (n : ℕ) (station answer : List ℕ) → x ≡ Refusal n → Leaves x (record { number = n; consumed = None }) station station answer answer
unfolding done_of step_into step_answer
refused_leaves x n station answer e = rw e (refl, (refl, refl))

-- answered
answered_leaves :
    (x : Stepped) (polled now : Polled) (size word : ℕ) (station after answer said : List ℕ)
    → x ≡ Answers polled size
    → now ≡ polled
    → word ≡ answer_word now.answer
    → said ≡ stored_of answer 0 8 word
    → after ≡ station_into station now.station
    → Leaves x (record { number = size * 256; consumed = Some (record { size = size; telegrams = now.answer.consumed; applications = now.station.applications }) }) station after answer said
unfolding done_of step_into step_answer consumed_for
answered_leaves x polled now size word station after answer said e n w b a = rw (e, b, a, w, n) (refl, (refl, refl))

-- by what is taken of the entry's bytes
module _ (s : Station) (entry : List ℕ) (room : ℕ) (left : List ℕ) where
  -- nothing: they are none
  pub found_empty : TakesEntry entry None left → step_found s entry room ≡ Refusal 17
  unfolding step_found
  found_empty t =
      let none = none_left entry entry 0 left refl t in
      rw (eq-eqb (length entry) 0 (omega (arith, none))) refl

  -- they end inside the entry
  pub found_cut : (refusal : RefusalOf) → TakesEntry entry (Some (Err refusal)) left → step_found s entry room ≡ Refusal 17
  unfolding step_found
  found_cut refusal t =
      let c = cut_short entry entry 0 refusal left refl t in
      rw (ne_eqb (length entry) 0 (λ z. omega (arith, z, c.some)), lt-ltb (length entry - 1) (record_length (get_or entry 0 0)) c.short) refl

  module _ (taken : Entry) (t : TakesEntry entry (Some (Ok taken)) left) where
    -- there is no room for its answer
    pub found_full : room < 8 → step_found s entry room ≡ Refusal 18
    unfolding step_found
    found_full f =
        let w = whole entry entry 0 taken left refl t in
        rw (ne_eqb (length entry) 0 (λ z. omega (arith, z, w.some)), le-ltb (length entry - 1) (record_length (get_or entry 0 0)) w.fits, lt-ltb room 8 f) refl

    record_long : length (record_of taken) ≡ record_length (get_or entry 0 0)
    record_long =
        let w = whole entry entry 0 taken left refl t in
        let k = record_length (get_or entry 0 0) in
        let same : 1 + k - 1 ≡ k = omega arith in
        ap length w.bytes ∙ rw same (length-take-le k (drop 1 entry) (rw (length-drop 1 entry) w.fits))

    -- it is answered
    pub found_answered : 8 ≤ room → step_found s entry room ≡ Answers (told s taken) (length (record_of taken) + 1)
    unfolding step_found
    found_answered f =
        let w = whole entry entry 0 taken left refl t in
        let k = record_length (get_or entry 0 0) in
        let same : 1 + k - 1 ≡ k = omega arith in
        let more : length (record_of taken) + 1 ≡ 1 + k = omega (arith, record_long) in
        rw (ne_eqb (length entry) 0 (λ z. omega (arith, z, w.some)), le-ltb (length entry - 1) k w.fits, le-ltb room 8 f, more, w.says s, same) refl

    -- and its record has at most 255 bytes
    pub record_short : get_or entry 0 0 < 256 → length (record_of taken) < 256
    unfolding record_length
    record_short b = cases (ltb (get_or entry 0 0) 3) (λ y. omega (arith, rw y at record_long)) (λ n. omega (arith, b, rw n at record_long))

-- so a step ends
module _ (s : Station) (entry station answer left : List ℕ) where
  pub ends_empty : TakesEntry entry None left → Leaves (step_found s entry (length answer)) (record { number = 17; consumed = None }) station station answer answer
  ends_empty t = refused_leaves _ 17 station answer (found_empty s entry (length answer) left t)

  pub ends_cut : (refusal : RefusalOf) → TakesEntry entry (Some (Err refusal)) left → Leaves (step_found s entry (length answer)) (record { number = 17; consumed = None }) station station answer answer
  ends_cut refusal t = refused_leaves _ 17 station answer (found_cut s entry (length answer) left refusal t)

  module _ (taken : Entry) (t : TakesEntry entry (Some (Ok taken)) left) where
    pub ends_full : length answer < 8 → Leaves (step_found s entry (length answer)) (record { number = 18; consumed = None }) station station answer answer
    ends_full f = refused_leaves _ 18 station answer (found_full s entry (length answer) left taken t f)

    pub ends_answered :
        (now : Polled) (word : ℕ) (record_bytes after said : List ℕ)
        → 8 ≤ length answer
        → record_bytes ≡ record_of taken
        → now ≡ told s taken
        → word ≡ answer_word now.answer
        → said ≡ stored_of answer 0 8 word
        → after ≡ station_into station now.station
        → Leaves (step_found s entry (length answer)) (record { number = (length record_bytes + 1) * 256; consumed = Some (record { size = length record_bytes + 1; telegrams = now.answer.consumed; applications = now.station.applications }) }) station after answer said
    ends_answered now word record_bytes after said f r n w b a =
        rw r (answered_leaves _ (told s taken) now (length (record_of taken) + 1) word station after answer said (found_answered s entry (length answer) left taken t f) n w b a)

-- An entry's bytes.

-- a step that refuses, and one by an entry that these bytes begin with
abbrev pub Refuses : Stepped → Type 0
Refuses (Refusal n) = Unit {0}
Refuses (Answers polled size) = ⊥

abbrev pub Begins : List ℕ → Stepped → Type 0
Begins entry (Refusal n) = Unit {0}
Begins entry (Answers polled size) = (1 ≤ size) × (size ≤ length entry)

-- without room for an answer each step refuses
pub no_room_refuses : (station entry : List ℕ) → Refuses (step_of station entry 0)
unfolding step_of step_on step_found
no_room_refuses station entry = go (read_of station)
  where
    go : (x : Option Station) → Refuses (step_on x entry 0)
    go (Some s) =
        cases (eqb (length entry) 0) (λ t. rw t tt)
        (λ f. cases (ltb (length entry - 1) (record_length (get_or entry 0 0))) (λ t. rw (f, t) tt) (λ g. rw (f, g) tt))
    go None = tt

-- what is answered is an entry that the bytes begin with
pub step_begins : (station entry : List ℕ) (room : ℕ) → Begins entry (step_of station entry room)
unfolding step_of step_on step_found
step_begins station entry room = go (read_of station)
  where
    go : (x : Option Station) → Begins entry (step_on x entry room)
    go (Some s) =
        cases (eqb (length entry) 0) (λ t. rw t tt)
        (λ f.
        cases (ltb (length entry - 1) (record_length (get_or entry 0 0))) (λ t. rw (f, t) tt)
        (λ g.
        cases (ltb room 8) (λ t. rw (f, g, t) tt)
        (λ h. rw (f, g, h) (omega arith, omega (arith, eqb-false (length entry) 0 f, ltb-false (length entry - 1) (record_length (get_or entry 0 0)) g)))))
    go None = tt
