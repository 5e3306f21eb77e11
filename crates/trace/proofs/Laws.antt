-- The run's loop, turn by turn: where it stands (`Reached`, `Going`), and what each of its ends leaves. Assumes nothing.
use Rattle.std.specs.Prelude.{ℕ, zero, suc, ◌+◌, ◌-◌, ◌*◌, ◌^◌, ◌<◌, ◌≤◌, ◌≡◌, refl, List, [], ◌∷◌, ◌++◌, Bool, true, false, cond, length, get_or, take, drop, eqb, T, Some, None, Result, Ok, Err}
use Rattle.std.proofs.Math.Path.{sym, ap}
use Rattle.std.proofs.Common.{◌∙◌, subst, append-nil, append_assoc, arith, eqb-true, add-one, add-zero, le_refl, zero-add, take-append-drop, length-drop, length-append, length-take, drop_of_length-le, take_all, drop-drop, drop-cons, lit≤}
use Rattle.std.proofs.Math.Nat.{sub-zero}
use borrow.Author.Tests.{lt-ltb, le-ltb, leb-true}
use borrow.Rule.Slice.PartMut.{put_mid}
use Rattle.std.proofs.Math.Seq.{paste}
use Rattle.std.proofs.lemmas.List.Edits.{length-paste, take-paste, drop-paste}
use Rattle.bit_times.proofs.Laws.{and_true}
use Rattle.codec_fields.specs.Fields.{bytes_of, stored_of}
use Rattle.codec_fields.proofs.Stores.{stored_room}
use Rattle.codec_answers.specs.declared.Answer.{Answer}
use Rattle.codec_answers.specs.Answers.{answer_word}
use Rattle.settings.specs.declared.parameters.Parameters.{Parameters}
use Rattle.refusals.specs.declared.refusal.Refusal.TheVariants.{TraceLength}
use Rattle.refusals.specs.Refusals.{named}
use Rattle.refusals.specs.Refusals.{answered as given}
use Rattle.settings_rules.specs.Rules.{applications_refusal, factors_refusal}
use Rattle.settings_rules.proofs.Laws.{none_refuses}
use Rattle.settings_build.specs.Build.{build_of, early_refusal}
use Rattle.codec_fields.specs.Fields.{zero_or14}
use Rattle.trace_headers.specs.Headers.{header_refusal}
use Rattle.station.specs.declared.station.Station.{Station}
use Rattle.station.specs.Whole.{Started}
use Rattle.station.specs.Parts.{fresh_station, new_station}
use Rattle.station_answer.specs.Answer.{Polled}
use Rattle.trace.specs.Trace.{settings_of, settings_at, TraceStart, Accepted, Refused, started_with, start_of, start_in, Run, ended, answered, run_from, run_of, ran_of, replay_on, replay_of, number_of, written, buffer_of}
use Rattle.trace.specs.Entries.{record_length, entry_of}
use Rattle.trace_headers.specs.declared.Header.{Header}
use Rattle.trace_headers.specs.Headers.{header_length, header_of}
use Rattle.trace.specs.Laws.{Answering, Going, Reached, preceded_by}
use Rattle.trace.specs.Taken.{TakesEntry, told}
use Rattle.trace.proofs.Taken.{whole, cut_short, none_left}
use Rattle.trace.specs.declared.entries.Entry.{Entry}
use Rattle.refusals.specs.declared.refusal.Refusal.{Refusal}
use Rattle.refusals.specs.Refusals.{number_of as refusal_number}

-- nothing is left to answer where no byte is left
pub run_none : (most : ℕ) (s : Station) (room : ℕ) → run_from most s [] room ≡ ended s 0
unfolding run_from
run_none zero s room = refl
run_none (suc most) s room = refl

module _ (most : ℕ) (s : Station) (kind : ℕ) (rest : List ℕ) (room : ℕ) where
  -- bytes that end inside an entry: 17
  pub run_cut : length rest < record_length kind → run_from (suc most) s (kind ∷ rest) room ≡ ended s 17
  unfolding run_from
  run_cut h = rw (lt-ltb _ _ h)

  -- a whole entry with no 8 bytes left for its answer: 18
  pub run_full : record_length kind ≤ length rest → room < 8 → run_from (suc most) s (kind ∷ rest) room ≡ ended s 18
  unfolding run_from
  run_full h f = rw (le-ltb _ _ h, lt-ltb _ _ f)

  -- a whole entry with room: its answer, and then the run of the rest from the station after it
  pub run_more :
      record_length kind ≤ length rest
      → 8 ≤ room
      → run_from (suc most) s (kind ∷ rest) room
      ≡ answered (entry_of s kind (take (record_length kind) rest)).answer
      (run_from most (entry_of s kind (take (record_length kind) rest)).station (drop (record_length kind) rest) (room - 8))
  unfolding run_from
  run_more h f = rw (le-ltb _ _ h, le-ltb _ _ f)

-- whether settings were accepted
abbrev is_accepted : Result Parameters Refusal → Bool
is_accepted (Ok p) = true
is_accepted (Err refusal) = false

-- a test that refuses with any refusal did hold where settings were accepted
passed : (test : Bool) (x : Result Parameters Refusal) (refusal : Refusal) (p : Parameters) → cond test x (Err refusal) ≡ Ok p → (test ≡ true) × (x ≡ Ok p)
passed true x refusal p e = (refl, e)
passed false x refusal p e = absurd (subst T (ap is_accepted (sym e)) tt)

-- a test that refuses did hold where settings were accepted
test_passed : (test : Bool) (x : Result Parameters Refusal) (p : Parameters) → cond test x (Err TraceLength) ≡ Ok p → test ≡ true
test_passed true x p e = refl
test_passed false x p e = absurd (subst T (ap is_accepted (sym e)) tt)

-- settings come only of a trace that has its header and no more than 2^32 bytes
pub settings_long : (trace : List ℕ) (p : Parameters) → settings_at trace ≡ Ok p → (header_length trace ≤ length trace) × (length trace ≤ 2 ^ 32)
unfolding settings_at
settings_long trace p e =
    let h = and_true _ _ (test_passed _ (settings_of (header_of trace)) p e) in
    (leb-true _ _ h.0, leb-true _ _ h.1)

-- the applications of a header that gives settings are taken
pub settings_applications : (trace : List ℕ) (p : Parameters) → settings_at trace ≡ Ok p → applications_refusal (header_of trace).applications ≡ 0
unfolding settings_at settings_of header_refusal
settings_applications trace p e =
    let h = header_of trace in
    let given : settings_of h ≡ Ok p = (passed _ (settings_of h) TraceLength p e).1 in
    let none : header_refusal h ≡ 0 = eqb-true _ _ (passed (eqb (header_refusal h) 0) (build_of h.settings) (named (header_refusal h)) p given).0 in
    let rest = factors_refusal h.settings.factor_1 h.settings.factor_2 ∷ zero_or14 h.zero_bits ∷ [] in
    (none_refuses (applications_refusal h.applications) rest (none_refuses (early_refusal h.settings) (applications_refusal h.applications ∷ rest) none).1).0

-- the station that the settings of a trace start
pub start_settings : (trace : List ℕ) (p : Parameters) → settings_at trace ≡ Ok p → start_of trace ≡ Accepted (fresh_station p (header_of trace).applications)
unfolding start_of started_with
start_settings trace p e = rw e refl

-- and the refusal, where there are none
pub start_refused : (trace : List ℕ) (refusal : Refusal) → settings_at trace ≡ Err refusal → start_of trace ≡ Refused (refusal_number refusal)
unfolding start_of started_with
start_refused trace refusal e = rw e refl

-- whether a station was started
abbrev is_started : TraceStart → Bool
is_started (Accepted s) = true
is_started (Refused n) = false

-- what the code gives of a start, where it has the settings and makes the station
pub start_made : (trace : List ℕ) (p : Parameters) (made : Result Station Refusal) (n : ℕ)
    → settings_at trace ≡ Ok p
    → n ≡ (header_of trace).applications
    → made ≡ given (applications_refusal n) (fresh_station p n)
    → start_in made ≡ start_of trace
unfolding given
start_made trace p made n e en em = rw (em, en, settings_applications trace p e, start_settings trace p e) refl

-- the station that a trace starts has the header's applications
pub start_applications : (trace : List ℕ) (s : Station) → start_of trace ≡ Accepted s → s.applications ≡ (header_of trace).applications
unfolding fresh_station
start_applications trace s e = go (settings_at trace) refl
  where
    applications_in : TraceStart → ℕ
    applications_in (Accepted x) = x.applications
    applications_in (Refused n) = 0

    go : (x : Result Parameters Refusal) → settings_at trace ≡ x → s.applications ≡ (header_of trace).applications
    go (Ok p) f = ap applications_in (sym e ∙ start_settings trace p f)
    go (Err n) f = absurd (subst T (ap is_started (sym e ∙ start_refused trace n f)) tt)

-- a station starts only from a trace that has its header and no more than 2^32 bytes
pub start_long : (trace : List ℕ) (s : Station) → start_of trace ≡ Accepted s → (header_length trace ≤ length trace) × (length trace ≤ 2 ^ 32)
start_long trace s e = go (settings_at trace) refl
  where
    go : (x : Result Parameters Refusal) → settings_at trace ≡ x → (header_length trace ≤ length trace) × (length trace ≤ 2 ^ 32)
    go (Ok p) f = settings_long trace p f
    go (Err n) f = absurd (subst T (ap is_started (sym e ∙ start_refused trace n f)) tt)

-- answers after answers are written after them
pub written_append : (given more : List Answer) → written (given ++ more) ≡ written given ++ written more
unfolding written
written_append [] more = refl
written_append (a ∷ rest) more = ap (λ (l : List ℕ). bytes_of (answer_word a) ++ l) (written_append rest more) ∙ sym (append_assoc (bytes_of (answer_word a)) (written rest) (written more))

-- one answer more
pub written_one : (given : List Answer) (a : Answer) → written (given ++ (a ∷ [])) ≡ written given ++ bytes_of (answer_word a)
unfolding written
written_one given a = written_append given (a ∷ []) ∙ ap (λ (l : List ℕ). written given ++ l) (append-nil (bytes_of (answer_word a)))

-- an answer before a run, after answers given, is one answer given more
pub after_answered : (given : List Answer) (a : Answer) (run : Run) → preceded_by given (answered a run) ≡ preceded_by (given ++ (a ∷ [])) run
after_answered given a run =
    ap (λ (l : List Answer). record { answers = l; station = run.station; ending = run.ending }) (sym (append_assoc given (a ∷ []) run.answers))

-- a tail that was lent and has bs in the place of its first k bytes, back in its place
pub tail_back : (out k : ℕ) (l bs : List ℕ) → put_mid out (length l - out) l (bs ++ drop k (take (length l - out) (drop out l))) ≡ (take out l ++ bs) ++ drop (out + k) l
tail_back out k l bs =
    let m : length (drop out l) ≤ length l - out = rw length-drop (le_refl (length l - out)) in
    let a : take (length l - out) (drop out l) ≡ drop out l = take_all (length l - out) (drop out l) m in
    let b : drop (length l - out) (drop out l) ≡ [] = drop_of_length-le (drop out l) m in
    rw (a, b, drop-drop, append-nil, append_assoc)

-- before the first entry
pub reached_first : (fresh : Station) (trace : List ℕ) (room : ℕ) → header_length trace ≤ length trace → length trace ≤ 2 ^ 32 → Reached fresh trace room [] fresh (header_length trace) 0
reached_first fresh trace room h small =
    record {
      small = small;
      begun = omega arith;
      within = h;
      many = refl;
      run = rw (length-drop, sub-zero (length trace - header_length trace), sub-zero room);
    }

module _ {fresh : Station} {trace : List ℕ} {room : ℕ} {given : List Answer} {station : Station} {at entries : ℕ} (g : Reached fresh trace room given station at entries) where
  -- what is left to run
  abbrev pub left_run : Run
  left_run = run_from (length trace - header_length trace - entries) station (drop at trace) (room - 8 * entries)

  -- where the run ends: with the answers given
  pub reached_end : (s : Station) (n : ℕ) → left_run ≡ ended s n → ran_of fresh trace room ≡ record { answers = given; ending = n }
  unfolding ran_of
  reached_end s n e =
      let whole : run_of fresh (drop (header_length trace) trace) room ≡ preceded_by given (ended s n) = g.run ∙ ap (preceded_by given) e in
      rw (whole, append-nil)

  -- no byte is left
  pub left_none : length trace ≤ at → left_run ≡ ended station 0
  left_none h = rw (drop_of_length-le trace h) (run_none _ station _)

  module _ (some : at < length trace) where
    -- one entry is counted off
    fuel : length trace - header_length trace - entries ≡ suc (length trace - header_length trace - (entries + 1))
    fuel = omega (arith, g.begun)

    -- the entry's first byte, and what follows it
    pub here : drop at trace ≡ get_or trace at 0 ∷ drop (at + 1) trace
    here = rw (add-one at) (drop-cons trace at 0 some)

    -- how much follows it
    left : length (drop (at + 1) trace) ≡ length trace - (at + 1)
    left = length-drop (at + 1) trace

    -- the trace ends inside the entry
    pub left_cut : length trace - (at + 1) < record_length (get_or trace at 0) → left_run ≡ ended station 17
    left_cut h = rw (fuel, here) (run_cut _ station (get_or trace at 0) (drop (at + 1) trace) _ (rw left h))

    -- there is no room for its answer
    pub left_full : record_length (get_or trace at 0) ≤ length trace - (at + 1) → room - 8 * entries < 8 → left_run ≡ ended station 18
    left_full h f = rw (fuel, here) (run_full _ station (get_or trace at 0) (drop (at + 1) trace) _ (rw left h) f)

    module _ (n : ℕ) (polled : Polled) (size : n ≡ record_length (get_or trace at 0)) (h : n ≤ length trace - (at + 1)) (f : 8 ≤ room - 8 * entries)
        (e : polled ≡ entry_of station (get_or trace at 0) (take (at + 1 + n - (at + 1)) (drop (at + 1) trace))) where
      -- the entry is answered, and then the rest is left
      pub left_more :
          left_run
          ≡ answered polled.answer
          (run_from (length trace - header_length trace - (entries + 1)) polled.station (drop (at + 1 + n) trace) (room - 8 * (entries + 1)))
      left_more =
          let a : at + 1 + n - (at + 1) ≡ n = omega arith in
          let b : room - 8 * entries - 8 ≡ room - 8 * (entries + 1) = omega arith in
          rw (fuel, here, ← drop-drop n (at + 1) trace, ← b, e, a, size)
          (run_more _ station (get_or trace at 0) (drop (at + 1) trace) (room - 8 * entries) (rw (left, ← size) h) f)

      -- the loop stands at the next one
      pub reached_next : Reached fresh trace room (given ++ (polled.answer ∷ [])) polled.station (at + 1 + n) (entries + 1)
      reached_next =
          record {
            small = g.small;
            begun = omega (arith, g.begun);
            within = omega (arith, h);
            many = length-append given (polled.answer ∷ []) ∙ ap (λ (k : ℕ). k + 1) g.many;
            run = g.run ∙ ap (preceded_by given) left_more ∙ after_answered given polled.answer _;
          }

-- before the first entry
pub begins : (fresh : Station) (trace before : List ℕ) → header_length trace ≤ length trace → length trace ≤ 2 ^ 32 → Going fresh trace before before fresh (header_length trace) 0 0
unfolding written
begins fresh trace before h small =
    record {
      small = small;
      begun = omega arith;
      within = h;
      place = refl;
      room = omega arith;
      long = refl;
      kept = refl;
      given = [];
      stand = refl;
      reached = reached_first fresh trace (length before) h small;
    }

module _ {fresh : Station} {trace before answers : List ℕ} {station : Station} {at out entries : ℕ} (g : Going fresh trace before answers station at out entries) where
  -- where the run ends: what is returned, and what is left in the buffer
  pub over :
      (s : Station) (n : ℕ)
      → left_run g.reached ≡ ended s n
      → (entries * 256 + n ≡ number_of (ran_of fresh trace (length before))) × (answers ≡ buffer_of (ran_of fresh trace (length before)) before)
  unfolding number_of buffer_of
  over s n e =
      let place : 8 * entries ≡ out = sym g.place in
      rw (reached_end g.reached s n e, g.reached.many, place, g.stand, ← g.kept, take-append-drop) (refl, refl)

  module _ (some : at < length trace) where
    -- the trace ends inside the entry
    pub cut :
        length trace - (at + 1) < record_length (get_or trace at 0)
        → (entries * 256 + 17 ≡ number_of (ran_of fresh trace (length before))) × (answers ≡ buffer_of (ran_of fresh trace (length before)) before)
    cut h = over station 17 (left_cut g.reached some h)

    -- there is no room for its answer
    pub full :
        record_length (get_or trace at 0) ≤ length trace - (at + 1)
        → length answers - out < 8
        → (entries * 256 + 18 ≡ number_of (ran_of fresh trace (length before))) × (answers ≡ buffer_of (ran_of fresh trace (length before)) before)
    full h f = over station 18 (left_full g.reached some h (omega (arith, g.long, g.place)))

    -- the entry is answered: the loop stands at the next one
    pub next :
        (n : ℕ) (polled : Polled) (word : ℕ) (z : List ℕ)
        → n ≡ record_length (get_or trace at 0)
        → n ≤ length trace - (at + 1)
        → 8 ≤ length answers - out
        → polled ≡ entry_of station (get_or trace at 0) (take (at + 1 + n - (at + 1)) (drop (at + 1) trace))
        → word ≡ answer_word polled.answer
        → z ≡ stored_of (take (length answers - out) (drop out answers)) 0 8 word
        → Going fresh trace before (put_mid out (length answers - out) answers z) polled.station (at + 1 + n) (out + 8) (entries + 1)
    next n polled word z size h f e ew ez =
        rw (stored, tail_back out 8 answers bs)
        (record {
          small = g.small;
          begun = on.begun;
          within = on.within;
          place = omega (arith, g.place);
          room = omega (arith, long', f);
          long = long' ∙ g.long;
          kept = drop-paste answers out bs 8 g.room (lit≤ tt) ∙ sym (drop-drop 8 out answers) ∙ ap (drop 8) g.kept ∙ drop-drop 8 out before;
          given = g.given ++ (polled.answer ∷ []);
          stand = written_one g.given polled.answer ∙ ap (λ (l : List ℕ). l ++ bs) g.stand ∙ sym (take-paste answers out bs 8 g.room (lit≤ tt));
          reached = on;
        })
      where
        on : Reached fresh trace (length before) (g.given ++ (polled.answer ∷ [])) polled.station (at + 1 + n) (entries + 1)
        on = reached_next g.reached some n polled size h (omega (arith, g.long, g.place, f)) e

        bs : List ℕ
        bs = bytes_of (answer_word polled.answer)

        -- the tail has room, so the answer stands at its head
        stored : z ≡ bs ++ drop 8 (take (length answers - out) (drop out answers))
        stored = rw ew at ez ∙ stored_room (take (length answers - out) (drop out answers)) 0 8 (answer_word polled.answer) (lit≤ tt) (simp (length-take, length-drop) (omega arith))

        long' : length (paste answers out bs 8) ≡ length answers
        long' = length-paste answers out bs 8 (omega (arith, f)) (lit≤ tt)

  -- no byte is left
  pub done :
      length trace ≤ at
      → (entries * 256 ≡ number_of (ran_of fresh trace (length before))) × (answers ≡ buffer_of (ran_of fresh trace (length before)) before)
  done h =
      let last = over station 0 (left_none g.reached h) in
      (sym (add-zero (entries * 256)) ∙ last.0, last.1)

-- The loop over the entries that are left.

-- before the first entry
pub answering_first :
    (fresh : Station) (trace before : List ℕ)
    → header_length trace ≤ length trace
    → length trace ≤ 2 ^ 32
    → Answering fresh trace before before fresh (drop (header_length trace) trace) 0 0
answering_first fresh trace before h small =
    record { few = omega arith; room = omega arith; at = header_length trace; left = refl; going = begins fresh trace before h small }

module _ {fresh : Station} {trace before answers : List ℕ} {station : Station} {rest : List ℕ} {out entries : ℕ} (g : Answering fresh trace before answers station rest out entries) where
  -- what the loop returns and leaves where the run ends
  abbrev Ends : ℕ → Type 0
  Ends number = (number ≡ number_of (ran_of fresh trace (length before))) × (answers ≡ buffer_of (ran_of fresh trace (length before)) before)

  -- the trace ends inside the entry
  pub answering_cut : (refusal : Refusal) (left : List ℕ) → TakesEntry rest (Some (Err refusal)) left → Ends (entries * 256 + refusal_number refusal)
  answering_cut refusal left t =
      let c = cut_short trace rest g.at refusal left g.left t in
      rw c.number (cut g.going c.some c.short)

  -- there is no room for its answer
  pub answering_full : (entry : Entry) (left : List ℕ) → TakesEntry rest (Some (Ok entry)) left → length answers - out < 8 → Ends (entries * 256 + 18)
  answering_full entry left t f =
      let w = whole trace rest g.at entry left g.left t in
      full g.going w.some w.fits f

  -- the entry is answered: the loop stands at the next one
  pub answering_next :
      (entry : Entry) (left : List ℕ) (polled : Polled) (word : ℕ) (z : List ℕ)
      → TakesEntry rest (Some (Ok entry)) left
      → 8 ≤ length answers - out
      → polled ≡ told station entry
      → word ≡ answer_word polled.answer
      → z ≡ stored_of (take (length answers - out) (drop out answers)) 0 8 word
      → Answering fresh trace before (put_mid out (length answers - out) answers z) polled.station left (out + 8) (entries + 1)
  answering_next entry left polled word z t f e ew ez =
      let w = whole trace rest g.at entry left g.left t in
      let on = next g.going w.some (record_length (get_or trace g.at 0)) polled word z refl w.fits f (e ∙ w.says station) ew ez in
      record { few = omega (arith, on.begun, on.within, on.small); room = on.room; at = g.at + 1 + record_length (get_or trace g.at 0); left = w.behind; going = on }

  -- no entry is left
  pub answering_done : (left : List ℕ) → TakesEntry rest None left → Ends (entries * 256)
  answering_done left t = done g.going (none_left trace rest g.at left g.left t)

-- the replay of a trace with settings is the run of a fresh station with these and the header's applications
pub replay_settings :
    (trace : List ℕ) (room : ℕ) (p : Parameters) (h : Header) (t : Started)
    → settings_at trace ≡ Ok p
    → h ≡ header_of trace
    → t ≡ new_station p h.applications
    → replay_of trace room ≡ ran_of t.station trace room
unfolding replay_of replay_on new_station
replay_settings trace room p h t e g f = rw (start_settings trace p e, f, g) refl

-- the replay of a trace that starts a station is the run over its entries
pub replay_started : (trace : List ℕ) (room : ℕ) (s : Station) → start_of trace ≡ Accepted s → replay_of trace room ≡ ran_of s trace room
unfolding replay_of replay_on
replay_started trace room s e = rw e

-- that of a refused header is its number, and the buffer stays
pub replay_refused :
    (trace before : List ℕ) (n : ℕ)
    → start_of trace ≡ Refused n
    → (n ≡ number_of (replay_of trace (length before))) × (before ≡ buffer_of (replay_of trace (length before)) before)
unfolding replay_of replay_on number_of buffer_of written
replay_refused trace before n e = rw e (sym (zero-add n), refl)
