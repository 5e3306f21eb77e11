-- The proof of SilentTrace: the answers to the silent polls stand in the buffer, read back, and say what theorem_silence says of the polls.
use Rattle.std.specs.Prelude.{ℕ, suc, ◌-◌, ◌*◌, ◌≤◌, Bool, true, false, Option, Some, cond, ◌≡◌, refl, length, drop}
use Rattle.std.proofs.Common.{sym, ◌∙◌, arith, add-one, ne_eqb, le-ltb, length-append, drop_at}
use Rattle.std.proofs.Math.Path.{ap}
use mathlib.Core.List.{List, [], ◌∷◌, ◌++◌, map, append_assoc}
use borrow.Table.Steps.{cases}
use Rattle.std.proofs.Math.Dec.{eqb}
use Rattle.settings_build.specs.declared.plain.PlainSettings.{PlainSettings}
use Rattle.settings_build.specs.Build.{plain_of}
use Rattle.codec_records.specs.Records.{record_refusal}
use Rattle.codec_records.specs.Laws.{good}
use Rattle.codec_answers.specs.declared.Answer.{Answer}
use Rattle.codec_answers.specs.declared.Sent.{Sent}
use Rattle.codec_answers.specs.Answers.{refused_answer, unpack_of, Fits}
use Rattle.codec_answers.specs.Laws.{answer_unpacks}
use Rattle.ring.specs.Ring.{others, first_of, next_number}
use Rattle.ring.proofs.Laws.{next_first}
use Rattle.station.specs.declared.station.Station.{Station}
use Rattle.station.specs.declared.state.State.{State}
use Rattle.station.specs.Parts.{state_number}
use Rattle.station_answer.specs.Answer.{Polled, step_answer, polled_of, refused_poll}
use Rattle.station_poll.specs.Poll.{accepted_after, accepted_poll, poll_of}
use Rattle.trace_headers.specs.Headers.{header_length, header_of}
use Rattle.trace.specs.Entries.{record_length, entry_of}
use Rattle.trace.specs.Trace.{Run, run_of, ran_of, replay_of, written, buffer_of}
use Rattle.trace.proofs.Laws.{replay_started}
use Rattle.theorem_sound.specs.Keeps.{either}
use Rattle.theorem_sound.specs.Sound.{SoundStation, poll, after}
use Rattle.theorem_sound.proofs.Sound.{call_sound}
use Rattle.theorem_sound.proofs.Fits.{poll_fits}
use Rattle.theorem_sound.specs.Names.{next_in}
use Rattle.theorem_sound.proofs.Names.{poll_names}
use Rattle.theorem_silence.specs.Silence.{Quiet, AllQuiet, holds_token, until, told, sent_until, tokens, Silence}
use Rattle.theorem_every_trace.specs.Statement.{Entry, Whole, laid, along}
use Rattle.theorem_every_trace.proofs.Theorem.{along_length}
use Rattle.theorem_every_trace.specs.EveryTrace.{each_entry_is_answered, longer_trace_begins_alike}
use Rattle.theorem_from_header.specs.FromHeader.{OfHeader, from_header, silence_inside}
use Rattle.theorem_from_header.specs.AnswersRead.{along_append, word_here}
use Rattle.theorem_from_header.specs.SilentTrace.{answers_from, sent_by_answers, held_by_answers, next_by_answers, poll_entries, SilentTrace, passing_station, silent_answers, SilenceInTrace}

-- a poll leaves a sound station sound
poll_sound : (s : Station) (bytes : List ℕ) → SoundStation s → SoundStation (poll_of s bytes).station
unfolding after
poll_sound s bytes w = call_sound s (poll bytes) w

-- Silent polls as entries.

-- a silent record has at least 8 bytes
quiet_long : (n : ℕ) (bytes : List ℕ) → Quiet n bytes → 8 ≤ length bytes
quiet_long n bytes q = omega (arith, (good bytes n q.accepted).long)

-- an entry of such a record is whole, and is a poll
quiet_whole : (n : ℕ) (bytes : List ℕ) → Quiet n bytes → length bytes ≡ record_length (length bytes)
unfolding record_length
quiet_whole n bytes q = let l : 3 ≤ length bytes = omega (arith, quiet_long n bytes q) in rw (le-ltb (length bytes) 3 l)

polls_whole : (n : ℕ) (records : List (List ℕ)) → AllQuiet n records → Whole (poll_entries records)
polls_whole n [] q = tt
polls_whole n (bytes ∷ later) q = (quiet_whole n bytes q.0, polls_whole n later q.1)

polls_length : (records : List (List ℕ)) → length (poll_entries records) ≡ length records
polls_length [] = refl
polls_length (bytes ∷ later) = ap suc (polls_length later)

quiet_polls : (s : Station) (n : ℕ) (bytes : List ℕ) → Quiet n bytes → entry_of s (length bytes) bytes ≡ poll_of s bytes
unfolding entry_of
quiet_polls s n bytes q =
    let l = quiet_long n bytes q in
    rw (ne_eqb (length bytes) 0 (λ e. omega arith), ne_eqb (length bytes) 1 (λ e. omega arith), ne_eqb (length bytes) 2 (λ e. omega arith))

-- the answers to polls
abbrev answers_to : Station → List (List ℕ) → List Answer
answers_to s [] = []
answers_to s (bytes ∷ later) = (poll_of s bytes).answer ∷ answers_to (poll_of s bytes).station later

polls_answered : (n : ℕ) (records : List (List ℕ)) (s : Station) → AllQuiet n records → (along s (poll_entries records)).answers ≡ answers_to s records
polls_answered n [] s q = refl
polls_answered n (bytes ∷ later) s q =
    ap (λ (x : Polled). x.answer ∷ (along x.station (poll_entries later)).answers) (quiet_polls s n bytes q.0)
    ∙ ap (λ (l : List Answer). (poll_of s bytes).answer ∷ l) (polls_answered n later (poll_of s bytes).station q.1)

answers_many : (s : Station) (records : List (List ℕ)) → length (answers_to s records) ≡ length records
answers_many s [] = refl
answers_many s (bytes ∷ later) = ap suc (answers_many (poll_of s bytes).station later)

-- Answers that stand in a buffer.

-- answers that fit their 64 bits
abbrev AllFit : List Answer → Type 0
AllFit [] = Unit {0}
AllFit (a ∷ more) = Fits a × AllFit more

all_fit : (records : List (List ℕ)) (s : Station) → SoundStation s → AllFit (answers_to s records)
all_fit [] s w = tt
all_fit (bytes ∷ later) s w = (poll_fits s bytes w, all_fit later (poll_of s bytes).station (poll_sound s bytes w))

-- one answer more that is given before
one_more_lem : (given : List Answer) (a : Answer) (rest : List Answer) → given ++ (a ∷ rest) ≡ (given ++ (a ∷ [])) ++ rest
one_more_lem given a rest = sym (append_assoc given (a ∷ []) rest)

many_more : (given : List Answer) (a : Answer) → suc (length given) ≡ length (given ++ (a ∷ []))
many_more given a = sym (length-append given (a ∷ []) ∙ add-one (length given))

-- answers that stand in a buffer after others are read back
read_back :
    (here given more : List Answer) (old : List ℕ)
    → AllFit here
    → answers_from (written (given ++ (here ++ more)) ++ old) (length given) (length here) ≡ map Some here
read_back [] given more old f = refl
read_back (a ∷ here) given more old f =
    ap (λ (u : Option Answer). u ∷ answers_from (written (given ++ (a ∷ (here ++ more))) ++ old) (suc (length given)) (length here))
    (ap (λ (w : ℕ). unpack_of w) (word_here given a (here ++ more) old) ∙ answer_unpacks a f.0)
    ∙ ap (λ (us : List (Option Answer)). Some a ∷ us)
    (ap (λ (l : List Answer). answers_from (written l ++ old) (suc (length given)) (length here)) (one_more_lem given a (here ++ more))
    ∙ ap (λ (k : ℕ). answers_from (written ((given ++ (a ∷ [])) ++ (here ++ more)) ++ old) k (length here)) (many_more given a)
    ∙ read_back here (given ++ (a ∷ [])) more old f.1)

-- entries after entries, as bytes
laid_append : (es fs : List Entry) → laid (es ++ fs) ≡ laid es ++ laid fs
laid_append [] fs = refl
laid_append (e ∷ es) fs = ap (λ (l : List ℕ). e.kind ∷ (e.bytes ++ l)) (laid_append es fs) ∙ ap (λ (l : List ℕ). e.kind ∷ l) (sym (append_assoc e.bytes (laid es) (laid fs)))

whole_append : (es fs : List Entry) → Whole es → Whole fs → Whole (es ++ fs)
whole_append [] fs w v = v
whole_append (e ∷ es) fs w v = (w.0, whole_append es fs w.1 v)

along_ends : (es : List Entry) (s : Station) → (along s es).ending ≡ 0
along_ends [] s = refl
along_ends (e ∷ es) s = along_ends es (entry_of s e.kind e.bytes).station

-- the answers of a run over whole entries that have room, and whatever follows them, begin with those of the entries
pub record Begins (s : Station) (es : List Entry) (run : Run) : Type 0 where
  pub later : List Answer
  pub given : run.answers ≡ (along s es).answers ++ later

run_begins : (s : Station) (es : List Entry) (more : List ℕ) (room : ℕ) → Whole es → 8 * length es ≤ room → Begins s es (run_of s (laid es ++ more) room)
run_begins s es more room w l =
    let first = each_entry_is_answered s es room w l in
    let none : (run_of s (laid es) room).ending ≡ 0 = ap (λ (r : Run). r.ending) first ∙ along_ends es s in
    let whole = longer_trace_begins_alike s (laid es) more room none in
    record {
      later = (run_of (run_of s (laid es) room).station more (room - 8 * length (run_of s (laid es) room).answers)).answers;
      given =
          ap (λ (r : Run). r.answers) whole
          ∙ ap (λ (l : List Answer). l ++ (run_of (run_of s (laid es) room).station more (room - 8 * length (run_of s (laid es) room).answers)).answers) (ap (λ (r : Run). r.answers) first);
    }

-- What the answers say, and what the station does.

-- a poll's answer says the state after it
poll_state : (s : Station) (bytes : List ℕ) → (poll_of s bytes).answer.state ≡ state_number (poll_of s bytes).station.state
unfolding poll_of accepted_poll accepted_after polled_of step_answer refused_poll refused_answer
poll_state s bytes = cases (eqb (record_refusal bytes s.applications) 0) (λ e. rw e) (λ e. rw e)

says_held_lem : (s : Station) (bytes : List ℕ) → eqb (poll_of s bytes).answer.state 3 ≡ holds_token (poll_of s bytes).station
unfolding holds_token
says_held_lem s bytes = ap (λ (k : ℕ). eqb k 3) (poll_state s bytes)

-- a station that holds the token sends nothing more that counts, and is the station at which it stops
held_sends : (s : Station) (records : List (List ℕ)) → holds_token s ≡ true → sent_until s records ≡ []
unfolding sent_until
held_sends s [] e = refl
held_sends s (bytes ∷ later) e = rw e

held_until : (s : Station) (records : List (List ℕ)) → holds_token s ≡ true → until s records ≡ s
unfolding until
held_until s [] e = refl
held_until s (bytes ∷ later) e = rw e

-- a station that does not hold it goes on
on_sends : (s : Station) (bytes : List ℕ) (later : List (List ℕ)) → holds_token s ≡ false → sent_until s (bytes ∷ later) ≡ told (poll_of s bytes).answer.sent ++ sent_until (poll_of s bytes).station later
unfolding sent_until
on_sends s bytes later e = rw e

on_until : (s : Station) (bytes : List ℕ) (later : List (List ℕ)) → holds_token s ≡ false → until s (bytes ∷ later) ≡ until (poll_of s bytes).station later
unfolding until
on_until s bytes later e = rw e

-- what the answers say was sent is what was sent until the token was held
said_sent : (records : List (List ℕ)) (s : Station) → holds_token s ≡ false → sent_by_answers (map Some (answers_to s records)) ≡ sent_until s records
unfolding sent_until
said_sent [] s e = refl
said_sent (bytes ∷ later) s e =
    rw (on_sends s bytes later e)
    (ap (λ (l : List Sent). told (poll_of s bytes).answer.sent ++ l)
    (ap (λ (b : Bool). cond b [] (sent_by_answers (map Some (answers_to (poll_of s bytes).station later)))) (says_held_lem s bytes)
    ∙ cases (holds_token (poll_of s bytes).station)
    (λ h. rw h (sym (held_sends (poll_of s bytes).station later h)))
    (λ h. rw h (said_sent later (poll_of s bytes).station h))))

-- an answer says that the token is held exactly where the station then holds it
said_held : (records : List (List ℕ)) (s : Station) → holds_token s ≡ false → held_by_answers (map Some (answers_to s records)) ≡ holds_token (until s records)
unfolding until
said_held [] s e = sym e
said_held (bytes ∷ later) s e =
    rw (on_until s bytes later e)
    (ap (λ (b : Bool). cond b true (held_by_answers (map Some (answers_to (poll_of s bytes).station later)))) (says_held_lem s bytes)
    ∙ cases (holds_token (poll_of s bytes).station)
    (λ h. rw h (sym (ap holds_token (held_until (poll_of s bytes).station later h) ∙ h)))
    (λ h. rw h (said_held later (poll_of s bytes).station h)))

-- the next station that the last answer names is that of the station then
said_next :
    (records : List (List ℕ)) (s : Station)
    → holds_token s ≡ false
    → next_by_answers (next_in s) (map Some (answers_to s records)) ≡ next_in (until s records)
unfolding until
said_next [] s e = refl
said_next (bytes ∷ later) s e =
    let after = (poll_of s bytes).station in
    rw (on_until s bytes later e)
    (ap (λ (n : ℕ). cond (eqb (poll_of s bytes).answer.state 3) n (next_by_answers n (map Some (answers_to after later)))) (poll_names s bytes)
    ∙ ap (λ (b : Bool). cond b (next_in after) (next_by_answers (next_in after) (map Some (answers_to after later)))) (says_held_lem s bytes)
    ∙ cases (holds_token after)
    (λ h. rw h (ap next_in (sym (held_until after later h))))
    (λ h. rw h (said_next later after h)))

-- what polls leave is sound
until_sound : (records : List (List ℕ)) (s : Station) → SoundStation s → SoundStation (until s records)
unfolding until
until_sound [] s w = w
until_sound (bytes ∷ later) s w = either SoundStation (holds_token s) _ _ w (until_sound later (poll_of s bytes).station (poll_sound s bytes w))

-- its next station is the first of the others, nobody where there is none
next_of_others : (s : Station) → SoundStation s → next_in s ≡ next_number (first_of (others s.token_ring))
next_of_others s w = ap next_number (next_first s.token_ring w.ring_sound)

-- The theorem.

module _ (trace before : List ℕ) (t : SilentTrace trace before) where
  abbrev station : Station
  station = passing_station t

  header_of_lem : OfHeader trace station
  header_of_lem = from_header trace t.fresh t.earlier t.starts

  -- demand 3 holds of it
  silent_here : Silence station t.records
  silent_here = silence_inside trace t.fresh t.earlier t.records t.starts t.not_offline t.gap t.passing t.no_question t.quiet

  not_held : holds_token station ≡ false
  unfolding holds_token
  not_held = ap (λ (x : State). eqb (state_number x) 3) t.passing

  -- the bytes after the header
  abbrev all_entries : List Entry
  all_entries = t.earlier ++ poll_entries t.records

  after_header : drop (header_length trace) trace ≡ laid all_entries ++ t.more
  after_header =
      ap (drop (header_length trace)) t.bytes
      ∙ drop_at t.header (laid t.earlier ++ (laid (poll_entries t.records) ++ t.more)) (header_length trace) t.whole_header
      ∙ sym (append_assoc (laid t.earlier) (laid (poll_entries t.records)) t.more)
      ∙ ap (λ (l : List ℕ). l ++ t.more) (sym (laid_append t.earlier (poll_entries t.records)))

  begins : Begins t.fresh all_entries (run_of t.fresh (drop (header_length trace) trace) (length before))
  begins =
      rw after_header
      (run_begins t.fresh all_entries t.more (length before)
      (whole_append t.earlier (poll_entries t.records) t.whole (polls_whole (header_of trace).applications t.records t.quiet))
      (rw (length-append, polls_length) t.room))

  -- the buffer: the answers to the entries so far, those to the silent poll_entries, others, and what was there
  abbrev old : List ℕ
  old = drop (8 * length (run_of t.fresh (drop (header_length trace) trace) (length before)).answers) before

  abbrev left : List ℕ
  left = buffer_of (replay_of trace (length before)) before

  buffer_is : left ≡ written ((along t.fresh t.earlier).answers ++ (answers_to station t.records ++ begins.later)) ++ old
  unfolding buffer_of ran_of
  buffer_is =
      rw (replay_started trace (length before) t.fresh t.starts)
      (ap (λ (l : List Answer). written l ++ old)
      (begins.given
      ∙ ap (λ (l : List Answer). l ++ begins.later) (along_append t.earlier (poll_entries t.records) t.fresh).0
      ∙ append_assoc (along t.fresh t.earlier).answers (along station (poll_entries t.records)).answers begins.later
      ∙ ap (λ (l : List Answer). (along t.fresh t.earlier).answers ++ (l ++ begins.later)) (polls_answered (header_of trace).applications t.records station t.quiet)))

  -- so the answers read are those of the station to the polls
  answers_are : silent_answers t left ≡ map Some (answers_to station t.records)
  answers_are =
      ap (λ (l : List ℕ). answers_from l (length t.earlier) (length t.records)) buffer_is
      ∙ ap (λ (k : ℕ). answers_from (written ((along t.fresh t.earlier).answers ++ (answers_to station t.records ++ begins.later)) ++ old) k (length t.records)) (sym (along_length t.fresh t.earlier))
      ∙ ap (λ (k : ℕ). answers_from (written ((along t.fresh t.earlier).answers ++ (answers_to station t.records ++ begins.later)) ++ old) (length (along t.fresh t.earlier).answers) k) (sym (answers_many station t.records))
      ∙ read_back (answers_to station t.records) (along t.fresh t.earlier).answers begins.later old (all_fit t.records station header_of_lem.is_sound)

  sent_is : sent_by_answers (silent_answers t left) ≡ sent_until station t.records
  sent_is = ap sent_by_answers answers_are ∙ said_sent t.records station not_held

  held_is : held_by_answers (silent_answers t left) ≡ holds_token (until station t.records)
  held_is = ap held_by_answers answers_are ∙ said_held t.records station not_held

  own_is : station.p.address ≡ (header_of trace).settings.address
  unfolding plain_of
  own_is = ap (λ (f : PlainSettings). f.address) header_of_lem.same_numbers

  next_is : next_by_answers (next_in station) (silent_answers t left) ≡ next_number (first_of (others (until station t.records).token_ring))
  next_is =
      ap (next_by_answers (next_in station)) answers_are
      ∙ said_next t.records station not_held
      ∙ next_of_others (until station t.records) (until_sound t.records station header_of_lem.is_sound)

-- demand 3 over a trace's bytes
pub silence_in_trace : SilenceInTrace
silence_in_trace trace before t =
    let g = silent_here trace before t in
    let sent = sent_is trace before t in
    let held = held_is trace before t in
    record {
      rest = g.rest;
      sends =
          ap (λ (l : List Sent). l ++ g.rest) sent
          ∙ g.sends
          ∙ ap (tokens (others (passing_station t).token_ring)) (own_is trace before t);
      all_sent = λ e. g.all_sent (sym held ∙ e);
      some_left = λ e. g.some_left (sym held ∙ e);
      removes = rw sent g.removes;
      names_next = rw sent (next_is trace before t ∙ ap (λ (l : List ℕ). next_number (first_of l)) g.removes);
      bound = λ l. held ∙ g.bound l;
    }
