-- The proof of demand 1's statement: one entry at a time, over any bytes.
use Rattle.std.specs.Prelude.{ℕ, zero, suc, ◌-◌, ◌*◌, ◌≤◌, ◌≡◌, refl, List, [], ◌∷◌, ◌++◌, length, take, drop}
use Rattle.std.proofs.Common.{sym, ap, ◌∙◌, subst, append_assoc, arith, le_refl, take-append-drop, length-take-le}
use Rattle.std.proofs.Math.Nat.{sub-zero}
use Rattle.codec_answers.specs.declared.Answer.{Answer}
use Rattle.station.specs.declared.station.Station.{Station}
use Rattle.trace_headers.specs.Headers.{header_length}
use Rattle.station_answer.specs.Answer.{Polled}
use Rattle.trace.specs.Entries.{record_length, entry_of}
use Rattle.trace.specs.Trace.{TraceStart, Accepted, Refused, start_of, run_from, run_of, ran_of, replay_of, number_of, buffer_of}
use Rattle.trace.proofs.Laws.{start_long, replay_started, replay_refused, run_none, run_cut, run_full, run_more}
use Rattle.theorem_every_trace.specs.Endings.{Small, start_small}
use Rattle.theorem_every_trace.specs.Runs.{Way, cuts, fills, goes, way, shorter}
use Rattle.theorem_every_trace.specs.Statement.{Entry, laid, along, Stops, empty, cut, full, Tells, Answered, Replayed, refused, ran, Theorem}
use Rattle.theorem_every_trace.specs.Theorem.{Taken}

-- a list with a first byte is not empty
some_left : (kind : ℕ) (bytes : List ℕ) → (kind ∷ bytes) ≡ [] → ⊥
some_left kind bytes e = let z : ◌≡◌ {A = ℕ} 0 1 = cc in omega arith

-- the ending's number tells why the run stopped
pub ending_tells : {room : ℕ} {rest : List ℕ} {ending : ℕ} → Stops room rest ending → Tells room rest ending
ending_tells empty =
    record { none_left = (λ e. refl, λ e. refl); cut_short = (λ e. omega arith, λ c. absurd c); no_room = (λ e. absurd (omega arith), λ c. absurd c.0) }
ending_tells (cut kind bytes c) =
    record {
      none_left = (λ e. absurd (omega arith), λ e. absurd (some_left kind bytes e));
      cut_short = (λ e. omega (arith, c), λ e. refl);
      no_room = (λ e. absurd (omega arith), λ w. omega (arith, w.0));
    }
ending_tells (full kind bytes c f) =
    record {
      none_left = (λ e. absurd (omega arith), λ e. absurd (some_left kind bytes e));
      cut_short = (λ e. omega arith, λ d. omega arith);
      no_room = (λ e. (c, f), λ w. refl);
    }

-- a run that answers nothing, taken apart
taken_none : (s : Station) (l : List ℕ) (room n : ℕ) → Stops room l n → Taken s l room (record { answers = []; station = s; ending = n })
taken_none s l room n h =
    record { entries = []; rest = l; whole = tt; bytes = refl; fits = omega arith; given = refl; reached = refl; stops = rw (sub-zero room) h }

-- as many answers as entries
pub along_length : (s : Station) (es : List Entry) → length (along s es).answers ≡ length es
along_length s [] = refl
along_length s (e ∷ es) = ap suc (along_length (entry_of s e.kind e.bytes).station es)

-- one entry of it
taken_step :
    (m : ℕ) (s : Station) (kind : ℕ) (rest : List ℕ) (room : ℕ)
    → ((x : Station) → Taken x (drop (record_length kind) rest) (room - 8) (run_from m x (drop (record_length kind) rest) (room - 8)))
    → Way kind rest room
    → Taken s (kind ∷ rest) room (run_from (suc m) s (kind ∷ rest) room)
taken_step m s kind rest room more (cuts c) = rw (run_cut m s kind rest room c) (taken_none s (kind ∷ rest) room 17 (cut kind rest c))
taken_step m s kind rest room more (fills c f) = rw (run_full m s kind rest room c f) (taken_none s (kind ∷ rest) room 18 (full kind rest c f))
taken_step m s kind rest room more (goes c f) =
    rw (run_more m s kind rest room c f)
    (record {
      entries = entry ∷ then.entries;
      rest = then.rest;
      whole = (length-take-le (record_length kind) rest c, then.whole);
      bytes = ap (λ (l : List ℕ). kind ∷ l) (sym (take-append-drop (record_length kind) rest) ∙ ap (λ (l : List ℕ). take (record_length kind) rest ++ l) then.bytes ∙ sym (append_assoc (take (record_length kind) rest) (laid then.entries) then.rest));
      fits = omega (arith, then.fits);
      given = ap (λ (l : List Answer). polled.answer ∷ l) then.given;
      reached = then.reached;
      stops = subst (λ (k : ℕ). Stops k then.rest (run_from m polled.station (drop (record_length kind) rest) (room - 8)).ending) (eight room (length then.entries)) then.stops;
    })
  where
    entry : Entry
    entry = record { kind = kind; bytes = take (record_length kind) rest }

    polled : Polled
    polled = entry_of s kind (take (record_length kind) rest)

    then : Taken polled.station (drop (record_length kind) rest) (room - 8) (run_from m polled.station (drop (record_length kind) rest) (room - 8))
    then = more polled.station

    eight : (a n : ℕ) → a - 8 - 8 * n ≡ a - 8 * suc n
    eight a n = omega arith

-- of every run over no more bytes than m
abbrev Takes : ℕ → Type 0
Takes m = (s : Station) (l : List ℕ) (room : ℕ) → length l ≤ m → Taken s l room (run_from m s l room)

takes_nothing : (m : ℕ) (s : Station) (room : ℕ) → Taken s [] room (run_from m s [] room)
takes_nothing m s room = rw (run_none m s room) (taken_none s [] room 0 empty)

takes_more : (m : ℕ) → Takes m → Takes (suc m)
takes_more m takes s [] room h = takes_nothing (suc m) s room
takes_more m takes s (kind ∷ rest) room h =
    taken_step m s kind rest room (λ x. takes x (drop (record_length kind) rest) (room - 8) (shorter kind m rest h)) (way kind rest room)

takes_none : Takes zero
takes_none s [] room h = takes_nothing zero s room
takes_none s (kind ∷ rest) room h = absurd (omega (arith, h))

takes : (m : ℕ) → Takes m
takes zero = takes_none
takes (suc m) = takes_more m (takes m)

-- of every run
pub taken : (s : Station) (l : List ℕ) (room : ℕ) → Taken s l room (run_of s l room)
taken s l room = takes (length l) s l room (le_refl (length l))

-- a trace that starts a station
started_answered : (trace before : List ℕ) (fresh : Station) → start_of trace ≡ Accepted fresh → Answered fresh trace before (number_of (replay_of trace (length before))) (buffer_of (replay_of trace (length before)) before)
unfolding ran_of number_of buffer_of
started_answered trace before fresh e =
    rw (replay_started trace (length before) fresh e)
    (record {
      entries = t.entries;
      rest = t.rest;
      header = (start_long trace fresh e).0;
      whole = t.whole;
      bytes = sym (take-append-drop (header_length trace) trace) ∙ ap (λ (l : List ℕ). take (header_length trace) trace ++ l) t.bytes;
      room = t.fits;
      ending = (run_of fresh (drop (header_length trace) trace) (length before)).ending;
      stops = t.stops;
      number = rw (t.given, along_length fresh t.entries);
      buffer = rw (t.given, along_length fresh t.entries);
    })
  where
    t : Taken fresh (drop (header_length trace) trace) (length before) (run_of fresh (drop (header_length trace) trace) (length before))
    t = taken fresh (drop (header_length trace) trace) (length before)

-- a trace that starts a station or none
replayed :
    (trace before : List ℕ) (x : TraceStart)
    → start_of trace ≡ x
    → Small x
    → Replayed trace before (number_of (replay_of trace (length before))) (buffer_of (replay_of trace (length before)) before)
replayed trace before (Accepted fresh) e h = ran fresh e (started_answered trace before fresh e)
replayed trace before (Refused n) e h =
    let r = replay_refused trace before n e in
    refused (e ∙ ap Refused r.0) (rw (← r.0) h) (sym r.1)

-- every trace: refused and nothing written, or its whole entries answered up to the first that is cut or has no room
pub every_trace : Theorem
every_trace trace before = replayed trace before (start_of trace) refl (start_small trace)
