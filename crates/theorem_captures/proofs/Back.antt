-- An import after an export gives the entries back, where every telegram can be written and the times rise. `Theorem` of specs/Back is
-- proved as `entries_back`; the other theorems have their statements here. Assumes nothing.
use Rattle.std.specs.Prelude.{ℕ, suc, ◌+◌, ◌*◌, ◌^◌, ◌<◌, ◌≤◌, ◌≡◌, refl, List, [], ◌∷◌, ◌++◌, false, length, take, drop, leb}
use Rattle.std.proofs.Common.{sym, ap, ◌∙◌, append-nil, append_assoc, arith, add-zero, le-ltb, ne_eqb, eq-eqb, length-append}
use Rattle.std.proofs.lemmas.Bool.{lt-leb}
use Rattle.codec_telegrams.specs.declared.Telegram.{Telegram}
use Rattle.codec_telegrams.specs.Words.{TelegramFits}
use Rattle.codec_frames.specs.Frames.{is_other_request}
use Rattle.capture_lines.specs.Lines.{lines_of}
use Rattle.capture_import.specs.Import.{Poll, entries_of, new_poll, heard_after, last_time, last_count, time_refusal, line_refusal, import_from, import_of, imported_of, buffer_of}
use Rattle.capture_import.proofs.Laws.{entries_length}
use Rattle.capture_export.specs.Export.{export_of, exported_of, buffer_of as textOver}
use Rattle.theorem_captures.specs.Accepted.{AllFit, Above}
use Rattle.theorem_captures.proofs.Accepted.{import_holds, stands}
use Rattle.theorem_captures.specs.Again.{telegram_line, telegrams_text, polls_text}
use Rattle.theorem_captures.proofs.Again.{polls_again}
use Rattle.theorem_captures.proofs.Written.{and_no, line_reads, line_first}
use Rattle.theorem_captures.specs.Back.{AllWritten, ComeBack, Importable, Theorem, Writable}

-- A line

-- the line of a telegram, where its time is not refused and its entry has room
line_heard :
    (polls : List Poll) (before time : ℕ) (t : Telegram) (rest : List ℕ) (room : ℕ)
    → time < 2 ^ 48
    → TelegramFits t
    → is_other_request t ≡ false
    → time_refusal (last_time polls) (last_count polls) time ≡ 0
    → length (entries_of (heard_after polls time t)) ≤ room
    → import_from polls before (lines_of (telegram_line time t ++ rest)) room ≡ import_from (heard_after polls time t) (before + 1) (lines_of rest) room
unfolding import_from line_refusal
line_heard polls before time t rest room clock fits written timed roomy =
    let full = le-ltb room (length (entries_of (heard_after polls time t))) roomy in
    rw (written, line_first time t clock fits written rest, line_reads time t clock fits written, timed, full)

-- the lines of the telegrams of a poll, after some of them
telegrams_heard :
    (time : ℕ) (heard ts : List Telegram) (older : List Poll) (before : ℕ) (rest : List ℕ) (room : ℕ)
    → time < 2 ^ 48
    → AllFit ts
    → AllWritten ts
    → length heard + length ts ≤ 8
    → length (entries_of older) + (15 + 4 * (length heard + length ts)) ≤ room
    → import_from (record { time = time; telegrams = heard } ∷ older) before (lines_of (telegrams_text time ts ++ rest)) room
    ≡ import_from (record { time = time; telegrams = heard ++ ts } ∷ older) (before + length ts) (lines_of rest) room
unfolding heard_after time_refusal
telegrams_heard time heard [] older before rest room clock fit written few roomy = rw (append-nil heard, add-zero before)
telegrams_heard time heard (t ∷ ts) older before rest room clock fit written few roomy =
    let p : Poll = record { time = time; telegrams = heard } in
    let q : Poll = record { time = time; telegrams = heard ++ (t ∷ []) } in
    let l = telegram_line time t in
    let same = eq-eqb time time refl in
    let more : length (heard ++ (t ∷ [])) ≡ length heard + 1 = length-append heard (t ∷ []) in
    let timed : time_refusal time (length heard) time ≡ 0 = rw (le-ltb time time (omega arith), lt-leb 8 (length heard) (omega arith)) in
    let roomy_one : length (entries_of (heard_after (p ∷ older) time t)) ≤ room = rw same (omega (arith, entries_length q older)) in
    let one = line_heard (p ∷ older) before time t (telegrams_text time ts ++ rest) room clock fit.0 written.0 timed roomy_one in
    let next : import_from (heard_after (p ∷ older) time t) (before + 1) (lines_of (telegrams_text time ts ++ rest)) room ≡ import_from (q ∷ older) (before + 1) (lines_of (telegrams_text time ts ++ rest)) room = rw same in
    let others = telegrams_heard time (heard ++ (t ∷ [])) ts older (before + 1) rest room clock fit.1 written.1 (omega arith) (omega arith) in
    let count : before + 1 + length ts ≡ before + suc (length ts) = omega arith in
    ap (λ (x : List ℕ). import_from (p ∷ older) before (lines_of x) room) (append_assoc l (telegrams_text time ts) rest)
    ∙ one
    ∙ next
    ∙ others
    ∙ rw (append_assoc heard (t ∷ []) ts, count)

-- A poll

-- the first telegram of a time above that of the newest poll begins a poll
first_heard : (time : ℕ) (t : Telegram) (older : List Poll) → Above time older → heard_after older time t ≡ new_poll time t ∷ older
unfolding heard_after
first_heard time t [] above = refl
first_heard time t (p ∷ older) above = rw (ne_eqb time p.time (λ e. omega arith))

first_timed : (time : ℕ) (older : List Poll) → Above time older → time_refusal (last_time older) (last_count older) time ≡ 0
unfolding time_refusal
first_timed time [] above = rw (le-ltb time 0 (omega arith))
first_timed time (p ∷ older) above = rw (le-ltb time p.time (omega arith), ne_eqb time p.time (λ e. omega arith), and_no (leb 8 (length p.telegrams)))

-- the lines of a poll
poll_heard :
    (time : ℕ) (ts : List Telegram) (older : List Poll) (before : ℕ) (rest : List ℕ) (room : ℕ)
    → time < 2 ^ 48
    → AllFit ts
    → AllWritten ts
    → 1 ≤ length ts
    → length ts ≤ 8
    → Above time older
    → length (entries_of older) + (15 + 4 * length ts) ≤ room
    → import_from older before (lines_of (telegrams_text time ts ++ rest)) room
    ≡ import_from (record { time = time; telegrams = ts } ∷ older) (before + length ts) (lines_of rest) room
poll_heard time [] older before rest room clock fit written least few above roomy = absurd (omega arith)
poll_heard time (t ∷ ts) older before rest room clock fit written least few above roomy =
    let l = telegram_line time t in
    let is = first_heard time t older above in
    let roomy_one : length (entries_of (heard_after older time t)) ≤ room = rw is (omega (arith, entries_length (new_poll time t) older)) in
    let one = line_heard older before time t (telegrams_text time ts ++ rest) room clock fit.0 written.0 (first_timed time older above) roomy_one in
    let others = telegrams_heard time (t ∷ []) ts older (before + 1) rest room clock fit.1 written.1 (omega arith) (omega arith) in
    let count : before + 1 + length ts ≡ before + suc (length ts) = omega arith in
    ap (λ (x : List ℕ). import_from older before (lines_of x) room) (append_assoc l (telegrams_text time ts) rest)
    ∙ one
    ∙ rw is (others ∙ rw count)

-- All polls

-- after the lines of polls an import stands at these polls, after so many lines
polls_heard :
    (polls : List Poll) (rest : List ℕ) (room : ℕ)
    → Importable polls
    → length (entries_of polls) ≤ room
    → (before : ℕ) × (import_from [] 0 (lines_of (polls_text polls ++ rest)) room ≡ import_from polls before (lines_of rest) room)
polls_heard [] rest room is roomy = (0, refl)
polls_heard (p ∷ older) rest room is roomy =
    let own = telegrams_text p.time p.telegrams in
    let size = entries_length p older in
    let rest_is : Importable older = record { good = is.good.2; fit = is.fit.2; written = is.written.1; rise = is.rise.1 } in
    let before = polls_heard older (own ++ rest) room rest_is (omega arith) in
    let one = poll_heard p.time p.telegrams older before.0 rest room is.fit.0 is.fit.1 is.written.0 is.good.0 is.good.1 is.rise.0 (omega arith) in
    (before.0 + length p.telegrams, ap (λ (x : List ℕ). import_from [] 0 (lines_of x) room) (append_assoc (polls_text older) own rest) ∙ before.1 ∙ one)

-- The text of polls is imported as these polls
pub text_imported :
    (polls : List Poll) (room : ℕ)
    → Importable polls
    → length (entries_of polls) ≤ room
    → import_of (polls_text polls) room ≡ record { polls = polls; refusal = 0; line = 0 }
unfolding import_of import_from
text_imported polls room is roomy =
    let all = polls_heard polls [] room is roomy in
    ap (λ (x : List ℕ). import_from [] 0 (lines_of x) room) (sym (append-nil (polls_text polls))) ∙ all.1

-- Entries of telegrams that can be written, with times that rise, come back
pub entries_back : Theorem
entries_back polls wide room is long roomy =
    let x = polls_again polls wide is.good is.fit long in
    let i = text_imported polls room is roomy in
    record { exported = rw x; imported = rw (x, i); same = rw (x, i) }

-- So do those of every import, of an accepted capture or of the lines before a refused one, where P1 can write its telegrams: the
-- times of an import rise
pub imported_back :
    (text : List ℕ) (room wide again : ℕ)
    → let polls = (import_of text room).polls in
    Writable polls
    → length (polls_text polls) ≤ wide
    → length (entries_of polls) ≤ again
    → ComeBack (entries_of polls) wide again
imported_back text room wide again written long roomy =
    let h = import_holds text room in
    entries_back (import_of text room).polls wide again (record { good = h.0; fit = h.1; written = written; rise = h.2 }) long roomy

-- The same of the two calls, for any two slices of the caller's with room: the export returns no refusal; the import of what it wrote
-- returns none, and leaves the entries at the start of the second slice and every byte past them as it was
pub calls_back :
    (polls : List Poll) (text before : List ℕ)
    → Importable polls
    → length (polls_text polls) ≤ length text
    → length (entries_of polls) ≤ length before
    → let x = export_of (entries_of polls) (length text) in
    let i = import_of (take (exported_of x).written (textOver x text)) (length before) in
    (exported_of x ≡ record { entry = 0; written = length (polls_text polls); refusal = 0 })
    × (imported_of i ≡ record { line = 0; written = length (entries_of polls); refusal = 0 })
    × (buffer_of i before ≡ entries_of polls ++ drop (length (entries_of polls)) before)
unfolding exported_of imported_of textOver buffer_of
calls_back polls text before is long roomy =
    let x = polls_again polls (length text) is.good is.fit long in
    let i = text_imported polls (length before) is roomy in
    let t = (stands (polls_text polls) text).0 in
    (rw x, rw (x, t, i), rw (x, t, i))
