-- An export after an import gives the lines back, without those that P1 cannot write. The theorems have their statements here.
-- Assumes nothing.
use Rattle.std.specs.Prelude.{ℕ, zero, suc, ◌+◌, ◌-◌, ◌^◌, ◌<◌, ◌≤◌, ◌≡◌, refl, List, [], ◌∷◌, ◌++◌, true, false, length, drop, eqb}
use Rattle.std.proofs.Common.{sym, ap, ◌∙◌, append-nil, append_assoc, arith, add-zero, le-ltb, eqb-true, length-append, take_at, drop_at, lit≤}
use Rattle.std.proofs.lemmas.Bool.{eqb-false}
use borrow.Table.Steps.{cases}
use Rattle.codec_telegrams.specs.declared.Telegram.{Telegram}
use Rattle.codec_telegrams.specs.declared.Telegram.TheVariants.{Token, ShortConfirmation, Request, Response}
use Rattle.codec_telegrams.specs.Words.{telegram_word, TelegramFits}
use Rattle.codec_telegrams.specs.Laws.{telegram_read}
use Rattle.codec_frames.specs.Frames.{frame_bytes, is_other_request, fitted, write_of}
use Rattle.codec_records.specs.declared.Head.{Head}
use Rattle.codec_records.specs.Records.{head_of as record_head, telegram_word_at}
use Rattle.codec_records_written.specs.Whole.{Says}
use Rattle.codec_records_written.proofs.Written.{round_trip}
use Rattle.codec_records.specs.Laws.{good, good_telegram}
use Rattle.capture_lines.specs.Lines.{LineRead, NotBuilt, Refused, Accepted, line_of, lines_of as lines}
use Rattle.capture_import.specs.Import.{Poll, head_of, declines, telegram_of, poll_bytes, entry_bytes, entries_of, heard_after, polls_after, line_refusal, import_from, import_of}
use Rattle.capture_import.specs.Laws.{Good}
use Rattle.capture_import.proofs.Laws.{poll_length}
use Rattle.capture_export.specs.Export.{word_line, lines_from, record_lines, lines_fitted, entry_fitted, entry_used, export_from, export_of}
use Rattle.theorem_captures.specs.Accepted.{AllFit, Fit}
use Rattle.theorem_captures.proofs.Accepted.{poll_fits, poll_accepted, import_holds}
use Rattle.theorem_captures.specs.Again.{lines_again, polls_text, said_again, telegram_line, telegrams_text}

-- A telegram

-- no frame that is written has more than 6 bytes
frame_small : (t : Telegram) → length (frame_bytes t) ≤ 6
frame_small (Token d s) = lit≤ tt
frame_small ShortConfirmation = lit≤ tt
frame_small (Request d s true) = lit≤ tt
frame_small (Request d s false) = lit≤ tt
frame_small (Response d s state n) = lit≤ tt

-- the line of a telegram's word is that of the telegram
word_line_lem : (time : ℕ) (t : Telegram) → TelegramFits t → word_line time (telegram_word t) ≡ telegram_line time t
unfolding word_line write_of fitted
word_line_lem time t fits =
    let r = telegram_read t fits in
    cases (is_other_request t)
    (λ a. rw (r.1, r.0, a))
    (λ a. rw (r.1, r.0, a, le-ltb 6 (length (frame_bytes t)) (frame_small t)))

-- A record

-- the lines of telegrams, one by one
abbrev lines_of : ℕ → List Telegram → List (List ℕ)
lines_of time [] = []
lines_of time (t ∷ ts) = telegram_line time t ∷ lines_of time ts

-- a record whose words from j on are these telegrams'
lines_from_lem :
    (s : List ℕ) (j : ℕ) (ts : List Telegram)
    → AllFit ts
    → ((i : ℕ) → i < length ts → telegram_word_at s 1 (j + i) ≡ telegram_word (telegram_of ts i))
    → lines_from s j (length ts) ≡ lines_of (record_head s).clock ts
unfolding lines_from
lines_from_lem s j [] fit words = refl
lines_from_lem s j (t ∷ ts) fit words =
    let here : telegram_word_at s 1 j ≡ telegram_word t = ap (telegram_word_at s 1) (sym (add-zero j)) ∙ words 0 (omega arith) in
    let rest = lines_from_lem s (j + 1) ts fit.1 (λ i l.
    let e : j + 1 + i ≡ j + suc i = omega arith in
    ap (telegram_word_at s 1) e ∙ words (suc i) (omega arith)) in
    rw (here, word_line_lem (record_head s).clock t fit.0, rest)

-- the lines of a poll's record
record_lines_lem : (p : Poll) → length p.telegrams ≤ 8 → p.time < 2 ^ 48 → AllFit p.telegrams → record_lines (poll_bytes p) ≡ lines_of p.time p.telegrams
unfolding record_lines poll_bytes
record_lines_lem p few clock fit =
    let ts = p.telegrams in
    let h = head_of p.time (length ts) in
    let s = poll_bytes p in
    let says : Says s h 1 declines (telegram_of ts) = round_trip.says h 1 declines (telegram_of ts) (poll_fits p few clock fit) in
    let g = good s 1 says.accepted in
    let head : record_head s ≡ h = says.head in
    let words : (i : ℕ) → i < length ts → telegram_word_at s 1 (0 + i) ≡ telegram_word (telegram_of ts i) =
    λ i l.
    let e : 0 + i ≡ i = omega arith in
    let few_enough : i < (record_head s).telegrams = rw head l in
    ap (telegram_word_at s 1) e ∙ sym (good_telegram g i few_enough).0 ∙ ap telegram_word (says.heard i l) in
    ap (λ (x : Head). lines_from s 0 x.telegrams) head ∙ lines_from_lem s 0 ts fit words ∙ ap (λ (x : Head). lines_of x.clock ts) head

-- lines that have room are all written
all_fitted : (time : ℕ) (ts : List Telegram) (room : ℕ) → length (telegrams_text time ts) ≤ room → lines_fitted (lines_of time ts) room ≡ record { bytes = telegrams_text time ts; refusal = 0 }
unfolding lines_fitted
all_fitted time [] room fits = refl
all_fitted time (t ∷ ts) room fits =
    let l = telegram_line time t in
    let both = length-append l (telegrams_text time ts) in
    rw (le-ltb room (length l) (omega arith), all_fitted time ts (room - length l) (omega arith))

-- The entries in their order

-- polls with the oldest first, their entries and their lines
abbrev entries_in : List Poll → List ℕ
entries_in [] = []
entries_in (p ∷ ps) = entry_bytes p ++ entries_in ps

abbrev text_in : List Poll → List ℕ
text_in [] = []
text_in (p ∷ ps) = telegrams_text p.time p.telegrams ++ text_in ps

-- an entry whose lines have room
entry_lines :
    (p : Poll) (rest : List ℕ) (room : ℕ)
    → length p.telegrams ≤ 8
    → p.time < 2 ^ 48
    → AllFit p.telegrams
    → length (telegrams_text p.time p.telegrams) ≤ room
    → entry_fitted (length (poll_bytes p) ∷ (poll_bytes p ++ rest)) room ≡ record { bytes = telegrams_text p.time p.telegrams; refusal = 0 }
unfolding entry_fitted
entry_lines p rest room few clock fit fits =
    let r = poll_bytes p in
    rw (
      le-ltb (length r) 3 (omega (arith, poll_length p)),
      le-ltb (length (r ++ rest)) (length r) (omega (arith, length-append r rest)),
      take_at r rest (length r) refl,
      poll_accepted p few clock fit,
      record_lines_lem p few clock fit,
    )
    (all_fitted p.time p.telegrams room fits)

-- and its bytes
entry_past : (p : Poll) (rest : List ℕ) → drop (entry_used (length (poll_bytes p))) (length (poll_bytes p) ∷ (poll_bytes p ++ rest)) ≡ rest
unfolding entry_used
entry_past p rest =
    let r = poll_bytes p in
    let e : 1 + length r ≡ suc (length r) = omega arith in
    rw (le-ltb (length r) 3 (omega (arith, poll_length p)), e) (drop_at r rest (length r) refl)

-- the export of entries whose lines have room
export_all :
    (ps : List Poll) (most before room : ℕ)
    → Good ps
    → Fit ps
    → length ps ≤ most
    → length (text_in ps) ≤ room
    → export_from most (entries_in ps) before room ≡ record { text = text_in ps; refusal = 0; entry = 0 }
unfolding export_from entry_bytes
export_all [] zero before room g f enough fits = refl
export_all [] (suc most) before room g f enough fits = refl
export_all (p ∷ ps) zero before room g f enough fits = absurd (omega arith)
export_all (p ∷ ps) (suc most) before room g f enough fits =
    let own = telegrams_text p.time p.telegrams in
    let both = length-append own (text_in ps) in
    rw (
      entry_lines p (entries_in ps) room g.1 f.0 f.1 (omega arith),
      entry_past p (entries_in ps),
      export_all ps most (before + 1) (room - length own) g.2 f.2 (omega arith) (omega arith),
    )

-- polls with the newest first, turned round
abbrev turned : List Poll → List Poll
turned [] = []
turned (p ∷ older) = turned older ++ (p ∷ [])

in_append : (ps qs : List Poll) → entries_in (ps ++ qs) ≡ entries_in ps ++ entries_in qs
in_append [] qs = refl
in_append (p ∷ ps) qs = ap (λ (l : List ℕ). entry_bytes p ++ l) (in_append ps qs) ∙ sym (append_assoc (entry_bytes p) (entries_in ps) (entries_in qs))

text_append : (ps qs : List Poll) → text_in (ps ++ qs) ≡ text_in ps ++ text_in qs
text_append [] qs = refl
text_append (p ∷ ps) qs =
    let own = telegrams_text p.time p.telegrams in
    ap (λ (l : List ℕ). own ++ l) (text_append ps qs) ∙ sym (append_assoc own (text_in ps) (text_in qs))

turned_entries : (polls : List Poll) → entries_in (turned polls) ≡ entries_of polls
unfolding entries_of
turned_entries [] = refl
turned_entries (p ∷ older) = in_append (turned older) (p ∷ []) ∙ rw (turned_entries older, append-nil (entry_bytes p))

turned_text : (polls : List Poll) → text_in (turned polls) ≡ polls_text polls
turned_text [] = refl
turned_text (p ∷ older) =
    let own = telegrams_text p.time p.telegrams in
    text_append (turned older) (p ∷ []) ∙ rw (turned_text older, append-nil own)

turned_good : (polls : List Poll) → Good polls → Fit polls → Good (turned polls) × Fit (turned polls)
turned_good polls g f = turn polls g f
  where
    good_append : (ps : List Poll) (p : Poll) → Good ps → Good (p ∷ []) → Good (ps ++ (p ∷ []))
    good_append [] p g h = h
    good_append (q ∷ ps) p g h = (g.0, g.1, good_append ps p g.2 h)

    fit_append : (ps : List Poll) (p : Poll) → Fit ps → Fit (p ∷ []) → Fit (ps ++ (p ∷ []))
    fit_append [] p g h = h
    fit_append (q ∷ ps) p g h = (g.0, g.1, fit_append ps p g.2 h)

    turn : (ps : List Poll) → Good ps → Fit ps → Good (turned ps) × Fit (turned ps)
    turn [] a b = (tt, tt)
    turn (p ∷ older) a b =
        let rest = turn older a.2 b.2 in
        (good_append (turned older) p rest.0 (a.0, a.1, tt), fit_append (turned older) p rest.1 (b.0, b.1, tt))

-- no more polls than bytes
turned_few : (polls : List Poll) → length (turned polls) ≤ length (entries_of polls)
unfolding entries_of entry_bytes
turned_few [] = omega arith
turned_few (p ∷ older) =
    omega (arith, length-append (turned older) (p ∷ []), length-append (entries_of older) (length (poll_bytes p) ∷ poll_bytes p), turned_few older)

-- The entries of polls that fit give with room for it a line for each telegram that P1 can write, in their order, and no refusal
pub polls_again :
    (polls : List Poll) (wide : ℕ)
    → Good polls
    → Fit polls
    → length (polls_text polls) ≤ wide
    → export_of (entries_of polls) wide ≡ record { text = polls_text polls; refusal = 0; entry = 0 }
unfolding export_of
polls_again polls wide good fit fits =
    let both = turned_good polls good fit in
    rw (← turned_text polls)
    (ap (λ (l : List ℕ). export_from (length (entries_of polls)) l 0 wide) (sym (turned_entries polls))
    ∙ export_all (turned polls) (length (entries_of polls)) 0 wide both.0 both.1 (turned_few polls) (rw (turned_text polls) fits))

-- An export of what was imported, of an accepted capture or of the lines before a refused one, gives with room for it a line for
-- each telegram that P1 can write, in their order, and no refusal
pub imported_again :
    (text : List ℕ) (room wide : ℕ)
    → let polls = (import_of text room).polls in
    length (polls_text polls) ≤ wide
    → export_of (entries_of polls) wide ≡ record { text = polls_text polls; refusal = 0; entry = 0 }
imported_again text room wide fits =
    let h = import_holds text room in
    polls_again (import_of text room).polls wide h.0 h.1 fits

-- Line by line

-- one telegram more of a time
telegrams_more : (time : ℕ) (ts : List Telegram) (t : Telegram) → telegrams_text time (ts ++ (t ∷ [])) ≡ telegrams_text time ts ++ telegram_line time t
telegrams_more time [] t = append-nil (telegram_line time t)
telegrams_more time (x ∷ ts) t =
    ap (λ (l : List ℕ). telegram_line time x ++ l) (telegrams_more time ts t) ∙ sym (append_assoc (telegram_line time x) (telegrams_text time ts) (telegram_line time t))

-- its line stands behind those of the polls before
heard_text : (polls : List Poll) (time : ℕ) (t : Telegram) → polls_text (heard_after polls time t) ≡ polls_text polls ++ telegram_line time t
unfolding heard_after
heard_text [] time t = append-nil (telegram_line time t)
heard_text (p ∷ older) time t =
    let own = telegrams_text p.time p.telegrams in
    cases (eqb time p.time)
    (λ a.
    rw (a, eqb-true time p.time a)
    (ap (λ (l : List ℕ). polls_text older ++ l) (telegrams_more p.time p.telegrams t) ∙ sym (append_assoc (polls_text older) own (telegram_line p.time t))))
    (λ a. rw a (ap (λ (l : List ℕ). (polls_text older ++ own) ++ l) (append-nil (telegram_line time t))))

said_text : (polls : List Poll) (said : LineRead) → polls_text (polls_after polls said) ≡ polls_text polls ++ said_again said
said_text polls NotBuilt = sym (append-nil (polls_text polls))
said_text polls (Refused time n) = sym (append-nil (polls_text polls))
said_text polls (Accepted time t used) = heard_text polls time t

lines_text :
    (polls : List Poll) (before : ℕ) (ls : List (List ℕ)) (room : ℕ)
    → (import_from polls before ls room).refusal ≡ 0
    → polls_text (import_from polls before ls room).polls ≡ polls_text polls ++ lines_again ls
unfolding import_from
lines_text polls before [] room ok = sym (append-nil (polls_text polls))
lines_text polls before (l ∷ ls) room ok =
    let number = line_refusal polls (line_of l) room in
    cases (eqb number 0)
    (λ a.
    rw a
    (lines_text (polls_after polls (line_of l)) (before + 1) ls room (rw a at ok)
    ∙ rw (said_text polls (line_of l)) (append_assoc (polls_text polls) (said_again (line_of l)) (lines_again ls))))
    (λ a. absurd (eqb-false number 0 a (rw a at ok)))

-- An export of an accepted capture's entries gives with room for it the lines of the capture again, in their order: each as the line
-- of its telegram in lower case, and none for a telegram that P1 cannot write
pub capture_again :
    (text : List ℕ) (room wide : ℕ)
    → (import_of text room).refusal ≡ 0
    → length (lines_again (lines text)) ≤ wide
    → export_of (entries_of (import_of text room).polls) wide ≡ record { text = lines_again (lines text); refusal = 0; entry = 0 }
unfolding import_of
capture_again text room wide ok fits =
    let same : polls_text (import_of text room).polls ≡ lines_again (lines text) = lines_text [] 0 (lines text) room ok in
    imported_again text room wide (rw same fits) ∙ rw same
