-- What the code writes is what the definitions say: a telegram's line, a record's lines, an entry, the loop over entries. Assumes
-- nothing.
use Rattle.std.specs.Prelude.{ℕ, zero, suc, ◌+◌, ◌-◌, ◌/◌, ◌%◌, ◌<◌, ◌≤◌, ◌≡◌, refl, get_or, drop, replicate, Result, Ok, Err, IsErrAnd}
use Rattle.std.proofs.Common.{sym, ◌∙◌, le_refl, add-zero, length-append, length-drop, drop_of_length-le, take_all, take_at, drop_at, drop-drop}
use Rattle.std.proofs.Math.Path.{ap}
use mathlib.Core.List.{List, [], ◌∷◌, ◌++◌, append-nil, append_assoc}
use Rattle.std.proofs.Math.Bool.{true, false}
use native.Mathlib.Omega.{arith}
use Rattle.std.proofs.Math.Nat.{sub-zero}
use borrow.Author.Tests.{lt-ltb, le-ltb, ltb-false, eq-eqb, ne_eqb, eqb-true, eqb-false}
use borrow.Table.Steps.{cases}
use borrow.Rule.Slice.PartMut.{put_mid}
use Rattle.std.proofs.Math.ListN.{length, take}
use Rattle.std.proofs.Math.Dec.{eqb, ltb}
use Rattle.codec_fields.proofs.Laws.{never}
use Rattle.codec_telegrams.specs.Words.{telegram_of, telegram_refusal}
use Rattle.codec_frames.specs.Frames.{Written, not_written, fitted, write_of, written_count, write_number, written_over, frame_bytes, is_other_request}
use Rattle.codec_records.specs.Records.{head_of, telegram_word_at, record_refusal}
use Rattle.capture_text.specs.Text.{line_text}
use Rattle.refusals.specs.declared.refusal.Refusal.{Refusal}
use Rattle.refusals.proofs.Numbers.{refused}
use Rattle.codec_frames.specs.Laws.{number_same}
use Rattle.capture_export.specs.declared.RefusedEntry.{RefusedEntry}
use Rattle.capture_export.specs.Export.{Exported, export_told, longest_frame, word_line, lines_from, record_lines, and_then, lines_fitted, entry_fitted, entry_used, Export, preceded, export_from, export_of, exported_of, buffer_of}
use Rattle.capture_export.specs.Turns.{LineWritten, line_written, EntryTold, entry_written}

-- A telegram's line

-- what fits has no number but 18, and no more bytes than there is room
record Small (w : Written) (room : ℕ) : Type 0 where
  pub number : w.refusal < 256
  pub size : length w.bytes ≤ room

fitted_small : (bytes : List ℕ) (room : ℕ) → Small (fitted bytes room) room
unfolding fitted
fitted_small bytes room =
    cases (ltb room (length bytes))
    (λ a. rw a (record { number = omega arith; size = omega arith }))
    (λ a. rw a (record { number = omega arith; size = ltb-false room (length bytes) a }))

write_small : (word room : ℕ) → Small (write_of word room) room
unfolding write_of
write_small word room =
    cases (eqb (telegram_refusal word) 0)
    (λ a.
    cases (is_other_request (telegram_of word))
    (λ b. rw (a, b) (record { number = omega arith; size = omega arith }))
    (λ b. rw (a, b) (fitted_small (frame_bytes (telegram_of word)) room)))
    (λ a. rw a (record { number = omega arith; size = omega arith }))

-- how many bytes a telegram's frame has, by a writer's number that does not refuse
pub word_size : (word : ℕ) {number : ℕ} → number ≡ write_number (write_of word longest_frame) → number % 256 ≡ 0 → number / 256 ≡ length (write_of word longest_frame).bytes
word_size word {number} is ok =
    let small = write_small word longest_frame in
    omega (arith, is, ok, small.number)

-- what a count says of what is written
counted_is : (w : Written) {count : ℕ} → Ok count ≡ written_count w → (w.refusal ≡ 0) × (count ≡ length w.bytes)
counted_is w e =
    cases (eqb w.refusal 0)
    (λ a. let g = rw a at e in (eqb-true w.refusal 0 a, cc))
    (λ a. let g = rw a at e in cc)

refused_is : (w : Written) {refusal : ℕ} → Err refusal ≡ written_count w → (w.refusal ≡ 0 → ⊥) × (refusal ≡ w.refusal)
refused_is w e =
    cases (eqb w.refusal 0)
    (λ a. let g = rw a at e in cc)
    (λ a. let g = rw a at e in (eqb-false w.refusal 0 a, cc))

-- and as bytes and a number
pub line_counted : (bytes : List ℕ) (room : ℕ) {count : ℕ} → Ok count ≡ written_count (fitted bytes room) → record { bytes = count; refusal = 0 } ≡ line_written (fitted bytes room)
line_counted bytes room e = let is = counted_is (fitted bytes room) e in rw (is.0, is.1)

pub line_refused : (bytes : List ℕ) (room : ℕ) {refusal : ℕ} → Err refusal ≡ written_count (fitted bytes room) → record { bytes = 0; refusal = refusal } ≡ line_written (fitted bytes room)
unfolding fitted
line_refused bytes room {refusal} e =
    cases (ltb room (length bytes))
    (λ a. let g = rw a at e in let same : refusal ≡ 18 = cc in rw (a, same))
    (λ a. let g = rw a at e in cc)

-- nothing always fits
nothing_fits : (before : List ℕ) → (Ok 0 ≡ written_count (fitted [] (length before))) × (before ≡ written_over (fitted [] (length before)) before)
unfolding fitted
nothing_fits before = rw (le-ltb (length before) 0 (omega arith)) (refl, refl)

module _ (time word : ℕ) where
  -- a telegram that P1 cannot write is skipped
  pub word_skipped :
      {refusal : ℕ}
      → Err refusal ≡ written_count (write_of word longest_frame)
      → (before : List ℕ)
      → (Ok 0 ≡ written_count (fitted (word_line time word) (length before))) × (before ≡ written_over (fitted (word_line time word) (length before)) before)
  unfolding word_line
  word_skipped is before =
      let w = write_of word longest_frame in
      let no : eqb w.refusal 0 ≡ false = ne_eqb w.refusal 0 (refused_is w is).0 in
      rw no (nothing_fits before)

  -- else its frame has so many bytes
  module _ {size : ℕ} (is : Ok size ≡ written_count (write_of word longest_frame)) where
    pub word_small : size ≤ 6
    word_small = omega (arith, (counted_is (write_of word longest_frame) is).1, (write_small word longest_frame).size)

    pub word_written :
        (before : List ℕ) {frame : List ℕ} {wrote : Result ℕ ℕ} {left : List ℕ}
        → frame ≡ written_over (write_of word longest_frame) (replicate 6 0)
        → (wrote ≡ written_count (fitted (line_text time (take size frame)) (length before))) × (left ≡ written_over (fitted (line_text time (take size frame)) (length before)) before)
        → (wrote ≡ written_count (fitted (word_line time word) (length before))) × (left ≡ written_over (fitted (word_line time word) (length before)) before)
    unfolding word_line
    word_written before {frame} {wrote} {left} stands says =
        let w = write_of word longest_frame in
        let yes : eqb w.refusal 0 ≡ true = eq-eqb w.refusal 0 (counted_is w is).0 in
        let e : size ≡ length w.bytes = (counted_is w is).1 in
        let all : take size frame ≡ w.bytes = rw (stands, e) (take_at w.bytes (drop (length w.bytes) (replicate 6 0)) (length w.bytes) refl) in
        rw yes (rw all at says)

-- What is written behind what stands

-- bytes that stand at the start of a slice
pub record Over (done before text : List ℕ) (at : ℕ) : Type 0 where
  pub long : length done ≡ at
  pub room : at ≤ length before
  pub stand : text ≡ done ++ drop at before

pub over_none : (before : List ℕ) → Over [] before before 0
over_none before = record { long = refl; room = omega arith; stand = refl }

module _ {done before text : List ℕ} {at : ℕ} (o : Over done before text at) where
  -- the slice keeps its length
  pub over_length : length text ≡ length before
  over_length = ap length o.stand ∙ length-append done (drop at before) ∙ rw (length-drop, o.long) (omega (arith, o.room))

  -- its tail is what was there
  pub over_tail : take (length text - at) (drop at text) ≡ drop at before
  over_tail =
      let tail : drop at text ≡ drop at before = ap (drop at) o.stand ∙ drop_at done (drop at before) at o.long in
      rw tail (take_all (length text - at) (drop at before) (rw (length-drop, over_length) (le_refl (length before - at))))

  pub over_room : length (take (length text - at) (drop at text)) ≡ length before - at
  over_room = ap length over_tail ∙ length-drop at before

  -- and so is the rest behind what is written into it
  pub over_more :
      (w : Written) {left : List ℕ}
      → length w.bytes ≤ length before - at
      → left ≡ written_over w (take (length text - at) (drop at text))
      → Over (done ++ w.bytes) before (put_mid at (length text - at) text left) (at + length w.bytes)
  over_more w {left} fits is =
      let k = length w.bytes in
      let first : take at text ≡ done = ap (take at) o.stand ∙ take_at done (drop at before) at o.long in
      let last : drop (length text - at) (drop at text) ≡ [] = drop_of_length-le (drop at text) {i = length text - at} (rw length-drop (le_refl (length text - at))) in
      let tail : left ≡ w.bytes ++ drop (at + k) before = is ∙ rw (over_tail, drop-drop k at before) in
      record {
        long = length-append done w.bytes ∙ rw o.long;
        room = omega (arith, o.room);
        stand = rw (first, last, tail, append-nil) (sym (append_assoc done w.bytes (drop (at + k) before)));
      }

-- what stands at the end is what is said to be written
came :
    {done before text : List ℕ} {at : ℕ} (w : Written)
    → Over done before text at
    → w.bytes ≡ done
    → (record { bytes = at; refusal = w.refusal } ≡ line_written w) × (text ≡ written_over w before)
came w o e = rw (e, o.long) (refl, o.stand)

-- The lines of a record

-- lines fit within the room
lines_small : (ls : List (List ℕ)) (room : ℕ) → length (lines_fitted ls room).bytes ≤ room
unfolding lines_fitted
lines_small [] room = omega arith
lines_small (l ∷ ls) room =
    cases (ltb room (length l))
    (λ a. rw a (omega arith))
    (λ a. rw a (omega (arith, ltb-false room (length l) a, lines_small ls (room - length l), length-append l (lines_fitted ls (room - length l)).bytes)))

-- where the loop stands: the lines of the whole are those written and those left
pub record Lined (s before text : List ℕ) (at index : ℕ) : Type 0 where
  pub done : List ℕ
  pub over : Over done before text at
  pub few : index ≤ (head_of s).telegrams
  pub same : lines_fitted (record_lines s) (length before) ≡ and_then done (lines_fitted (lines_from s index ((head_of s).telegrams - index)) (length before - at))

pub lined_none : (s before : List ℕ) → Lined s before before 0 0
unfolding record_lines
lined_none s before = record { done = []; over = over_none before; few = omega arith; same = rw (sub-zero (head_of s).telegrams, sub-zero (length before)) }

module _ {s before text : List ℕ} {at index : ℕ} (p : Lined s before text at index) where
  -- no telegram is left
  pub lined_all :
      (head_of s).telegrams ≤ index
      → (record { bytes = at; refusal = 0 } ≡ line_written (lines_fitted (record_lines s) (length before))) × (text ≡ written_over (lines_fitted (record_lines s) (length before)) before)
  unfolding lines_from lines_fitted
  lined_all h =
      let e : (head_of s).telegrams - index ≡ 0 = omega arith in
      let whole : lines_fitted (record_lines s) (length before) ≡ record { bytes = p.done ++ []; refusal = 0 } = p.same ∙ rw e in
      rw whole (came (record { bytes = p.done ++ []; refusal = 0 }) p.over (append-nil p.done))

  module _
      (more : index < (head_of s).telegrams)
      {time word : ℕ}
      (timed : time ≡ (head_of s).clock)
      (worded : word ≡ telegram_word_at s 1 index)
      {wrote : LineWritten}
      {left : List ℕ}
      (is : wrote ≡ line_written (fitted (word_line time word) (length (take (length text - at) (drop at text)))))
      (leaves : left ≡ written_over (fitted (word_line time word) (length (take (length text - at) (drop at text)))) (take (length text - at) (drop at text))) where
    fuel : (head_of s).telegrams - index ≡ suc ((head_of s).telegrams - (index + 1))
    fuel = omega arith

    says : wrote ≡ line_written (fitted (word_line (head_of s).clock (telegram_word_at s 1 index)) (length (take (length text - at) (drop at text))))
    says = is ∙ rw (timed, worded)

    stays : left ≡ written_over (fitted (word_line (head_of s).clock (telegram_word_at s 1 index)) (length (take (length text - at) (drop at text)))) (take (length text - at) (drop at text))
    stays = leaves ∙ rw (timed, worded)

    -- what is written fits, and the slice keeps its length
    fitting : length (fitted (word_line time word) (length (take (length text - at) (drop at text)))).bytes ≤ length before - at
    fitting = omega (arith, over_room p.over, (fitted_small (word_line time word) (length (take (length text - at) (drop at text)))).size)

    pub lined_long : length (put_mid at (length text - at) text left) ≡ length before
    lined_long = over_length (over_more p.over (fitted (word_line time word) (length (take (length text - at) (drop at text)))) fitting leaves)

    pub lined_room : at + wrote.bytes ≤ length before
    lined_room =
        let bytes : wrote.bytes ≡ length (fitted (word_line time word) (length (take (length text - at) (drop at text)))).bytes = ap (λ (x : LineWritten). x.bytes) is in
        omega (arith, bytes, fitting, p.over.room)

    -- the next line has no room
    pub lined_full :
        (wrote.refusal ≡ 0 → ⊥)
        → (record { bytes = at; refusal = wrote.refusal } ≡ line_written (lines_fitted (record_lines s) (length before)))
        × (put_mid at (length text - at) text left ≡ written_over (lines_fitted (record_lines s) (length before)) before)
    unfolding lines_from lines_fitted fitted
    lined_full h =
        let l = word_line (head_of s).clock (telegram_word_at s 1 index) in
        let size = length (take (length text - at) (drop at text)) in
        cases (ltb size (length l))
        (λ a.
        let room : ltb (length before - at) (length l) ≡ true = rw (← over_room p.over) a in
        let whole : lines_fitted (record_lines s) (length before) ≡ record { bytes = p.done ++ []; refusal = 18 } = p.same ∙ rw (fuel, room) in
        let next = over_more p.over (not_written 18) (omega arith) (stays ∙ rw a) in
        rw (whole, says, a) (rw (add-zero at) at (came (record { bytes = p.done ++ []; refusal = 18 }) next refl)))
        (λ a. absurd (h (rw (says, a))))

    -- it has
    pub lined_more : wrote.refusal ≡ 0 → Lined s before (put_mid at (length text - at) text left) (at + wrote.bytes) (index + 1)
    unfolding lines_from lines_fitted fitted
    lined_more h =
        let l = word_line (head_of s).clock (telegram_word_at s 1 index) in
        let size = length (take (length text - at) (drop at text)) in
        let rest = lines_from s (index + 1) ((head_of s).telegrams - (index + 1)) in
        cases (ltb size (length l))
        (λ a.
        let full : wrote ≡ record { bytes = 0; refusal = 18 } = says ∙ rw a in
        never 17 (sym (ap (λ (x : LineWritten). x.refusal) full) ∙ h))
        (λ a.
        let room : ltb (length before - at) (length l) ≡ false = rw (← over_room p.over) a in
        let fits : length l ≤ length before - at = ltb-false (length before - at) (length l) room in
        let fit : wrote ≡ record { bytes = length l; refusal = 0 } = says ∙ rw a in
        let bytes : wrote.bytes ≡ length l = ap (λ (x : LineWritten). x.bytes) fit in
        let less : length before - at - length l ≡ length before - (at + length l) = omega arith in
        let whole : lines_fitted (record_lines s) (length before) ≡ and_then p.done (and_then l (lines_fitted rest (length before - (at + length l)))) = p.same ∙ rw (fuel, room, less) in
        rw bytes
        (record {
          done = p.done ++ l;
          over = over_more p.over (record { bytes = l; refusal = 0 }) fits (stays ∙ rw a);
          few = omega arith;
          same =
              whole
              ∙ ap (λ (x : List ℕ). record { bytes = x; refusal = (lines_fitted rest (length before - (at + length l))).refusal })
              (sym (append_assoc p.done l (lines_fitted rest (length before - (at + length l))).bytes));
        }))

-- An entry

pub entry_small : (entries : List ℕ) (room : ℕ) → length (entry_fitted entries room).bytes ≤ room
unfolding entry_fitted
entry_small [] room = omega arith
entry_small (kind ∷ rest) room =
    cases (ltb kind 3) (λ a. rw a (omega arith)) (λ a.
    cases (ltb (length rest) kind) (λ b. rw (a, b) (omega arith)) (λ b.
    cases (eqb (record_refusal (take kind rest) 1) 0)
    (λ e. rw (a, b, e) (lines_small (record_lines (take kind rest)) room))
    (λ e. rw (a, b, e) (omega arith))))

-- an entry, by its first byte
module _ (kind : ℕ) (rest before : List ℕ) where
  entry_command :
      kind < 3
      → (record { used = 1; bytes = 0; refusal = 0 } ≡ entry_written (kind ∷ rest) (length before)) × (before ≡ written_over (entry_fitted (kind ∷ rest) (length before)) before)
  unfolding entry_fitted entry_used
  entry_command h = rw (lt-ltb kind 3 h) (refl, refl)

  module _ (poll : 3 ≤ kind) where
    entry_cut :
        length rest < kind
        → (record { used = 1 + kind; bytes = 0; refusal = 17 } ≡ entry_written (kind ∷ rest) (length before)) × (before ≡ written_over (entry_fitted (kind ∷ rest) (length before)) before)
    unfolding entry_fitted entry_used
    entry_cut h = rw (le-ltb kind 3 poll, lt-ltb (length rest) kind h) (refl, refl)

    module _ (whole : kind ≤ length rest) where
      entry_refused :
          {refusal : ℕ}
          → refusal ≡ record_refusal (take kind rest) 1
          → (refusal ≡ 0 → ⊥)
          → (record { used = 1 + kind; bytes = 0; refusal = refusal } ≡ entry_written (kind ∷ rest) (length before)) × (before ≡ written_over (entry_fitted (kind ∷ rest) (length before)) before)
      unfolding entry_fitted entry_used
      entry_refused {refusal} is h =
          rw (le-ltb kind 3 poll, le-ltb (length rest) kind whole, ← is, ne_eqb refusal 0 h) (refl, refl)

      entry_lines :
          {refusal : ℕ} {wrote : LineWritten} {left : List ℕ}
          → refusal ≡ record_refusal (take kind rest) 1
          → refusal ≡ 0
          → (wrote ≡ line_written (lines_fitted (record_lines (take kind rest)) (length before))) × (left ≡ written_over (lines_fitted (record_lines (take kind rest)) (length before)) before)
          → (record { used = 1 + kind; bytes = wrote.bytes; refusal = wrote.refusal } ≡ entry_written (kind ∷ rest) (length before))
          × (left ≡ written_over (entry_fitted (kind ∷ rest) (length before)) before)
      unfolding entry_fitted entry_used
      entry_lines {refusal} is h says =
          rw (le-ltb kind 3 poll, le-ltb (length rest) kind whole, ← is, eq-eqb refusal 0 h) (rw says.0, says.1)

-- the returns of the code
pub code_command :
    (entries before : List ℕ)
    → 1 ≤ length entries
    → get_or entries 0 0 < 3
    → (record { used = 1; bytes = 0; refusal = 0 } ≡ entry_written entries (length before)) × (before ≡ written_over (entry_fitted entries (length before)) before)
code_command [] before some h = absurd (omega arith)
code_command (kind ∷ rest) before some h = entry_command kind rest before h

pub code_cut :
    (entries before : List ℕ)
    → 1 ≤ length entries
    → 3 ≤ get_or entries 0 0
    → length entries < 1 + get_or entries 0 0
    → (record { used = 1 + get_or entries 0 0; bytes = 0; refusal = 17 } ≡ entry_written entries (length before)) × (before ≡ written_over (entry_fitted entries (length before)) before)
code_cut [] before some poll h = absurd (omega arith)
code_cut (kind ∷ rest) before some poll h = entry_cut kind rest before poll (omega arith)

back : (kind : ℕ) → 1 + kind - 1 ≡ kind
back kind = omega arith

pub code_refused :
    (entries before : List ℕ)
    → 1 ≤ length entries
    → 3 ≤ get_or entries 0 0
    → 1 + get_or entries 0 0 ≤ length entries
    → {refusal : ℕ}
    → refusal ≡ record_refusal (take (1 + get_or entries 0 0 - 1) (drop 1 entries)) 1
    → (refusal ≡ 0 → ⊥)
    → (record { used = 1 + get_or entries 0 0; bytes = 0; refusal = refusal } ≡ entry_written entries (length before)) × (before ≡ written_over (entry_fitted entries (length before)) before)
code_refused [] before some poll whole is h = absurd (omega arith)
code_refused (kind ∷ rest) before some poll whole is h = entry_refused kind rest before poll (omega arith) (rw (back kind) at is) h

pub code_lines :
    (entries before : List ℕ)
    → 1 ≤ length entries
    → 3 ≤ get_or entries 0 0
    → 1 + get_or entries 0 0 ≤ length entries
    → {refusal : ℕ} {wrote : LineWritten} {left : List ℕ}
    → refusal ≡ record_refusal (take (1 + get_or entries 0 0 - 1) (drop 1 entries)) 1
    → refusal ≡ 0
    → (wrote ≡ line_written (lines_fitted (record_lines (take (1 + get_or entries 0 0 - 1) (drop 1 entries))) (length before)))
    × (left ≡ written_over (lines_fitted (record_lines (take (1 + get_or entries 0 0 - 1) (drop 1 entries))) (length before)) before)
    → (record { used = 1 + get_or entries 0 0; bytes = wrote.bytes; refusal = wrote.refusal } ≡ entry_written entries (length before))
    × (left ≡ written_over (entry_fitted entries (length before)) before)
code_lines [] before some poll whole is h says = absurd (omega arith)
code_lines (kind ∷ rest) before some poll whole is h says = entry_lines kind rest before poll (omega arith) (rw (back kind) at is) h (rw (back kind) at says)

-- a refusal that is handed on
pub handed_on : {A E : Type 0} (r : Result A E) (e : E) → IsErrAnd r (λ (x : E). x ≡ e) → r ≡ Err e
handed_on (Ok x) e h = absurd h
handed_on (Err x) e h = ap Err h

-- The loop over entries

-- an entry that is taken lies within the bytes
entry_within : (entries : List ℕ) (room : ℕ) → 1 ≤ length entries → (entry_fitted entries room).refusal ≡ 0 → (1 ≤ entry_used (get_or entries 0 0)) × (entry_used (get_or entries 0 0) ≤ length entries)
unfolding entry_fitted entry_used
entry_within [] room some h = absurd (omega arith)
entry_within (kind ∷ rest) room some h =
    cases (ltb kind 3) (λ a. rw a (omega arith, omega arith)) (λ a.
    cases (ltb (length rest) kind)
    (λ b. never 16 (rw (a, b) at h))
    (λ b. rw a (omega arith, omega (arith, ltb-false (length rest) kind b))))

-- entries that begin with one that is refused, and with one that is taken
module _ (most before room : ℕ) (entries : List ℕ) (some : 1 ≤ length entries) where
  export_refused :
      ((entry_fitted entries room).refusal ≡ 0 → ⊥)
      → export_from (suc most) entries before room ≡ record { text = (entry_fitted entries room).bytes; refusal = (entry_fitted entries room).refusal; entry = before + 1 }
  unfolding export_from
  export_refused h = by_entries entries some h
    where
      by_entries :
          (l : List ℕ)
          → 1 ≤ length l
          → ((entry_fitted l room).refusal ≡ 0 → ⊥)
          → export_from (suc most) l before room ≡ record { text = (entry_fitted l room).bytes; refusal = (entry_fitted l room).refusal; entry = before + 1 }
      by_entries [] s g = absurd (omega arith)
      by_entries (kind ∷ rest) s g = rw (ne_eqb (entry_fitted (kind ∷ rest) room).refusal 0 g)

  export_taken :
      (entry_fitted entries room).refusal ≡ 0
      → export_from (suc most) entries before room
      ≡ preceded (entry_fitted entries room).bytes (export_from most (drop (entry_used (get_or entries 0 0)) entries) (before + 1) (room - length (entry_fitted entries room).bytes))
  unfolding export_from
  export_taken h = by_entries entries some h
    where
      by_entries :
          (l : List ℕ)
          → 1 ≤ length l
          → (entry_fitted l room).refusal ≡ 0
          → export_from (suc most) l before room
          ≡ preceded (entry_fitted l room).bytes (export_from most (drop (entry_used (get_or l 0 0)) l) (before + 1) (room - length (entry_fitted l room).bytes))
      by_entries [] s g = absurd (omega arith)
      by_entries (kind ∷ rest) s g = rw (eq-eqb (entry_fitted (kind ∷ rest) room).refusal 0 g)

-- where the loop stands: the export of the whole is what stands in the slice and that of the entries that are left
pub record Going (entries before text : List ℕ) (at out entry : ℕ) : Type 0 where
  pub done : List ℕ
  pub over : Over done before text out
  pub begun : entry ≤ at
  pub within : at ≤ length entries
  pub same : export_of entries (length before) ≡ preceded done (export_from (length entries - entry) (drop at entries) entry (length before - out))

pub goes_first : (entries before : List ℕ) → Going entries before before 0 0 0
unfolding export_of
goes_first entries before =
    record { done = []; over = over_none before; begun = omega arith; within = omega arith; same = rw (sub-zero (length entries), sub-zero (length before)) }

-- what the loop's state comes to where it ends
ends :
    (x : Export) {done before text : List ℕ} {out : ℕ}
    → Over done before text out
    → x.text ≡ done
    → (record { entry = x.entry; written = out; refusal = x.refusal } ≡ exported_of x) × (text ≡ buffer_of x before)
unfolding exported_of buffer_of
ends x o e = rw (e, o.long) (refl, o.stand)

-- nothing is exported where no byte is left
none_left : (most before room : ℕ) → export_from most [] before room ≡ record { text = []; refusal = 0; entry = 0 }
unfolding export_from
none_left zero b r = refl
none_left (suc most) b r = refl

module _ {entries before text : List ℕ} {at out entry : ℕ} (g : Going entries before text at out entry) where
  pub goes_length : length text ≡ length before
  goes_length = over_length g.over

  -- no entry is left
  pub goes_done :
      length entries ≤ at
      → (record { entry = 0; written = out; refusal = 0 } ≡ exported_of (export_of entries (length before))) × (text ≡ buffer_of (export_of entries (length before)) before)
  goes_done h =
      let none = none_left (length entries - entry) entry (length before - out) in
      let whole : export_of entries (length before) ≡ record { text = g.done ++ []; refusal = 0; entry = 0 } = g.same ∙ rw (drop_of_length-le entries h, none) in
      rw whole (ends (record { text = g.done ++ []; refusal = 0; entry = 0 }) g.over (append-nil g.done))

  module _
      (more : at < length entries)
      {became : EntryTold}
      {left : List ℕ}
      (is : became ≡ entry_written (take (length entries - at) (drop at entries)) (length (take (length text - out) (drop out text))))
      (leaves :
      left
      ≡ written_over (entry_fitted (take (length entries - at) (drop at entries)) (length (take (length text - out) (drop out text)))) (take (length text - out) (drop out text))) where
    left_fuel : length entries - entry ≡ suc (length entries - (entry + 1))
    left_fuel = omega (arith, g.begun)

    some : 1 ≤ length (drop at entries)
    some = rw length-drop (omega arith)

    tail : take (length entries - at) (drop at entries) ≡ drop at entries
    tail = take_all (length entries - at) (drop at entries) (rw length-drop (le_refl (length entries - at)))

    became_is : became ≡ entry_written (drop at entries) (length before - out)
    became_is = is ∙ rw (tail, over_room g.over)

    number : became.refusal ≡ (entry_fitted (drop at entries) (length before - out)).refusal
    number = ap (λ (x : EntryTold). x.refusal) became_is

    bytes : became.bytes ≡ length (entry_fitted (drop at entries) (length before - out)).bytes
    bytes = ap (λ (x : EntryTold). x.bytes) became_is

    -- what stands after the entry
    next : Over (g.done ++ (entry_fitted (drop at entries) (length before - out)).bytes) before (put_mid out (length text - out) text left) (out + became.bytes)
    next =
        let same : entry_fitted (take (length entries - at) (drop at entries)) (length (take (length text - out) (drop out text))) ≡ entry_fitted (drop at entries) (length before - out) =
        rw (tail, over_room g.over) in
        rw bytes
        (over_more g.over (entry_fitted (drop at entries) (length before - out)) (entry_small (drop at entries) (length before - out))
        (leaves ∙ ap (λ (w : Written). written_over w (take (length text - out) (drop out text))) same))

    -- what is written fits
    pub goes_room : out + became.bytes ≤ length before
    goes_room = next.room

    pub goes_long : length (put_mid out (length text - out) text left) ≡ length before
    goes_long = over_length next

    -- the next entry is refused
    pub goes_refused :
        (became.refusal ≡ 0 → ⊥)
        → (record { entry = entry + 1; written = out + became.bytes; refusal = became.refusal } ≡ exported_of (export_of entries (length before)))
        × (put_mid out (length text - out) text left ≡ buffer_of (export_of entries (length before)) before)
    goes_refused h =
        let w = entry_fitted (drop at entries) (length before - out) in
        let x : Export = record { text = g.done ++ w.bytes; refusal = w.refusal; entry = entry + 1 } in
        let whole : export_of entries (length before) ≡ x =
        g.same ∙ rw (left_fuel, export_refused (length entries - (entry + 1)) entry (length before - out) (drop at entries) some (λ e. h (number ∙ e))) in
        rw (whole, number) (ends x next refl)

    -- it is taken
    pub goes_next :
        became.refusal ≡ 0
        → Going entries before (put_mid out (length text - out) text left) (at + became.used) (out + became.bytes) (entry + 1)
        × (1 ≤ became.used)
        × (at + became.used ≤ length entries)
    goes_next h =
        let w = entry_fitted (drop at entries) (length before - out) in
        let ok : w.refusal ≡ 0 = sym number ∙ h in
        let inside = entry_within (drop at entries) (length before - out) some ok in
        let used : became.used ≡ entry_used (get_or (drop at entries) 0 0) = ap (λ (x : EntryTold). x.used) became_is in
        let within : at + became.used ≤ length entries = omega (arith, used, inside.1, length-drop at entries) in
        let less : length before - out - length w.bytes ≡ length before - (out + became.bytes) = omega (arith, bytes) in
        let y = export_from (length entries - (entry + 1)) (drop (at + became.used) entries) (entry + 1) (length before - (out + became.bytes)) in
        let whole : export_of entries (length before) ≡ preceded g.done (preceded w.bytes y) =
        g.same
        ∙ rw (left_fuel, export_taken (length entries - (entry + 1)) entry (length before - out) (drop at entries) some ok, ← used, drop-drop, less) in (
          record {
            done = g.done ++ w.bytes;
            over = next;
            begun = omega (arith, g.begun, used, inside.0);
            within = within;
            same = whole ∙ ap (λ (l : List ℕ). record { text = l; refusal = y.refusal; entry = y.entry }) (sym (append_assoc g.done w.bytes y.text));
          },
          omega (arith, used, inside.0),
          within,
        )

-- answers that say the same as numbers are the same
pub export_same : (x y : Result ℕ RefusedEntry) → export_told x ≡ export_told y → x ≡ y
export_same (Ok m) (Ok n) h = ap (λ (i : Exported). Ok i.written) h
export_same (Ok m) (Err e) h = absurd (refused e.refusal (sym (ap (λ (i : Exported). i.refusal) h)))
export_same (Err d) (Ok n) h = absurd (refused d.refusal (ap (λ (i : Exported). i.refusal) h))
export_same (Err d) (Err e) h =
    ap (λ (n : ℕ). Err (record { entry = n; refusal = d.refusal; written = d.written })) (ap (λ (i : Exported). i.entry) h)
    ∙ ap (λ (r : Refusal). Err (record { entry = e.entry; refusal = r; written = d.written })) (number_same d.refusal e.refusal (ap (λ (i : Exported). i.refusal) h))
    ∙ ap (λ (n : ℕ). Err (record { entry = e.entry; refusal = e.refusal; written = n })) (ap (λ (i : Exported). i.written) h)
