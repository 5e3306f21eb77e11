-- What the code writes is what the definitions say: an entry, one telegram more in it, a line (`Standing`), the loop over lines
-- (`Going`). Assumes nothing.
use Rattle.std.specs.Prelude.{ℕ, zero, suc, ◌+◌, ◌-◌, ◌*◌, ◌<◌, ◌≤◌, ◌≡◌, set, leb, Result, Ok, Err}
use Rattle.std.proofs.Math.Path.{refl, sym, ap}
use Rattle.std.proofs.Common.{◌∙◌, add-one, le_refl, drop_of_length-le, take_all, lit≤}
use mathlib.Core.List.{List, [], ◌∷◌, ◌++◌, append-nil, append_assoc}
use Rattle.std.proofs.Math.Bool.{true, false, cond}
use native.Mathlib.Omega.{arith}
use borrow.Author.Tests.{lt-ltb, le-ltb, ltb-true, ltb-false, leb-false, eq-eqb, ne_eqb, eqb-true, eqb-false}
use borrow.Table.Steps.{cases}
use borrow.Rule.Slice.PartMut.{put_mid}
use Rattle.std.proofs.Math.ListN.{length, take, drop, length-append, length-drop, get_or-append}
use Rattle.std.proofs.Math.Seq.{take_at, drop_at, drop-drop, take-append-add, get_or-append_seam, length-take-le, take-length, drop-length}
use Rattle.std.proofs.Math.Dec.{eqb, ltb}
use Rattle.codec_fields.specs.Fields.{has_room, low_bytes, over_of, stored_of}
use Rattle.codec_fields.proofs.Laws.{low_length, never}
use Rattle.codec_fields.proofs.Stores.{room_of_lem, stored_room}
use Rattle.codec_telegrams.specs.declared.Telegram.{Telegram}
use Rattle.codec_telegrams.specs.declared.Telegram.TheVariants.{ShortConfirmation}
use Rattle.codec_telegrams.specs.Words.{telegram_word}
use Rattle.codec_records_written.specs.Stored.{head_word, head_stored, telegram_stored}
use Rattle.codec_records_written.specs.Whole.{each, application_bytes, telegram_bytes, record_bytes, record_stored}
use Rattle.codec_records_written.proofs.Written.{round_trip}
use Rattle.capture_lines.specs.Lines.{LineRead, NotBuilt, Refused, Accepted, lines_of, line_at}
use Rattle.capture_lines.proofs.Laws.{first_line, accepts, numbered}
use Rattle.refusals.specs.declared.refusal.Refusal.{Refusal}
use Rattle.refusals.proofs.Numbers.{refused}
use Rattle.codec_frames.specs.Laws.{number_same}
use Rattle.capture_import.specs.declared.RefusedLine.{RefusedLine}
use Rattle.capture_import.specs.declared.Newest.{Newest}
use Rattle.capture_import.specs.declared.Taken.{Taken}
use Rattle.capture_import.specs.Import.{Imported, import_told, Poll, head_of, declines, telegram_of, poll_bytes, entry_bytes, entries_of, new_poll, with_telegram, heard_after, polls_after, last_time, last_count, time_refusal, line_refusal, import_from, import_of, imported_of, buffer_of}
use Rattle.capture_import.specs.Turns.{Fits, taken, added_taken, added_left, extended_bytes, extended_taken, extended_left, is_newest, hear_taken, hear_left, line_taken, line_left}
use Rattle.capture_import.specs.Laws.{Going, Good, Standing, laid, newest_of}

-- An entry

-- parts of c bytes each, one after the other
each_length : (part : ℕ → List ℕ) (c k : ℕ) → ((i : ℕ) → length (part i) ≡ c) → length (each part k) ≡ c * k
unfolding each
each_length part c zero h = omega arith
each_length part c (suc k) h = length-append (each part k) (part k) ∙ rw (each_length part c k h, h k) (omega arith)

-- parts that are the same
each_same : (f g : ℕ → List ℕ) (k : ℕ) → ((i : ℕ) → i < k → f i ≡ g i) → each f k ≡ each g k
unfolding each
each_same f g zero h = refl
each_same f g (suc k) h = rw (each_same f g k (λ i l. h i (omega arith)), h k (omega arith))

-- what stands before the telegrams of a poll's record
abbrev record_head : ℕ → ℕ → List ℕ
record_head time count = low_bytes 8 (head_word (head_of time count))

abbrev decisions : List ℕ
decisions = each (application_bytes declines) 1

abbrev heard_bytes : List Telegram → ℕ → List ℕ
heard_bytes telegrams count = each (telegram_bytes (telegram_of telegrams)) count

-- a record has 14 bytes and 4 for each telegram
pub poll_length : (p : Poll) → length (poll_bytes p) ≡ 14 + 4 * length p.telegrams
unfolding poll_bytes record_bytes
poll_length p =
    let k = length p.telegrams in
    let t = heard_bytes p.telegrams k in
    omega (arith, length-append (record_head p.time k) (decisions ++ t), length-append decisions t, each_length (application_bytes declines) 6 1 (λ i. refl), each_length (telegram_bytes (telegram_of p.telegrams)) 4 k (λ i. refl))

-- an entry one more
pub entry_length_lem : (p : Poll) → length (entry_bytes p) ≡ 15 + 4 * length p.telegrams
unfolding entry_bytes
entry_length_lem p = omega (arith, poll_length p)

-- the entry of a new poll, from what is written over 18 bytes
entry_new :
    (time : ℕ) (heard : Telegram) (bytes : List ℕ)
    → length bytes ≡ 18
    → 18 ∷ record_stored bytes (head_of time 1) 1 declines (telegram_of (heard ∷ [])) ≡ entry_bytes (new_poll time heard)
unfolding entry_bytes poll_bytes
entry_new time heard bytes size =
    let long : length (poll_bytes (new_poll time heard)) ≡ 18 = poll_length (new_poll time heard) in
    rw (long, round_trip.written bytes (head_of time 1) 1 declines (telegram_of (heard ∷ [])) size)

-- an entry of 19 bytes with the length written and its record handed on
pub entry_written_lem :
    (time : ℕ) (heard : Telegram) (entry : List ℕ) {part : List ℕ}
    → length entry ≡ 19
    → part ≡ record_stored (take 18 (drop 1 (set entry 0 18))) (head_of time 1) 1 declines (telegram_of (heard ∷ []))
    → put_mid 1 18 (set entry 0 18) part ≡ entry_bytes (new_poll time heard)
entry_written_lem time heard [] size is = absurd (omega arith)
entry_written_lem time heard (b ∷ rest) {part} size is =
    let long : length rest ≡ 18 = omega arith in
    let all : take 18 rest ≡ rest = take_all 18 rest (omega arith) in
    let few : length rest ≤ 18 = omega arith in
    let none : drop 18 rest ≡ [] = drop_of_length-le rest few in
    rw (none, append-nil part, is, all) (entry_new time heard rest long)

-- One telegram more

-- stores keep the length
stored_length : (s : List ℕ) (at count word : ℕ) → length (stored_of s at count word) ≡ length s
unfolding stored_of over_of
stored_length s at count word =
    cases (has_room (length s) at count)
    (λ a.
    let room = room_of_lem (length s) at count a in
    let first : length (take at s) ≡ at = length-take-le at s (omega arith) in
    rw a
    (length-append (take at s) (low_bytes count word ++ drop (at + count) s)
    ∙ rw (first, length-append (low_bytes count word) (drop (at + count) s), low_length count word, length-drop (at + count) s) (omega (arith, room.1))))
    (λ a. rw a)

-- an entry's length and record, written in place
pub extended_written :
    (time telegrams : ℕ) (heard : Telegram) (entry : List ℕ) {part : List ℕ}
    → 1 ≤ length entry
    → part
    ≡ telegram_stored (head_stored (take (length (set entry 0 (18 + 4 * telegrams)) - 1) (drop 1 (set entry 0 (18 + 4 * telegrams)))) (head_of time (telegrams + 1))) 1 telegrams heard
    → put_mid 1 (length (set entry 0 (18 + 4 * telegrams)) - 1) (set entry 0 (18 + 4 * telegrams)) part ≡ extended_bytes entry time telegrams heard
unfolding extended_bytes
extended_written time telegrams heard [] some is = absurd (omega arith)
extended_written time telegrams heard (b ∷ rest) {part} some is =
    let e : suc (length rest) - 1 ≡ length rest = omega arith in
    rw (e, drop-length rest, append-nil part) (ap (λ (l : List ℕ). (18 + 4 * telegrams) ∷ l) (is ∙ rw (e, take-length rest)))

-- which keeps its length
pub extended_length : (entry : List ℕ) (time telegrams : ℕ) (heard : Telegram) → 1 ≤ length entry → length (extended_bytes entry time telegrams heard) ≡ length entry
unfolding extended_bytes telegram_stored head_stored
extended_length [] time telegrams heard some = absurd (omega arith)
extended_length (b ∷ rest) time telegrams heard some =
    let head = head_word (head_of time (telegrams + 1)) in
    ap suc (stored_length (stored_of rest 0 8 head) (8 + 6 * 1 + 4 * telegrams) 4 (telegram_word heard) ∙ stored_length rest 0 8 head)

-- a telegram behind a list of them
behind : (telegrams : List Telegram) (heard : Telegram) → telegram_of (telegrams ++ (heard ∷ [])) (length telegrams) ≡ heard
behind telegrams heard = get_or-append_seam telegrams heard [] ShortConfirmation

-- a record with the head and the telegram of one telegram more written over it and 4 bytes behind it
record_extended :
    (p : Poll) (heard : Telegram) (x : List ℕ)
    → length x ≡ 4
    → telegram_stored (head_stored (poll_bytes p ++ x) (head_of p.time (length p.telegrams + 1))) 1 (length p.telegrams) heard ≡ poll_bytes (with_telegram p heard)
unfolding poll_bytes record_bytes telegram_stored head_stored each
record_extended p heard x size =
    let k = length p.telegrams in
    let more = p.telegrams ++ (heard ∷ []) in
    let h = record_head p.time k in
    let g = record_head p.time (k + 1) in
    let t = heard_bytes p.telegrams k in
    let word = telegram_word heard in
    let rest = (decisions ++ t) ++ x in
    let a : length (decisions ++ t) ≡ 6 + 4 * k =
    length-append decisions t ∙ rw (each_length (application_bytes declines) 6 1 (λ i. refl), each_length (telegram_bytes (telegram_of p.telegrams)) 4 k (λ i. refl)) in
    let long : length (h ++ rest) ≡ 8 + (6 + 4 * k + 4) = length-append h rest ∙ rw (length-append (decisions ++ t) x, a, size) in
    let start : (h ++ (decisions ++ t)) ++ x ≡ h ++ rest = append_assoc h (decisions ++ t) x in
    let head : stored_of (h ++ rest) 0 8 (head_word (head_of p.time (k + 1))) ≡ g ++ rest =
    stored_room (h ++ rest) 0 8 (head_word (head_of p.time (k + 1))) (lit≤ tt) (omega arith) ∙ ap (λ (l : List ℕ). g ++ l) (drop_at h rest 8 refl) in
    let front = g ++ (decisions ++ t) in
    let place : length front ≡ 8 + 6 * 1 + 4 * k = length-append g (decisions ++ t) ∙ rw a (omega arith) in
    let again : g ++ rest ≡ front ++ x = sym (append_assoc g (decisions ++ t) x) in
    let room : 8 + 6 * 1 + 4 * k + 4 ≤ length (front ++ x) = omega (arith, length-append front x) in
    let full : length (front ++ x) ≤ 8 + 6 * 1 + 4 * k + 4 = omega (arith, length-append front x) in
    let after : drop (8 + 6 * 1 + 4 * k + 4) (front ++ x) ≡ [] = drop_of_length-le (front ++ x) full in
    let stored : stored_of (front ++ x) (8 + 6 * 1 + 4 * k) 4 word ≡ front ++ low_bytes 4 word =
    stored_room (front ++ x) (8 + 6 * 1 + 4 * k) 4 word (lit≤ tt) room
    ∙ rw (take_at front x (8 + 6 * 1 + 4 * k) place, after, append-nil (low_bytes 4 word)) in
    let same : heard_bytes more k ≡ t =
    each_same (telegram_bytes (telegram_of more)) (telegram_bytes (telegram_of p.telegrams)) k
    (λ i l. ap (λ (y : Telegram). low_bytes 4 (telegram_word y)) (get_or-append p.telegrams (heard ∷ []) ShortConfirmation i l)) in
    let count : length more ≡ suc k = length-append p.telegrams (heard ∷ []) ∙ add-one k in
    let made : heard_bytes more (suc k) ≡ t ++ low_bytes 4 word = rw (same, behind p.telegrams heard) in
    ap (λ (l : List ℕ). stored_of (stored_of l 0 8 (head_word (head_of p.time (k + 1)))) (8 + 6 * 1 + 4 * k) 4 word) start
    ∙ ap (λ (l : List ℕ). stored_of l (8 + 6 * 1 + 4 * k) 4 word) (head ∙ again)
    ∙ stored
    ∙ append_assoc g (decisions ++ t) (low_bytes 4 word)
    ∙ ap (λ (l : List ℕ). g ++ l) (append_assoc decisions t (low_bytes 4 word))
    ∙ ap (λ (l : List ℕ). g ++ (decisions ++ l)) (sym made)
    ∙ ap (λ (n : ℕ). record_head p.time n ++ (decisions ++ heard_bytes more (suc k))) (add-one k)
    ∙ ap (λ (n : ℕ). record_head p.time n ++ (decisions ++ heard_bytes more n)) (sym count)

-- an entry with one telegram more, over its bytes and 4 behind them
pub entry_extended :
    (p : Poll) (heard : Telegram) (x : List ℕ) → length x ≡ 4 → extended_bytes (entry_bytes p ++ x) p.time (length p.telegrams) heard ≡ entry_bytes (with_telegram p heard)
unfolding extended_bytes entry_bytes
entry_extended p heard x size =
    let count : 18 + 4 * length p.telegrams ≡ length (poll_bytes (with_telegram p heard)) =
    omega (arith, poll_length (with_telegram p heard), length-append p.telegrams (heard ∷ [])) in
    rw (record_extended p heard x size, count)

-- a part of the caller's slice that was handed on, back in its place
pub added_written :
    (newest : Newest) (time used : ℕ) (heard : Telegram) (l : List ℕ) {part : List ℕ}
    → 19 ≤ length l - newest.end
    → part ≡ entry_bytes (new_poll time heard)
    → (taken used (record { place = newest.end; end = newest.end + 19; time = time; telegrams = 1 }) ≡ added_taken newest time used (length l))
    × (put_mid newest.end (newest.end + 19 - newest.end) l part ≡ added_left newest time heard l)
unfolding added_taken added_left
added_written newest time used heard l {part} room is =
    let width : newest.end + 19 - newest.end ≡ 19 = omega arith in
    rw (le-ltb (length l - newest.end) 19 room, width, drop-drop, is) (refl, refl)

pub newest_written :
    (newest : Newest) (used : ℕ) (heard : Telegram) (l : List ℕ) {part : List ℕ}
    → newest.place ≤ newest.end
    → 4 ≤ length l - newest.end
    → part ≡ extended_bytes (take (newest.end + 4 - newest.place) (drop newest.place l)) newest.time newest.telegrams heard
    → (taken used (record { place = newest.place; end = newest.end + 4; time = newest.time; telegrams = newest.telegrams + 1 }) ≡ extended_taken newest used (length l))
    × (put_mid newest.place (newest.end + 4 - newest.place) l part ≡ extended_left newest heard l)
unfolding extended_taken extended_left
newest_written newest used heard l {part} begun room is =
    let whole : newest.place + (newest.end + 4 - newest.place) ≡ newest.end + 4 = omega arith in
    rw (le-ltb (length l - newest.end) 4 room, drop-drop, whole, is) (refl, refl)

newest_end : (polls : List Poll) → (newest_of polls).end ≡ length (entries_of polls)
unfolding entries_of
newest_end [] = refl
newest_end (p ∷ older) = refl

newest_time : (polls : List Poll) → (newest_of polls).time ≡ last_time polls
newest_time [] = refl
newest_time (p ∷ older) = refl

newest_count : (polls : List Poll) → (newest_of polls).telegrams ≡ last_count polls
newest_count [] = refl
newest_count (p ∷ older) = refl

-- the entry of the newest poll stands behind those of the older ones
entries_more : (p : Poll) (older : List Poll) → entries_of (p ∷ older) ≡ entries_of older ++ entry_bytes p
unfolding entries_of
entries_more p older = refl

-- entries have the bytes of the older ones and of the newest
pub entries_length : (p : Poll) (older : List Poll) → length (entries_of (p ∷ older)) ≡ length (entries_of older) + (15 + 4 * length p.telegrams)
unfolding entries_of
entries_length p older = length-append (entries_of older) (entry_bytes p) ∙ rw (entry_length_lem p)

newest_fits : (polls : List Poll) → Good polls → {room : ℕ} → length (entries_of polls) ≤ room → Fits (newest_of polls) room
newest_fits [] good fits = record { begun = omega arith; ended = omega arith; few = omega arith }
newest_fits (p ∷ older) good fits = record { begun = omega (arith, entries_length p older); ended = fits; few = good.1 }

laid_length : (polls : List Poll) (before : List ℕ) → length (entries_of polls) ≤ length before → length (laid polls before) ≡ length before
laid_length polls before room = length-append (entries_of polls) _ ∙ rw length-drop (omega arith)

-- before the first line
pub stands_first : (before : List ℕ) → Standing [] before before (newest_of [])
unfolding entries_of
stands_first before = record { good = tt; is = refl; stand = refl; room = omega arith }

module _ {polls : List Poll} {before entries : List ℕ} {newest : Newest} (s : Standing polls before entries newest) where
  pub stands_length : length entries ≡ length before
  stands_length = ap length s.stand ∙ laid_length polls before s.room

  pub stands_fit : Fits newest (length entries)
  stands_fit = rw (s.is, stands_length) (newest_fits polls s.good s.room)

-- room for some bytes more
room_more : (room end n : ℕ) → end ≤ room → ltb (room - end) n ≡ ltb room (end + n)
room_more room end n h =
    cases (ltb room (end + n))
    (λ a. rw a (lt-ltb (room - end) n (omega (arith, ltb-true room (end + n) a))))
    (λ a. rw a (le-ltb (room - end) n (omega (arith, ltb-false room (end + n) a))))

-- a new entry behind those of polls
module _ (polls : List Poll) (before : List ℕ) (fits : length (entries_of polls) ≤ length before) (time : ℕ) (heard : Telegram) where
  new_length : length (entries_of (new_poll time heard ∷ polls)) ≡ length (entries_of polls) + 19
  new_length = entries_length (new_poll time heard) polls

  added_taken_lem :
      (used : ℕ)
      → added_taken (newest_of polls) time used (length before)
      ≡ cond (ltb (length before) (length (entries_of (new_poll time heard ∷ polls)))) (Err 18) (taken used (newest_of (new_poll time heard ∷ polls)))
  unfolding added_taken
  added_taken_lem used = rw (newest_end polls, room_more (length before) (length (entries_of polls)) 19 fits, new_length)

  added_left_lem :
      added_left (newest_of polls) time heard (laid polls before)
      ≡ cond (ltb (length before) (length (entries_of (new_poll time heard ∷ polls)))) (laid polls before) (laid (new_poll time heard ∷ polls) before)
  unfolding added_left
  added_left_lem =
      let e = entries_of polls in
      let end = length e in
      let back : drop (end + 19) (laid polls before) ≡ drop (end + 19) before =
      sym (drop-drop 19 end (laid polls before)) ∙ ap (drop 19) (drop_at e (drop end before) end refl) ∙ drop-drop 19 end before in
      rw (newest_end polls, laid_length polls before fits, room_more (length before) end 19 fits, new_length, take_at e (drop end before) end refl, back)
      (ap (λ (l : List ℕ). cond (ltb (length before) (end + 19)) (laid polls before) l)
      (sym (rw (entries_more (new_poll time heard) polls) (append_assoc e (entry_bytes (new_poll time heard)) (drop (end + 19) before)))))

-- a poll has one telegram more
more_count : (p : Poll) (heard : Telegram) → length (with_telegram p heard).telegrams ≡ length p.telegrams + 1
more_count p heard = length-append p.telegrams (heard ∷ [])

-- one telegram more in the newest entry
module _ (p : Poll) (older : List Poll) (before : List ℕ) (fits : length (entries_of (p ∷ older)) ≤ length before) (heard : Telegram) where
  more_length : length (entries_of (with_telegram p heard ∷ older)) ≡ length (entries_of (p ∷ older)) + 4
  more_length = omega (arith, entries_length (with_telegram p heard) older, entries_length p older, length-append p.telegrams (heard ∷ []))

  extended_taken_lem :
      (used : ℕ)
      → extended_taken (newest_of (p ∷ older)) used (length before)
      ≡ cond (ltb (length before) (length (entries_of (with_telegram p heard ∷ older)))) (Err 18) (taken used (newest_of (with_telegram p heard ∷ older)))
  unfolding extended_taken
  extended_taken_lem used = rw (room_more (length before) (length (entries_of (p ∷ older))) 4 fits, more_length, more_count p heard)

  extended_left_lem :
      ltb (length before) (length (entries_of (with_telegram p heard ∷ older))) ≡ false
      → extended_left (newest_of (p ∷ older)) heard (laid (p ∷ older) before) ≡ laid (with_telegram p heard ∷ older) before
  unfolding extended_left
  extended_left_lem roomy =
      let o = entries_of older in
      let b = entry_bytes p in
      let place = length o in
      let end = length (entries_of (p ∷ older)) in
      let x = drop end before in
      let after = drop (end + 4) before in
      let ends : end ≡ place + length b = ap length (entries_more p older) ∙ length-append o b in
      let more : end + 4 ≤ length before = omega (arith, more_length, ltb-false (length before) (length (entries_of (with_telegram p heard ∷ older))) roomy) in
      let l : laid (p ∷ older) before ≡ o ++ (b ++ x) = ap (λ (y : List ℕ). y ++ x) (entries_more p older) ∙ append_assoc o b x in
      let width : end + 4 - place ≡ length b + 4 = omega arith in
      let four : length (take 4 x) ≡ 4 = length-take-le 4 x (rw length-drop (omega arith)) in
      let back : drop (end + 4) (laid (p ∷ older) before) ≡ after =
      sym (drop-drop 4 end (laid (p ∷ older) before)) ∙ ap (drop 4) (drop_at (entries_of (p ∷ older)) x end refl) ∙ drop-drop 4 end before in
      let part : take (end + 4 - place) (drop place (laid (p ∷ older) before)) ≡ b ++ take 4 x =
      rw (l, drop_at o (b ++ x) place refl, width) (take-append-add b x 4) in
      let first : take place (laid (p ∷ older) before) ≡ o = rw l (take_at o (b ++ x) place refl) in
      let test : ltb (length (laid (p ∷ older) before) - end) 4 ≡ false =
      rw (laid_length (p ∷ older) before fits, room_more (length before) end 4 fits, ← more_length) roomy in
      let e = entry_bytes (with_telegram p heard) in
      rw (test, first, part, back, entry_extended p heard (take 4 x) four, more_length)
      (sym (append_assoc o e after) ∙ ap (λ (y : List ℕ). y ++ after) (sym (entries_more (with_telegram p heard) older)))

  extended_full :
      ltb (length before) (length (entries_of (with_telegram p heard ∷ older))) ≡ true
      → extended_left (newest_of (p ∷ older)) heard (laid (p ∷ older) before) ≡ laid (p ∷ older) before
  unfolding extended_left
  extended_full full =
      let end = length (entries_of (p ∷ older)) in
      let test : ltb (length (laid (p ∷ older) before) - end) 4 ≡ true =
      rw (laid_length (p ∷ older) before fits, room_more (length before) end 4 fits, ← more_length) full in
      rw test

-- A line

-- what becomes of a telegram after polls
module _ {polls : List Poll} {before entries : List ℕ} {newest : Newest} (s : Standing polls before entries newest) (time : ℕ) (heard : Telegram) (used : ℕ) where
  hear_taken_lem :
      hear_taken newest time used (length entries)
      ≡ cond (ltb (length before) (length (entries_of (heard_after polls time heard)))) (Err 18) (taken used (newest_of (heard_after polls time heard)))
  unfolding hear_taken is_newest heard_after
  hear_taken_lem = rw (stands_length s, s.is) (by_polls polls s.good s.room)
    where
      by_polls :
          (ps : List Poll)
          → Good ps
          → length (entries_of ps) ≤ length before
          → hear_taken (newest_of ps) time used (length before)
          ≡ cond (ltb (length before) (length (entries_of (heard_after ps time heard)))) (Err 18) (taken used (newest_of (heard_after ps time heard)))
      by_polls [] good room = added_taken_lem [] before room time heard used
      by_polls (p ∷ older) good room =
          let some : eqb (length p.telegrams) 0 ≡ false = ne_eqb (length p.telegrams) 0 (λ e. omega (arith, good.0)) in
          cases (eqb time p.time)
          (λ a. rw (some, a) (extended_taken_lem p older before room heard used))
          (λ a. rw (some, a) (added_taken_lem (p ∷ older) before room time heard used))

  hear_left_lem :
      ltb (length before) (length (entries_of (heard_after polls time heard))) ≡ false
      → hear_left newest time heard entries ≡ laid (heard_after polls time heard) before
  unfolding hear_left is_newest heard_after
  hear_left_lem h = rw (s.stand, s.is) (by_polls polls s.good s.room h)
    where
      by_polls :
          (ps : List Poll)
          → Good ps
          → length (entries_of ps) ≤ length before
          → ltb (length before) (length (entries_of (heard_after ps time heard))) ≡ false
          → hear_left (newest_of ps) time heard (laid ps before) ≡ laid (heard_after ps time heard) before
      by_polls [] good room roomy = added_left_lem [] before room time heard ∙ rw roomy
      by_polls (p ∷ older) good room roomy =
          let some : eqb (length p.telegrams) 0 ≡ false = ne_eqb (length p.telegrams) 0 (λ e. omega (arith, good.0)) in
          cases (eqb time p.time)
          (λ a. rw (some, a) (extended_left_lem p older before room heard (rw a at roomy)))
          (λ a. rw (some, a) (added_left_lem (p ∷ older) before room time heard ∙ rw (rw a at roomy)))

  hear_full : ltb (length before) (length (entries_of (heard_after polls time heard))) ≡ true → hear_left newest time heard entries ≡ entries
  unfolding hear_left is_newest heard_after
  hear_full h = rw (s.stand, s.is) (by_polls polls s.good s.room h)
    where
      by_polls :
          (ps : List Poll)
          → Good ps
          → length (entries_of ps) ≤ length before
          → ltb (length before) (length (entries_of (heard_after ps time heard))) ≡ true
          → hear_left (newest_of ps) time heard (laid ps before) ≡ laid ps before
      by_polls [] good room full = added_left_lem [] before room time heard ∙ rw full
      by_polls (p ∷ older) good room full =
          let some : eqb (length p.telegrams) 0 ≡ false = ne_eqb (length p.telegrams) 0 (λ e. omega (arith, good.0)) in
          cases (eqb time p.time)
          (λ a. rw (some, a) (extended_full p older before room heard (rw a at full)))
          (λ a. rw (some, a) (added_left_lem (p ∷ older) before room time heard ∙ rw (rw a at full)))

-- no ninth telegram of one time is taken
pub heard_good : (polls : List Poll) (time : ℕ) (heard : Telegram) → Good polls → time_refusal (last_time polls) (last_count polls) time ≡ 0 → Good (heard_after polls time heard)
unfolding heard_after time_refusal
heard_good [] time heard good ok = (lit≤ tt, lit≤ tt, tt)
heard_good (p ∷ older) time heard good ok =
    let k = length p.telegrams in
    cases (eqb time p.time)
    (λ a.
    let last : ltb time p.time ≡ false = le-ltb time p.time (omega (arith, eqb-true time p.time a)) in
    cases (leb 8 k)
    (λ b. never 32 (rw (last, b, a) at ok))
    (λ b. rw a (omega (arith, more_count p heard), omega (arith, leb-false 8 k b, more_count p heard), good.2)))
    (λ a. rw a (lit≤ tt, lit≤ tt, good))

-- the number of what became of a line
abbrev number_at : Result Taken ℕ → ℕ
number_at (Ok t) = 0
number_at (Err refusal) = refusal

-- how many bytes a line has
abbrev used_in : LineRead → ℕ
used_in NotBuilt = 0
used_in (Refused time refusal) = 0
used_in (Accepted time heard used) = used

module _ {polls : List Poll} {before entries : List ℕ} {newest : Newest} (s : Standing polls before entries newest) where
  -- the test of the time is that of the definition
  time_same : (time : ℕ) → time_refusal newest.time newest.telegrams time ≡ time_refusal (last_time polls) (last_count polls) time
  time_same time = rw (s.is, newest_time polls, newest_count polls)

  -- a line is refused with the definition's number
  line_refusal_lem : (line : LineRead) → number_at (line_taken line newest (length entries)) ≡ line_refusal polls line (length before)
  unfolding line_taken line_refusal
  line_refusal_lem NotBuilt = refl
  line_refusal_lem (Refused time refusal) = rw (time_same time)
  line_refusal_lem (Accepted time heard used) =
      let number = time_refusal (last_time polls) (last_count polls) time in
      let full = ltb (length before) (length (entries_of (heard_after polls time heard))) in
      rw (time_same time, hear_taken_lem s time heard used)
      (cases (eqb number 0) (λ a. rw a (cases full (λ b. rw b) (λ b. rw b))) (λ a. rw a))

  -- a refused line changes nothing
  line_kept : (line : LineRead) → (line_refusal polls line (length before) ≡ 0 → ⊥) → line_left line newest entries ≡ entries
  unfolding line_left line_refusal
  line_kept NotBuilt h = refl
  line_kept (Refused time refusal) h = refl
  line_kept (Accepted time heard used) h =
      let number = time_refusal (last_time polls) (last_count polls) time in
      let full = ltb (length before) (length (entries_of (heard_after polls time heard))) in
      rw (time_same time)
      (cases (eqb number 0)
      (λ a. rw a (cases full (λ b. hear_full s time heard used b) (λ b. absurd (h (rw (a, b))))))
      (λ a. rw a))

  -- a line that is taken
  line_stands :
      (line : LineRead)
      → line_refusal polls line (length before) ≡ 0
      → {t : Taken}
      → Ok t ≡ line_taken line newest (length entries)
      → Standing (polls_after polls line) before (line_left line newest entries) t.newest × (t.used ≡ used_in line)
  unfolding line_taken line_left line_refusal
  line_stands NotBuilt h e = never 30 h
  line_stands (Refused time refusal) h {t} e = cc
  line_stands (Accepted time heard used) h {t} e =
      let number = time_refusal (last_time polls) (last_count polls) time in
      let full = ltb (length before) (length (entries_of (heard_after polls time heard))) in
      cases (eqb number 0)
      (λ a.
      cases full
      (λ b. never 17 (rw (a, b) at h))
      (λ b.
      let is = rw (time_same time, a, hear_taken_lem s time heard used, b) at e in
      let same : t ≡ record { used = used; newest = newest_of (heard_after polls time heard) } = cc in
      rw (time_same time, a, same) (
        record {
          good = heard_good polls time heard s.good (eqb-true number 0 a);
          is = refl;
          stand = hear_left_lem s time heard used b;
          room = ltb-false (length before) (length (entries_of (heard_after polls time heard))) b;
        },
        refl,
      )))
      (λ a. absurd (eqb-false number 0 a (rw a at h)))

-- before the first line
pub goes_first : (text before : List ℕ) → Going text before before 0 0 (newest_of [])
unfolding import_of
goes_first text before = record { polls = []; stands = stands_first before; begun = omega arith; within = omega arith; run = refl }

-- a text from a place on
tail_of : (text : List ℕ) (at : ℕ) → take (length text - at) (drop at text) ≡ drop at text
tail_of text at = take_all (length text - at) (drop at text) (rw length-drop (le_refl (length text - at)))

-- lines that begin with one that is refused, and with one that is taken
module _ (polls : List Poll) (line room : ℕ) (text : List ℕ) (more : 1 ≤ length text) where
  import_refused :
      (line_refusal polls (line_at text) room ≡ 0 → ⊥)
      → import_from polls line (lines_of text) room ≡ record { polls = polls; refusal = line_refusal polls (line_at text) room; line = line + 1 }
  unfolding import_from
  import_refused h =
      let first = first_line text more in
      rw (first.splits, first.says, ne_eqb (line_refusal polls (line_at text) room) 0 h)

  import_taken :
      line_refusal polls (line_at text) room ≡ 0
      → (import_from polls line (lines_of text) room ≡ import_from (polls_after polls (line_at text)) (line + 1) (lines_of (drop (used_in (line_at text)) text)) room)
      × (1 ≤ used_in (line_at text))
      × (used_in (line_at text) ≤ length text)
  unfolding import_from line_refusal
  import_taken h = by_line (line_at text) refl h
    where
      by_line :
          (said : LineRead)
          → line_at text ≡ said
          → line_refusal polls said room ≡ 0
          → (import_from polls line (lines_of text) room ≡ import_from (polls_after polls said) (line + 1) (lines_of (drop (used_in said) text)) room)
          × (1 ≤ used_in said)
          × (used_in said ≤ length text)
      by_line NotBuilt says ok = never 30 ok
      by_line (Refused time refusal) says ok =
          let number = time_refusal (last_time polls) (last_count polls) time in
          cases (eqb number 0) (λ a. absurd (numbered text says (rw a at ok))) (λ a. absurd (eqb-false number 0 a (rw a at ok)))
      by_line (Accepted time heard used) says ok =
          let a = accepts text says in
          let test : eqb (line_refusal polls (Accepted time heard used) room) 0 ≡ true = eq-eqb _ 0 ok in
          (rw (a.splits, a.says, says, test), a.some_used, a.within)

-- what the loop's state comes to where it ends
came : (text : List ℕ) {before entries : List ℕ} {polls : List Poll} {newest : Newest} → Standing polls before entries newest → (refusal line : ℕ)
    → import_of text (length before) ≡ record { polls = polls; refusal = refusal; line = line }
    → (record { line = line; written = newest.end; refusal = refusal } ≡ imported_of (import_of text (length before))) × (entries ≡ buffer_of (import_of text (length before)) before)
unfolding imported_of buffer_of
came text {before} {entries} {polls} {newest} s refusal line e = rw e (rw (s.is, newest_end polls), s.stand)

module _ {text before entries : List ℕ} {at line : ℕ} {newest : Newest} (g : Going text before entries at line newest) where
  pub goes_fit : Fits newest (length entries)
  goes_fit = stands_fit g.stands

  pub goes_length : length entries ≡ length before
  goes_length = stands_length g.stands

  -- no line is left
  pub goes_done :
      length text ≤ at
      → (record { line = 0; written = newest.end; refusal = 0 } ≡ imported_of (import_of text (length before))) × (entries ≡ buffer_of (import_of text (length before)) before)
  unfolding import_from
  goes_done h = came text g.stands 0 0 (g.run ∙ rw (drop_of_length-le text h))

  module _
      (more : at < length text)
      {became : Result Taken ℕ}
      {left : List ℕ}
      (is : became ≡ line_taken (line_at (take (length text - at) (drop at text))) newest (length entries))
      (leaves : left ≡ line_left (line_at (take (length text - at) (drop at text))) newest entries) where
    some : 1 ≤ length (drop at text)
    some = rw length-drop (omega arith)

    number : number_at became ≡ line_refusal g.polls (line_at (drop at text)) (length before)
    number = ap number_at is ∙ rw (tail_of text at) (line_refusal_lem g.stands (line_at (drop at text)))

    module _ {refusal : ℕ} (refused : became ≡ Err refusal) (numbers : refusal ≡ 0 → ⊥) where
      bad : line_refusal g.polls (line_at (drop at text)) (length before) ≡ 0 → ⊥
      bad e = numbers (sym (ap number_at refused) ∙ number ∙ e)

      -- a refused line changes nothing
      pub goes_kept : left ≡ entries
      goes_kept = leaves ∙ rw (tail_of text at) (line_kept g.stands (line_at (drop at text)) bad)

      -- the next line is refused
      pub goes_refused :
          (record { line = line + 1; written = newest.end; refusal = refusal } ≡ imported_of (import_of text (length before))) × (left ≡ buffer_of (import_of text (length before)) before)
      goes_refused =
          let same : refusal ≡ line_refusal g.polls (line_at (drop at text)) (length before) = sym (ap number_at refused) ∙ number in
          rw (goes_kept, same)
          (came text g.stands (line_refusal g.polls (line_at (drop at text)) (length before)) (line + 1)
          (g.run ∙ import_refused g.polls line (length before) (drop at text) some bad))

    -- it is taken
    pub goes_next : {t : Taken} → became ≡ Ok t → Going text before left (at + t.used) (line + 1) t.newest × (1 ≤ t.used) × (at + t.used ≤ length text)
    goes_next {t} h =
        let said = line_at (drop at text) in
        let ok : line_refusal g.polls said (length before) ≡ 0 = sym number ∙ ap number_at h in
        let became_is : became ≡ line_taken said newest (length entries) = is ∙ rw (tail_of text at) in
        let stands = line_stands g.stands said ok (sym h ∙ became_is) in
        let next = import_taken g.polls line (length before) (drop at text) some ok in
        let used : t.used ≡ used_in said = stands.1 in
        let here : left ≡ line_left said newest entries = leaves ∙ rw (tail_of text at) in
        let within : at + t.used ≤ length text = omega (arith, next.2, length-drop at text) in (
          record {
            polls = polls_after g.polls said;
            stands = rw here stands.0;
            begun = omega (arith, g.begun, next.1);
            within = within;
            run = g.run ∙ next.0 ∙ rw (← used, drop-drop);
          },
          omega (arith, next.1),
          within,
        )

-- answers that say the same as numbers are the same
pub import_same : (x y : Result ℕ RefusedLine) → import_told x ≡ import_told y → x ≡ y
import_same (Ok m) (Ok n) h = ap (λ (i : Imported). Ok i.written) h
import_same (Ok m) (Err e) h = absurd (refused e.refusal (sym (ap (λ (i : Imported). i.refusal) h)))
import_same (Err d) (Ok n) h = absurd (refused d.refusal (ap (λ (i : Imported). i.refusal) h))
import_same (Err d) (Err e) h =
    ap (λ (n : ℕ). Err (record { line = n; refusal = d.refusal; written = d.written })) (ap (λ (i : Imported). i.line) h)
    ∙ ap (λ (r : Refusal). Err (record { line = e.line; refusal = r; written = d.written })) (number_same d.refusal e.refusal (ap (λ (i : Imported). i.refusal) h))
    ∙ ap (λ (n : ℕ). Err (record { line = e.line; refusal = e.refusal; written = n })) (ap (λ (i : Imported). i.written) h)
