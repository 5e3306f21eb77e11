-- A record written by the calls is what a record is, is accepted and reads back; an accepted record is what it says, and is written
-- back as it was. Assumes nothing.
use Prim.Native.Nat.{ℕ, zero, suc, ◌+◌, ◌-◌, ◌*◌, ◌/◌, ◌%◌, ◌^◌, ◌<◌, ◌≤◌}
use Rattle.std.specs.Prelude.{◌≡◌, Bool, take, drop, get_or, ltb}
use Rattle.std.proofs.Math.Path.{refl, sym, ap, subst}
use Rattle.std.proofs.Common.{◌∙◌, ⊎_elim, eq-or-lt_of_le, div-one, drop_of_length-le, take_at, drop_at, lit≤}
use mathlib.Core.List.{List, [], ◌++◌, append_assoc, append-nil}
use Rattle.std.proofs.Math.Bool.{true, false}
use native.Mathlib.Omega.{arith}
use borrow.Author.Tests.{eq-eqb, lt-ltb, le-ltb, ltb-true, ltb-false}
use borrow.Table.Steps.{cases}
use Rattle.std.proofs.Math.ListN.{length, length-append}
use Rattle.codec_fields.specs.Fields.{field_of, is_one, bit_at, bit_number, be, load_of, unpack, Within, low_bytes, stored_of, Bytes}
use Rattle.codec_fields.proofs.Laws.{unpack_put, put_unpack, put_below, low_length, be_low, bit_below, bit_read, bit_written}
use Rattle.codec_fields.proofs.Stores.{stored_room, load_room, load_below, store_load, store_next}
use Rattle.codec_telegrams.specs.Words.{telegram_word}
use Rattle.codec_decisions.specs.Decisions.{decision_refusal, decision_word}
use Rattle.codec_telegrams.specs.Laws.{telegram_below, telegram_read}
use Rattle.codec_decisions.proofs.Laws.{decision_below, decision_read}
use Rattle.codec_telegrams.specs.declared.Telegram.{Telegram}
use Rattle.codec_decisions.specs.declared.Decision.{Decision}
use Rattle.codec_records.specs.declared.Head.{Head}
use Rattle.codec_records.specs.Records.{head_widths, head_of, count_of, decision_word_at, telegram_word_at, decision_at, telegram_at, entry_refusal, record_refusal}
use Rattle.codec_records.specs.Laws.{none_first, clock_below, pending_below, good, good_decision, good_telegram}
use Rattle.codec_records_written.specs.Stored.{head_values, head_word, HeadFits, head_stored, decision_stored, telegram_stored}
use Rattle.codec_records_written.specs.Whole.{each, application_bytes, telegram_bytes, record_bytes, decisions_stored, telegrams_stored, record_stored, RecordFits, Says, RoundTrip}

-- parts of c bytes each, one after the other
each_length : (part : ℕ → List ℕ) (c k : ℕ) → ((i : ℕ) → length (part i) ≡ c) → length (each part k) ≡ c * k
unfolding each
each_length part c zero h = omega arith
each_length part c (suc k) h = length-append (each part k) (part k) ∙ ap (λ (x : ℕ). x + length (part k)) (each_length part c k h) ∙ rw (h k) (omega arith)

-- a decision written where what is written so far ends
decision_next :
    (p s : List ℕ) (n a : ℕ) (high : Bool) (d : Decision) (at : ℕ)
    → length p ≡ at
    → at ≡ 8 + 3 * (2 * a + bit_number high)
    → a < n
    → at + 3 ≤ length s
    → decision_stored (p ++ drop at s) n a high d ≡ (p ++ low_bytes 3 (decision_word d)) ++ drop (at + 3) s
unfolding decision_stored
decision_next p s n a high d at q e l room = rw (lt-ltb a n l, ← e) (store_next p s at 3 (decision_word d) q (lit≤ tt) room)

-- the decisions of k applications, after the head
decisions_next :
    (p s : List ℕ) (n : ℕ) (ds : ℕ → Bool → Decision) (k : ℕ)
    → length p ≡ 8
    → k ≤ n
    → 8 + 6 * n ≤ length s
    → decisions_stored (p ++ drop 8 s) n ds k ≡ (p ++ each (application_bytes ds) k) ++ drop (8 + 6 * k) s
unfolding decisions_stored each
decisions_next p s n ds zero q l room = ap (λ (x : List ℕ). x ++ drop 8 s) (sym (append-nil p))
decisions_next p s n ds (suc a) q l room =
    let f = application_bytes ds in
    let b = low_bytes 3 (decision_word (ds a false)) in
    let d = low_bytes 3 (decision_word (ds a true)) in
    let here = p ++ each f a in
    let long : length here ≡ 8 + 6 * a = length-append p (each f a) ∙ rw (q, each_length f 6 a (λ i. refl)) in
    let more : length (here ++ b) ≡ 8 + 6 * a + 3 = length-append here b ∙ rw long in
    let first : 8 + 6 * a ≡ 8 + 3 * (2 * a + 0) = omega arith in
    let second : 8 + 6 * a + 3 ≡ 8 + 3 * (2 * a + 1) = omega arith in
    let end : 8 + 6 * a + 3 + 3 ≡ 8 + 6 * suc a = omega arith in
    ap (λ (x : List ℕ). decision_stored (decision_stored x n a false (ds a false)) n a true (ds a true)) (decisions_next p s n ds a q (omega arith) room)
    ∙ ap (λ (x : List ℕ). decision_stored x n a true (ds a true)) (decision_next here s n a false (ds a false) (8 + 6 * a) long first (omega arith) (omega arith))
    ∙ decision_next (here ++ b) s n a true (ds a true) (8 + 6 * a + 3) more second (omega arith) (omega arith)
    ∙ ap (λ (x : ℕ). ((here ++ b) ++ d) ++ drop x s) end
    ∙ ap (λ (x : List ℕ). x ++ drop (8 + 6 * suc a) s) (append_assoc here b d ∙ append_assoc p (each f a) (b ++ d))

-- k telegrams, after the decisions
telegrams_next :
    (p s : List ℕ) (n : ℕ) (ts : ℕ → Telegram) (k : ℕ)
    → length p ≡ 8 + 6 * n
    → 8 + 6 * n + 4 * k ≤ length s
    → telegrams_stored (p ++ drop (8 + 6 * n) s) n ts k ≡ (p ++ each (telegram_bytes ts) k) ++ drop (8 + 6 * n + 4 * k) s
unfolding telegrams_stored telegram_stored each
telegrams_next p s n ts zero q room =
    let e : 8 + 6 * n + 4 * 0 ≡ 8 + 6 * n = omega arith in
    rw e (ap (λ (x : List ℕ). x ++ drop (8 + 6 * n) s) (sym (append-nil p)))
telegrams_next p s n ts (suc j) q room =
    let f = telegram_bytes ts in
    let here = p ++ each f j in
    let long : length here ≡ 8 + 6 * n + 4 * j = length-append p (each f j) ∙ rw (q, each_length f 4 j (λ i. refl)) in
    let end : 8 + 6 * n + 4 * j + 4 ≡ 8 + 6 * n + 4 * suc j = omega arith in
    ap (λ (x : List ℕ). stored_of x (8 + 6 * n + 4 * j) 4 (telegram_word (ts j))) (telegrams_next p s n ts j q (omega arith))
    ∙ store_next here s (8 + 6 * n + 4 * j) 4 (telegram_word (ts j)) long (lit≤ tt) (omega arith)
    ∙ ap (λ (x : ℕ). (here ++ f j) ++ drop x s) end
    ∙ ap (λ (x : List ℕ). x ++ drop (8 + 6 * n + 4 * suc j) s) (append_assoc p (each f j) (f j))

-- bytes of the right length, with a whole record written over them by the calls, are that record
record_written :
    (s : List ℕ) (h : Head) (n : ℕ) (ds : ℕ → Bool → Decision) (ts : ℕ → Telegram)
    → length s ≡ 8 + 6 * n + 4 * h.telegrams
    → record_stored s h n ds ts ≡ record_bytes h n ds ts
unfolding record_stored record_bytes head_stored
record_written s h n ds ts long =
    let k = h.telegrams in
    let p = low_bytes 8 (head_word h) in
    let a = each (application_bytes ds) n in
    let t = each (telegram_bytes ts) k in
    let q : length (p ++ a) ≡ 8 + 6 * n = length-append p a ∙ rw (each_length (application_bytes ds) 6 n (λ i. refl)) in
    ap (λ (x : List ℕ). telegrams_stored (decisions_stored x n ds n) n ts k) (stored_room s 0 8 (head_word h) (lit≤ tt) (omega arith))
    ∙ ap (λ (x : List ℕ). telegrams_stored x n ts k) (decisions_next p s n ds n refl (omega arith) (omega arith))
    ∙ telegrams_next (p ++ a) s n ts k q (omega arith)
    ∙ ap (λ (x : List ℕ). ((p ++ a) ++ t) ++ x) (drop_of_length-le s {i = 8 + 6 * n + 4 * k} (omega arith))
    ∙ append-nil ((p ++ a) ++ t)
    ∙ append_assoc p a t

-- part stands in s from a place on
record Stands (s : List ℕ) (at : ℕ) (part : List ℕ) : Type 0 where
  before : List ℕ
  after : List ℕ
  is : s ≡ before ++ (part ++ after)
  place : length before ≡ at

-- a word that stands there is loaded
stands_load : {s : List ℕ} {at : ℕ} (count w : ℕ) → Stands s at (low_bytes count w) → count ≤ 8 → w < 2 ^ (8 * count) → load_of s at count ≡ w
stands_load {s} {at} count w x c h =
    let b = x.before in
    let a = x.after in
    let p = low_bytes count w in
    let room : at + count ≤ length s = omega (arith, ap length x.is, length-append b (p ++ a), length-append p a, low_length count w, x.place) in
    load_room s at count c room
    ∙ ap (λ (l : List ℕ). be (take count (drop at l))) x.is
    ∙ ap (λ (l : List ℕ). be (take count l)) (drop_at b (p ++ a) at x.place)
    ∙ ap be (take_at p a count (low_length count w))
    ∙ be_low count w h

-- what stands in a part stands in the whole
stands_in : {s : List ℕ} {at i : ℕ} {p q : List ℕ} → Stands s at p → Stands p i q → Stands s (at + i) q
stands_in {s} {at} {i} {p} {q} x y =
    record {
      before = x.before ++ y.before;
      after = y.after ++ x.after;
      is = x.is ∙ rw y.is (simp append_assoc);
      place = length-append x.before y.before ∙ rw (x.place, y.place);
    }

-- part i stands after i parts of c bytes
each_stands : (part : ℕ → List ℕ) (c k i : ℕ) → ((j : ℕ) → length (part j) ≡ c) → i < k → Stands (each part k) (c * i) (part i)
unfolding each
each_stands part c zero i h l = absurd (omega arith)
each_stands part c (suc k) i h l =
    ⊎_elim
    (λ (e : i ≡ k).
    subst (λ (j : ℕ). Stands (each part k ++ part k) (c * j) (part j)) (sym e)
    (record { before = each part k; after = []; is = ap (λ (x : List ℕ). each part k ++ x) (sym (append-nil (part k))); place = each_length part c k h }))
    (λ (m : i < k).
    let x = each_stands part c k i h m in
    record {
      before = x.before;
      after = x.after ++ part k;
      is =
          ap (λ (y : List ℕ). y ++ part k) x.is
          ∙ append_assoc x.before (part i ++ x.after) (part k)
          ∙ ap (λ (y : List ℕ). x.before ++ y) (append_assoc (part i) x.after (part k));
      place = x.place;
    })
    (eq-or-lt_of_le {n = i} {m = k} (omega arith))

-- both decisions of an application stand in its bytes
two_stand : (ds : ℕ → Bool → Decision) (a : ℕ) (high : Bool) → Stands (application_bytes ds a) (3 * bit_number high) (low_bytes 3 (decision_word (ds a high)))
two_stand ds a false = record { before = []; after = low_bytes 3 (decision_word (ds a true)); is = refl; place = refl }
two_stand ds a true = record { before = low_bytes 3 (decision_word (ds a false)); after = []; is = refl; place = refl }

-- the values of a head that fits are within their widths
head_within : (h : Head) → HeadFits h → Within head_widths (head_values h)
head_within h f = (f.0, (bit_below h.transmitting, (omega (arith, f.1), (f.2, tt))))

-- a head from its fields
abbrev head_from : ℕ → Bool → ℕ → ℕ → Head
head_from clock transmitting telegrams pending = record { clock = clock; pending = pending; telegrams = telegrams; transmitting = transmitting }

-- a head from a list of values
abbrev head_by : List ℕ → Head
head_by l = head_from (get_or l 0 0) (is_one (get_or l 1 0)) (get_or l 2 0) (get_or l 3 0)

-- bytes that begin with the word of a head that fits say it
head_says : (s : List ℕ) (h : Head) → HeadFits h → load_of s 0 8 ≡ head_word h → head_of s ≡ h
unfolding head_of head_word
head_says s h f e =
    ap (λ (w : ℕ). head_by (unpack head_widths w)) e
    ∙ ap head_by (unpack_put head_widths (lit≤ tt) (head_values h) (head_within h f))
    ∙ ap (λ (b : Bool). head_from h.clock b h.telegrams h.pending) (bit_read h.transmitting)

-- the word of a head that fits has 64 bits
head_below : (h : Head) → HeadFits h → head_word h < 2 ^ 64
unfolding head_word
head_below h f = put_below head_widths (lit≤ tt) (head_values h) (head_within h f)

-- 64 bits are the word of the head that they say
head_written : (s : List ℕ) → load_of s 0 8 < 2 ^ 64 → head_word (head_of s) ≡ load_of s 0 8
unfolding head_of head_word
head_written s l = rw (bit_written (load_of s 0 8) 15) (put_unpack head_widths (lit≤ tt) (load_of s 0 8) l)

-- an entry's number is twice its application's, and one more for high priority
halves : (i : ℕ) → 2 * (i / 2) + bit_number (bit_at i 0) ≡ i
unfolding field_of
halves i =
    let e : field_of i 0 1 ≡ i % 2 = ap (λ (x : ℕ). x % 2) (div-one i) in
    ap (λ (x : ℕ). 2 * (i / 2) + x) (bit_written i 0 ∙ e) ∙ omega arith

module _ (h : Head) (n : ℕ) (ds : ℕ → Bool → Decision) (ts : ℕ → Telegram) where
  -- a record has so many bytes
  record_length_lem : length (record_bytes h n ds ts) ≡ 8 + 6 * n + 4 * h.telegrams
  unfolding record_bytes
  record_length_lem =
      let a = each (application_bytes ds) n in
      let t = each (telegram_bytes ts) h.telegrams in
      omega (arith, length-append (low_bytes 8 (head_word h)) (a ++ t), length-append a t, each_length (application_bytes ds) 6 n (λ i. refl), each_length (telegram_bytes ts) 4 h.telegrams (λ i. refl))

  head_stands : Stands (record_bytes h n ds ts) 0 (low_bytes 8 (head_word h))
  unfolding record_bytes
  head_stands = record { before = []; after = each (application_bytes ds) n ++ each (telegram_bytes ts) h.telegrams; is = refl; place = refl }

  decision_stands : (a : ℕ) (high : Bool) → a < n → Stands (record_bytes h n ds ts) (8 + 3 * (2 * a + bit_number high)) (low_bytes 3 (decision_word (ds a high)))
  unfolding record_bytes
  decision_stands a high l =
      let s = record_bytes h n ds ts in
      let all : Stands s 8 (each (application_bytes ds) n) =
      record { before = low_bytes 8 (head_word h); after = each (telegram_bytes ts) h.telegrams; is = refl; place = refl } in
      let e : 8 + (6 * a + 3 * bit_number high) ≡ 8 + 3 * (2 * a + bit_number high) = omega arith in
      subst (λ (at : ℕ). Stands s at (low_bytes 3 (decision_word (ds a high)))) e
      (stands_in all (stands_in (each_stands (application_bytes ds) 6 n a (λ i. refl) l) (two_stand ds a high)))

  telegram_stands : (j : ℕ) → j < h.telegrams → Stands (record_bytes h n ds ts) (8 + 6 * n + 4 * j) (low_bytes 4 (telegram_word (ts j)))
  unfolding record_bytes
  telegram_stands j l =
      let p = low_bytes 8 (head_word h) in
      let a = each (application_bytes ds) n in
      let t = each (telegram_bytes ts) h.telegrams in
      let all : Stands (record_bytes h n ds ts) (8 + 6 * n) t =
      record {
        before = p ++ a;
        after = [];
        is = sym (append_assoc p a t) ∙ ap (λ (x : List ℕ). (p ++ a) ++ x) (sym (append-nil t));
        place = length-append p a ∙ rw (each_length (application_bytes ds) 6 n (λ i. refl));
      } in
      stands_in all (each_stands (telegram_bytes ts) 4 h.telegrams j (λ i. refl) l)

  module _ (fits : RecordFits h n ds ts) where
    head_loads : load_of (record_bytes h n ds ts) 0 8 ≡ head_word h
    head_loads = stands_load 8 (head_word h) head_stands (lit≤ tt) (head_below h fits.head)

    decision_loads : (a : ℕ) (high : Bool) → a < n → decision_word_at (record_bytes h n ds ts) (2 * a + bit_number high) ≡ decision_word (ds a high)
    decision_loads a high l = stands_load 3 (decision_word (ds a high)) (decision_stands a high l) (lit≤ tt) (decision_below (ds a high) (fits.decided a high l))

    telegram_loads : (j : ℕ) → j < h.telegrams → telegram_word_at (record_bytes h n ds ts) n j ≡ telegram_word (ts j)
    telegram_loads j l = stands_load 4 (telegram_word (ts j)) (telegram_stands j l) (lit≤ tt) (telegram_below (ts j) (fits.heard j l))

    says_head : head_of (record_bytes h n ds ts) ≡ h
    says_head = head_says (record_bytes h n ds ts) h fits.head head_loads

    says_count : count_of (record_bytes h n ds ts) ≡ h.telegrams
    unfolding head_of
    says_count = ap (λ (x : Head). x.telegrams) says_head

    -- no entry of it is refused: entry i is a decision of application i / 2, or a telegram
    no_refusal : (i : ℕ) → i < 2 * n + h.telegrams → entry_refusal (record_bytes h n ds ts) n i ≡ 0
    unfolding entry_refusal
    no_refusal i l =
        cases (ltb i (2 * n))
        (λ t.
        let less = ltb-true i (2 * n) t in
        let a = i / 2 in
        let m : a < n = omega arith in
        rw t
        (subst (λ (x : ℕ). decision_refusal (decision_word_at (record_bytes h n ds ts) x) ≡ 0) (halves i)
        (rw (decision_loads a (bit_at i 0) m) (decision_read (ds a (bit_at i 0)) (fits.decided a (bit_at i 0) m)).1)))
        (λ t.
        let more = ltb-false i (2 * n) t in
        let m : i - 2 * n < h.telegrams = omega arith in
        rw (t, telegram_loads (i - 2 * n) m) (telegram_read (ts (i - 2 * n)) (fits.heard (i - 2 * n) m)).1)

    -- a record whose numbers fit is accepted and says what it is made of
    record_says : Says (record_bytes h n ds ts) h n ds ts
    unfolding record_refusal decision_at telegram_at
    record_says =
        let s = record_bytes h n ds ts in
        record {
          accepted =
              rw (le-ltb (length s) 8 (omega (arith, record_length_lem)), says_count, le-ltb 8 h.telegrams fits.head.1, eq-eqb (length s) (8 + 6 * n + 4 * h.telegrams) record_length_lem)
              (none_first (entry_refusal s n) (2 * n + h.telegrams) no_refusal);
          head = says_head;
          decided = λ a high l. rw (lt-ltb a n l, decision_loads a high l) (decision_read (ds a high) (fits.decided a high l)).0;
          heard = λ j l.
              rw (le-ltb (length s) (8 + 6 * n + 4 * j + 4) (omega (arith, record_length_lem)), telegram_loads j l) (telegram_read (ts j) (fits.heard j l)).0;
        }

    -- bytes of the right length, written by the calls, are accepted and read back as what was written
    written_reads_back : (s : List ℕ) → length s ≡ 8 + 6 * n + 4 * h.telegrams → Says (record_stored s h n ds ts) h n ds ts
    written_reads_back s long = subst (λ (l : List ℕ). Says l h n ds ts) (sym (record_written s h n ds ts long)) record_says

-- the numbers that an accepted record says fit
record_fits : (s : List ℕ) (n : ℕ) → record_refusal s n ≡ 0 → RecordFits (head_of s) n (decision_at s n) (telegram_at s n)
record_fits s n ok =
    let g = good s n ok in
    record {
      head = (clock_below s, g.telegrams, pending_below s);
      decided = λ a high l. (good_decision g a high l).1;
      heard = λ j l. (good_telegram g j l).1;
    }

module _ (s : List ℕ) (n : ℕ) (b : Bytes s) (ok : record_refusal s n ≡ 0) where
  -- its head written again changes nothing
  head_stays : head_stored s (head_of s) ≡ s
  unfolding head_stored
  head_stays =
      let g = good s n ok in
      let room : 8 ≤ length s = omega (arith, g.long) in
      rw (head_written s (load_below s 0 8 b (lit≤ tt) room)) (store_load s 0 8 b (lit≤ tt) room)

  -- nor does a decision
  decision_stays : (a : ℕ) (high : Bool) → a < n → decision_stored s n a high (decision_at s n a high) ≡ s
  unfolding decision_stored
  decision_stays a high l =
      let g = good s n ok in
      let room : 8 + 3 * (2 * a + bit_number high) + 3 ≤ length s = omega (arith, g.long, bit_below high) in
      rw (lt-ltb a n l, (good_decision g a high l).0) (store_load s (8 + 3 * (2 * a + bit_number high)) 3 b (lit≤ tt) room)

  -- nor a telegram
  telegram_stays : (j : ℕ) → j < (head_of s).telegrams → telegram_stored s n j (telegram_at s n j) ≡ s
  unfolding telegram_stored
  telegram_stays j l =
      let g = good s n ok in
      let room : 8 + 6 * n + 4 * j + 4 ≤ length s = omega (arith, g.long) in
      rw (good_telegram g j l).0 (store_load s (8 + 6 * n + 4 * j) 4 b (lit≤ tt) room)

  decisions_stay : (k : ℕ) → k ≤ n → decisions_stored s n (decision_at s n) k ≡ s
  unfolding decisions_stored
  decisions_stay zero l = refl
  decisions_stay (suc a) l = rw (decisions_stay a (omega arith), decision_stays a false (omega arith)) (decision_stays a true (omega arith))

  telegrams_stay : (k : ℕ) → k ≤ (head_of s).telegrams → telegrams_stored s n (telegram_at s n) k ≡ s
  unfolding telegrams_stored
  telegrams_stay zero l = refl
  telegrams_stay (suc j) l = rw (telegrams_stay j (omega arith)) (telegram_stays j (omega arith))

  -- an accepted record is the record of what it says
  record_is : s ≡ record_bytes (head_of s) n (decision_at s n) (telegram_at s n)
  unfolding record_stored
  record_is =
      let ds = decision_at s n in
      let ts = telegram_at s n in
      let k = (head_of s).telegrams in
      sym
      (ap (λ (x : List ℕ). telegrams_stored (decisions_stored x n ds n) n ts k) head_stays
      ∙ ap (λ (x : List ℕ). telegrams_stored x n ts k) (decisions_stay n (omega arith))
      ∙ telegrams_stay k (omega arith))
      ∙ record_written s (head_of s) n ds ts (good s n ok).long

  -- read and written by the calls over any bytes of its length, it is the same bytes again
  read_writes_back : (over : List ℕ) → length over ≡ length s → record_stored over (head_of s) n (decision_at s n) (telegram_at s n) ≡ s
  read_writes_back over e = record_written over (head_of s) n (decision_at s n) (telegram_at s n) (e ∙ (good s n ok).long) ∙ sym record_is

-- writing and reading undo each other
pub round_trip : RoundTrip
round_trip =
    record {
      written = record_written;
      says = record_says;
      is = record_is;
      fits = record_fits;
      reads_back = λ s h n ds ts fits long. written_reads_back h n ds ts fits s long;
      writes_back = read_writes_back;
    }
