-- What an import writes: entries that a trace accepts, within the room, over bytes that otherwise stay. The theorems have their
-- statements here. Assumes nothing.
use Rattle.std.specs.Prelude.{ℕ, zero, suc, ◌+◌, ◌^◌, ◌<◌, ◌≤◌, ◌≡◌, refl, List, [], ◌∷◌, ◌++◌, Bool, true, false, not, ◌&&◌, length, take, drop, eqb, ltb, Result, Ok, Err}
use Rattle.std.proofs.Common.{sym, subst, append-nil, append_assoc, arith, ltb-true, ltb-false, eqb-true, take_at, drop_at, lit<}
use Rattle.std.proofs.lemmas.Bool.{eqb-false}
use borrow.Table.Steps.{cases}
use Rattle.codec_fields.specs.Fields.{Bytes}
use Rattle.codec_fields.proofs.Laws.{never}
use Rattle.codec_telegrams.specs.declared.Telegram.{Telegram}
use Rattle.codec_telegrams.specs.Words.{TelegramFits}
use Rattle.codec_frames.specs.declared.Frame.{Frame}
use Rattle.codec_frames.specs.Frames.{read_as, frame_of}
use Rattle.codec_records.specs.Records.{record_refusal}
use Rattle.codec_records_written.specs.Whole.{RecordFits}
use Rattle.codec_records_written.proofs.Written.{round_trip}
use Rattle.capture_lines.specs.Lines.{LineRead, NotBuilt, Refused, Accepted, clock_limit, digit_of, is_hex, digits_at, after_digits, decimal, pairs_at, after_pairs, some, begins, zero_digit, is_end, is_time, after_time, is_built, said_of, line_of, lines_of, space}
use Rattle.capture_import.specs.Import.{Poll, head_of, declines, telegram_of, poll_bytes, entry_bytes, entries_of, heard_after, polls_after, last_time, last_count, time_refusal, line_refusal, import_from, import_of, buffer_of}
use Rattle.capture_import.specs.Laws.{Good}
use Rattle.capture_import.proofs.Laws.{poll_length, heard_good}
use Rattle.theorem_frames.proofs.RoundTrip.{read_fits}
use Rattle.theorem_captures.specs.Accepted.{AcceptedEntries, AllFit, Fit, Holds, Rise, more, none}

-- entries and entries behind them
joined : {a b : List ℕ} → AcceptedEntries a → AcceptedEntries b → AcceptedEntries (a ++ b)
joined none y = y
joined {b = b} (more bytes rest least most ok x) y =
    subst (λ (l : List ℕ). AcceptedEntries (length bytes ∷ l)) (sym (append_assoc bytes rest b)) (more bytes (rest ++ b) least most ok (joined x y))

all_fit : (ts : List Telegram) → AllFit ts → (j : ℕ) → j < length ts → TelegramFits (telegram_of ts j)
all_fit [] f j h = absurd (omega arith)
all_fit (t ∷ ts) f zero h = f.0
all_fit (t ∷ ts) f (suc j) h = all_fit ts f.1 j (omega arith)

one_more_lem : (ts : List Telegram) (t : Telegram) → AllFit ts → TelegramFits t → AllFit (ts ++ (t ∷ []))
one_more_lem [] t f h = (h, tt)
one_more_lem (x ∷ ts) t f h = (f.0, one_more_lem ts t f.1 h)

-- the numbers of a poll's record fit, where its clock and its telegrams do
pub poll_fits : (p : Poll) → length p.telegrams ≤ 8 → p.time < 2 ^ 48 → AllFit p.telegrams → RecordFits (head_of p.time (length p.telegrams)) 1 declines (telegram_of p.telegrams)
poll_fits p few clock fit = record { head = (clock, few, lit< tt); decided = λ a high h. tt; heard = all_fit p.telegrams fit }

-- so it is accepted
pub poll_accepted : (p : Poll) → length p.telegrams ≤ 8 → p.time < 2 ^ 48 → AllFit p.telegrams → record_refusal (poll_bytes p) 1 ≡ 0
unfolding poll_bytes
poll_accepted p few clock fit =
    (round_trip.says (head_of p.time (length p.telegrams)) 1 declines (telegram_of p.telegrams) (poll_fits p few clock fit)).accepted

-- so are the entries of polls
entries_accepted : (polls : List Poll) → Good polls → Fit polls → AcceptedEntries (entries_of polls)
unfolding entries_of entry_bytes
entries_accepted [] good fit = none
entries_accepted (p ∷ older) good fit =
    let r = poll_bytes p in
    let one : AcceptedEntries (length r ∷ (r ++ [])) =
    more r [] (omega (arith, poll_length p)) (omega (arith, poll_length p, good.1)) (poll_accepted p good.1 fit.0 fit.1) none in
    joined (entries_accepted older good.2 fit.2) (subst (λ (l : List ℕ). AcceptedEntries (length r ∷ l)) (append-nil r) one)

-- What a line says fits

pub and_both : (a b : Bool) → a && b ≡ true → (a ≡ true) × (b ≡ true)
and_both true b h = (refl, h)
and_both false b h = let z : ◌≡◌ {A = ℕ} 0 1 = cc in absurd (omega arith)

-- pairs of hex digits are bytes
pub pairs_bytes : (text : List ℕ) → Bytes (pairs_at text)
pairs_bytes [] = tt
pairs_bytes (a ∷ []) = tt
pairs_bytes (a ∷ b ∷ rest) =
    cases (is_hex a && is_hex b)
    (λ h.
    let both = and_both (is_hex a) (is_hex b) h in
    rw h (omega (arith, ltb-true (digit_of a) 16 both.0, ltb-true (digit_of b) 16 both.1), pairs_bytes rest))
    (λ h. rw h tt)

-- what an accepted line says of its time and its frame
said_is :
    (time count size : ℕ) (read : Result Frame ℕ) {at used : ℕ} {t : Telegram} → said_of time read count size ≡ Accepted at t used → (at ≡ time) × (read ≡ read_as t count)
unfolding said_of
said_is time count size (Err n) e = let z : ◌≡◌ {A = ℕ} 0 1 = cc in absurd (omega arith)
said_is time count size (Ok f) {at} {used} {t} e =
    cases (eqb f.used count)
    (λ a.
    let h = rw a at e in
    let same : f.telegram ≡ t = cc in
    let clock : at ≡ time = cc in
    (clock, rw (← same, ← eqb-true f.used count a)))
    (λ a. let h = rw a at e in let z : ◌≡◌ {A = ℕ} 0 1 = cc in absurd (omega arith))

pub line_is :
    (l : List ℕ) {at used : ℕ} {t : Telegram}
    → line_of l ≡ Accepted at t used
    → (is_built l ≡ true) × (at ≡ decimal (digits_at l)) × (frame_of (pairs_at (after_time l)) ≡ read_as t (length (pairs_at (after_time l))))
unfolding line_of
line_is l e =
    let f = pairs_at (after_time l) in
    cases (is_built l)
    (λ a. let said = said_is (decimal (digits_at l)) (length f) (length l) (frame_of f) (rw a at e) in (a, said.0, said.1))
    (λ a. let h = rw a at e in let z : ◌≡◌ {A = ℕ} 0 1 = cc in absurd (omega arith))

line_fits : (l : List ℕ) {at used : ℕ} {t : Telegram} → line_of l ≡ Accepted at t used → (at < 2 ^ 48) × TelegramFits t
unfolding is_built
line_fits l e =
    let f = pairs_at (after_time l) in
    let d = digits_at l in
    let time = is_time d in
    let spaced = begins space (after_digits l) in
    let paired = some f in
    let said = line_is l e in
    let timed = (and_both time spaced (and_both (time && spaced) paired (and_both (time && spaced && paired) (is_end (after_pairs (after_time l))) said.0).0).0).0 in
    let below = (and_both (some d && not (begins zero_digit d && not (eqb (length d) 1))) (ltb (decimal d) clock_limit) timed).1 in
    (rw said.1 (ltb-true (decimal d) clock_limit below), read_fits f (pairs_bytes (after_time l)) said.2)

-- polls after a telegram that fits
heard_fit : (polls : List Poll) (time : ℕ) (t : Telegram) → Fit polls → time < 2 ^ 48 → TelegramFits t → Fit (heard_after polls time t)
unfolding heard_after
heard_fit [] time t fit clock h = (clock, (h, tt), tt)
heard_fit (p ∷ older) time t fit clock h =
    cases (eqb time p.time)
    (λ a. rw a (fit.0, one_more_lem p.telegrams t fit.1 h, fit.2))
    (λ a. rw a (clock, (h, tt), fit))

-- polls after a telegram whose time is not refused
heard_rise : (polls : List Poll) (time : ℕ) (t : Telegram) → Rise polls → time_refusal (last_time polls) (last_count polls) time ≡ 0 → Rise (heard_after polls time t)
unfolding heard_after time_refusal
heard_rise [] time t rise ok = (tt, tt)
heard_rise (p ∷ older) time t rise ok =
    cases (eqb time p.time)
    (λ a. rw a rise)
    (λ a.
    cases (ltb time p.time)
    (λ b. never 31 (rw b at ok))
    (λ b. rw a (omega (arith, eqb-false time p.time a, ltb-false time p.time b), rise)))

line_holds : (room : ℕ) (polls : List Poll) (l : List ℕ) (said : LineRead) → line_of l ≡ said → line_refusal polls said room ≡ 0 → Holds room polls → Holds room (polls_after polls said)
unfolding line_refusal
line_holds room polls l NotBuilt says ok h = h
line_holds room polls l (Refused time n) says ok h = h
line_holds room polls l (Accepted time t used) says ok h =
    let number = time_refusal (last_time polls) (last_count polls) time in
    let full = ltb room (length (entries_of (heard_after polls time t))) in
    let fits = line_fits l says in
    cases (eqb number 0)
    (λ a.
    cases full
    (λ b. never 17 (rw (a, b) at ok))
    (λ b. (
      heard_good polls time t h.0 (eqb-true number 0 a),
      heard_fit polls time t h.1 fits.0 fits.1,
      heard_rise polls time t h.2 (eqb-true number 0 a),
      ltb-false room (length (entries_of (heard_after polls time t))) b,
    )))
    (λ a. absurd (eqb-false number 0 a (rw a at ok)))

lines_hold : (room : ℕ) (polls : List Poll) (before : ℕ) (ls : List (List ℕ)) → Holds room polls → Holds room (import_from polls before ls room).polls
unfolding import_from
lines_hold room polls before [] h = h
lines_hold room polls before (l ∷ ls) h =
    let number = line_refusal polls (line_of l) room in
    cases (eqb number 0)
    (λ a. rw a (lines_hold room (polls_after polls (line_of l)) (before + 1) ls (line_holds room polls l (line_of l) refl (eqb-true number 0 a) h)))
    (λ a. rw a h)

pub import_holds : (text : List ℕ) (room : ℕ) → Holds room (import_of text room).polls
unfolding import_of entries_of
import_holds text room = lines_hold room [] 0 (lines_of text) (tt, tt, tt, omega arith)

-- Every import, of an accepted capture or of the lines before a refused one, gives entries that a trace accepts: none is cut, and
-- each record's refusal is 0
pub imported_accepted : (text : List ℕ) (room : ℕ) → AcceptedEntries (entries_of (import_of text room).polls)
imported_accepted text room = let h = import_holds text room in entries_accepted (import_of text room).polls h.0 h.1

-- They have room
pub imported_within : (text : List ℕ) (room : ℕ) → length (entries_of (import_of text room).polls) ≤ room
imported_within text room = (import_holds text room).3

-- bytes over others: they stand at the start, and past them is what was there
pub stands : (bytes before : List ℕ) → (take (length bytes) (bytes ++ drop (length bytes) before) ≡ bytes) × (drop (length bytes) (bytes ++ drop (length bytes) before) ≡ drop (length bytes) before)
stands bytes before = (take_at bytes (drop (length bytes) before) (length bytes) refl, drop_at bytes (drop (length bytes) before) (length bytes) refl)

-- The call leaves them at the start of the caller's slice, and every byte past them has the value that it had, on refusals too
pub imported_stands :
    (text before : List ℕ)
    → let i = import_of text (length before) in
    (take (length (entries_of i.polls)) (buffer_of i before) ≡ entries_of i.polls) × (drop (length (entries_of i.polls)) (buffer_of i before) ≡ drop (length (entries_of i.polls)) before)
unfolding buffer_of
imported_stands text before = stands (entries_of (import_of text (length before)).polls) before
