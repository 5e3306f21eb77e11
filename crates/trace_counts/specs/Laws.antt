-- The loop over a trace's entries, turn by turn; and the call's ends. Assumes nothing.
use Rattle.std.specs.Prelude.{ℕ, ◌+◌, ◌-◌, ◌*◌, ◌^◌, ◌<◌, ◌≤◌, ◌≡◌, refl, List, [], ◌∷◌, ◌++◌, length, get_or, take, drop, Some, None, Ok, Err}
use Rattle.std.proofs.Math.Path.{sym, ap}
use Rattle.std.proofs.Common.{◌∙◌, append_assoc, arith, add-zero, lt-ltb, le-ltb, lit≤}
use Rattle.codec_fields.specs.Fields.{low_bytes, stored_of}
use Rattle.codec_fields.proofs.Stores.{stored_room, store_next}
use Rattle.codec_answers.specs.declared.Answer.{Answer}
use Rattle.station.specs.declared.parts.Counts.{Counts}
use Rattle.station.specs.declared.station.Station.{Station}
use Rattle.station_answer.specs.Answer.{Polled}
use Rattle.trace_headers.specs.Headers.{header_length}
use Rattle.trace.specs.Entries.{record_length, entry_of}
use Rattle.trace.specs.Trace.{Accepted, Refused, start_of, Run, ended, ran_of, number_of, room_for, whole_replay, whole_number, whole_number_on}
use Rattle.trace.specs.declared.entries.Entry.{Entry}
use Rattle.trace.specs.Taken.{TakesEntry, told}
use Rattle.trace.proofs.Taken.{whole, cut_short, none_left}
use Rattle.refusals.specs.declared.refusal.Refusal.{Refusal}
use Rattle.refusals.specs.Refusals.{number_of as refusal_number}
use Rattle.trace.specs.Laws.{Reached, preceded_by}
use Rattle.trace.proofs.Laws.{reached_first, left_run, reached_end, left_none, left_cut, reached_next, replay_started}
use Rattle.trace_counts.specs.TraceCounts.{counts_length, counts_over, counted_after, counts_number, counts_into, counts_into_on}

-- three stores are the counts' bytes
pub counts_stored : (s : List ℕ) (a b c : ℕ) → counts_length ≤ length s → stored_of (stored_of (stored_of s 0 4 a) 4 4 b) 8 4 c ≡ (low_bytes 4 a ++ (low_bytes 4 b ++ low_bytes 4 c)) ++ drop 12 s
counts_stored s a b c room =
    ap (λ (x : List ℕ). stored_of (stored_of x 4 4 b) 8 4 c) (stored_room s 0 4 a (lit≤ tt) (omega arith))
    ∙ ap (λ (x : List ℕ). stored_of x 8 4 c) (store_next (low_bytes 4 a) s 4 4 b refl (lit≤ tt) (omega arith))
    ∙ store_next (low_bytes 4 a ++ low_bytes 4 b) s 8 4 c refl (lit≤ tt) (omega arith)
    ∙ ap (λ (x : List ℕ). x ++ drop 12 s) (append_assoc (low_bytes 4 a) (low_bytes 4 b) (low_bytes 4 c))

-- where the loop stands: at this entry of the run
pub record Counting (fresh : Station) (trace : List ℕ) (station : Station) (at entries : ℕ) : Type 0 where
  pub small : length trace ≤ 2 ^ 32
  pub begun : header_length trace + entries ≤ at
  pub within : at ≤ length trace
  pub given : List Answer
  pub reached : Reached fresh trace (room_for trace) given station at entries

-- before the first entry
pub counts_first : (fresh : Station) (trace : List ℕ) → header_length trace ≤ length trace → length trace ≤ 2 ^ 32 → Counting fresh trace fresh (header_length trace) 0
counts_first fresh trace h small = record { small = small; begun = omega arith; within = h; given = []; reached = reached_first fresh trace (room_for trace) h small }

module _ {fresh : Station} {trace : List ℕ} {station : Station} {at entries : ℕ} (g : Counting fresh trace station at entries) where
  -- what the loop returns where the run ends
  abbrev Over : ℕ → Type 0
  Over number = (number ≡ number_of (ran_of fresh trace (room_for trace))) × (station.counts ≡ counted_after fresh trace)

  over : (ending : ℕ) → left_run g.reached ≡ ended station ending → Over (entries * 256 + ending)
  unfolding number_of counted_after
  over ending e = (
    rw (reached_end g.reached station ending e, g.reached.many),
    sym (ap (λ (run : Run). run.station.counts) (g.reached.run ∙ ap (preceded_by g.given) e)),
  )

  -- the trace ends inside the entry
  pub counts_cut : at < length trace → length trace - (at + 1) < record_length (get_or trace at 0) → Over (entries * 256 + 17)
  counts_cut some h = over 17 (left_cut g.reached some h)

  -- no byte is left
  pub counts_done : length trace ≤ at → Over (entries * 256)
  counts_done h =
      let last = over 0 (left_none g.reached h) in
      (sym (add-zero (entries * 256)) ∙ last.0, last.1)

  -- the entry is answered: the loop stands at the next one
  pub counts_next :
      at < length trace
      → (k : ℕ) (polled : Polled)
      → k ≡ record_length (get_or trace at 0)
      → k ≤ length trace - (at + 1)
      → polled ≡ entry_of station (get_or trace at 0) (take (at + 1 + k - (at + 1)) (drop (at + 1) trace))
      → Counting fresh trace polled.station (at + 1 + k) (entries + 1)
  counts_next some k polled size h e =
      let on = reached_next g.reached some k polled size h (omega (arith, g.begun, some)) e in
      record { small = g.small; begun = on.begun; within = on.within; given = g.given ++ (polled.answer ∷ []); reached = on }

-- The loop over the entries that are left.

-- where it stands: they are the trace's from the place of an entry of the run
pub record CountingEntries (fresh : Station) (trace : List ℕ) (station : Station) (rest : List ℕ) (entries : ℕ) : Type 0 where
  pub few : entries ≤ 2 ^ 32
  pub at : ℕ
  pub left : rest ≡ drop at trace
  pub counting : Counting fresh trace station at entries

-- before the first entry
pub entries_first :
    (fresh : Station) (trace : List ℕ)
    → header_length trace ≤ length trace
    → length trace ≤ 2 ^ 32
    → CountingEntries fresh trace fresh (drop (header_length trace) trace) 0
entries_first fresh trace h small = record { few = omega arith; at = header_length trace; left = refl; counting = counts_first fresh trace h small }

module _ {fresh : Station} {trace : List ℕ} {station : Station} {rest : List ℕ} {entries : ℕ} (g : CountingEntries fresh trace station rest entries) where
  -- what the loop returns and the station has counted where the run ends
  abbrev Counted : ℕ → Type 0
  Counted number = (number ≡ number_of (ran_of fresh trace (room_for trace))) × (station.counts ≡ counted_after fresh trace)

  -- the trace ends inside the entry
  pub entries_cut : (refusal : Refusal) (left : List ℕ) → TakesEntry rest (Some (Err refusal)) left → Counted (entries * 256 + refusal_number refusal)
  entries_cut refusal left t =
      let c = cut_short trace rest g.at refusal left g.left t in
      rw c.number (counts_cut g.counting c.some c.short)

  -- no entry is left
  pub entries_done : (left : List ℕ) → TakesEntry rest None left → Counted (entries * 256)
  entries_done left t = counts_done g.counting (none_left trace rest g.at left g.left t)

  -- the entry is answered: the loop stands at the next one
  pub entries_next :
      (entry : Entry) (left : List ℕ) (polled : Polled)
      → TakesEntry rest (Some (Ok entry)) left
      → polled ≡ told station entry
      → CountingEntries fresh trace polled.station left (entries + 1)
  entries_next entry left polled t e =
      let w = whole trace rest g.at entry left g.left t in
      let on = counts_next g.counting w.some (record_length (get_or trace g.at 0)) polled refl w.fits (e ∙ w.says station) in
      record { few = omega (arith, on.begun, on.within, on.small); at = g.at + 1 + record_length (get_or trace g.at 0); left = w.behind; counting = on }

-- The call's ends.

-- what the call returns and leaves
abbrev Ends : List ℕ → List ℕ → ℕ → List ℕ → Type 0
Ends trace before number left = (number ≡ counts_number trace (length before)) × (left ≡ counts_into trace before)

-- a refused header: its number
pub ends_header : (trace before : List ℕ) (n : ℕ) → start_of trace ≡ Refused n → Ends trace before n before
unfolding counts_number whole_number whole_number_on counts_into counts_into_on
ends_header trace before n e = rw e (refl, refl)

-- no room: 18
pub ends_no_room : (trace before : List ℕ) (s : Station) → start_of trace ≡ Accepted s → length before < counts_length → Ends trace before 18 before
unfolding counts_number whole_number whole_number_on counts_into counts_into_on counts_over
ends_no_room trace before s e short = rw (e, lt-ltb (length before) counts_length short) (refl, refl)

-- the whole trace is run
pub ends_run :
    (trace before : List ℕ) (s : Station) (number : ℕ) (k : Counts) (left : List ℕ)
    → start_of trace ≡ Accepted s
    → counts_length ≤ length before
    → number ≡ number_of (ran_of s trace (room_for trace))
    → k ≡ counted_after s trace
    → left ≡ counts_over before k
    → Ends trace before number left
unfolding counts_number whole_number whole_number_on whole_replay counts_into counts_into_on
ends_run trace before s number k left e room en ek el = (
  rw (e, le-ltb (length before) counts_length room) (en ∙ ap number_of (sym (replay_started trace (room_for trace) s e))),
  rw e (el ∙ rw ek refl),
)
