-- The loop over a trace's entries with a table beside the station, turn by turn (`Listening`); and the call's ends. Assumes nothing.
use Prim.Native.Nat.{ℕ, ◌+◌, ◌-◌, ◌*◌, ◌^◌, ◌<◌, ◌≤◌}
use Rattle.std.specs.Prelude.{◌≡◌, refl, length, take, Some, None, Ok, Err}
use Rattle.std.proofs.Math.Path.{sym, ap}
use Rattle.std.proofs.Common.{◌∙◌, arith, add-zero, length-drop}
use mathlib.Core.List.{List, [], ◌∷◌, ◌++◌}
use Rattle.std.proofs.Math.Nat.{sub-zero}
use borrow.Author.Tests.{lt-ltb, le-ltb, ne_eqb}
use Rattle.std.proofs.Math.ListN.{get_or, drop}
use Rattle.std.proofs.Math.Seq.{drop-drop}
use Rattle.codec_answers.specs.declared.Answer.{Answer}
use Rattle.station.specs.declared.station.Station.{Station}
use Rattle.station_answer.specs.Answer.{Polled}
use Rattle.heard.specs.Heard.{Found, entry_length, heard_refusal, hear_all, consumed_in, lookup_of, summary_into}
use Rattle.heard.specs.Afresh.{Clocked, fresh_table}
use Rattle.heard.specs.Steps.{hear_append}
use Rattle.heard.specs.Laws.{clocked_append, consumed_clocked, summary_no_room, summary_refused, lookup_afresh}
use Rattle.trace_headers.specs.Headers.{header_length, header_of}
use Rattle.trace.specs.Entries.{record_length, entry_of}
use Rattle.trace.specs.Trace.{TraceStart, Accepted, Refused, start_of, Run, ended, ran_of, number_of, room_for, whole_replay, whole_number, whole_number_on}
use Rattle.trace.specs.declared.entries.Entry.{Entry}
use Rattle.trace.specs.Taken.{TakesEntry, told, record_of}
use Rattle.trace.proofs.Taken.{whole, cut_short, none_left}
use Rattle.refusals.specs.declared.refusal.Refusal.{Refusal}
use Rattle.refusals.specs.Refusals.{number_of as refusal_number}
use Rattle.trace.specs.Laws.{Reached}
use Rattle.trace.proofs.Laws.{reached_first, left_run, reached_end, left_none, here, left_cut, left_more, reached_next, start_applications, replay_started}
use Rattle.trace_heard.specs.TraceHeard.{consumed_over, heard_in, found_after, heard_number, heard_into, heard_into_on}
use Rattle.trace_heard.specs.Laws.{Listening}

-- before the first entry
pub listens :
    (fresh : Station) (n : ℕ) (trace before : List ℕ)
    → header_length trace ≤ length trace
    → length trace ≤ 2 ^ 32
    → Listening fresh n trace before before fresh (header_length trace) 0
listens fresh n trace before h small =
    record {
      small = small;
      begun = omega arith;
      within = h;
      long = refl;
      given = [];
      reached = reached_first fresh trace (room_for trace) h small;
      heard = rw (length-drop, sub-zero (length trace - header_length trace), sub-zero (room_for trace));
    }

module _ {fresh : Station} {n : ℕ} {trace before table : List ℕ} {station : Station} {at entries : ℕ} (g : Listening fresh n trace before table station at entries) where
  -- what the loop returns and leaves where the run ends
  abbrev Over : ℕ → Type 0
  Over number =
      (number ≡ number_of (ran_of fresh trace (room_for trace)))
      × (table ≡ hear_all before (consumed_over n (drop (header_length trace) trace) (ran_of fresh trace (room_for trace)).answers))

  over_number : (s : Station) (ending : ℕ) → left_run g.reached ≡ ended s ending → entries * 256 + ending ≡ number_of (ran_of fresh trace (room_for trace))
  unfolding number_of
  over_number s ending e = rw (reached_end g.reached s ending e, g.reached.many)

  over_table :
      (s : Station) (ending : ℕ)
      → left_run g.reached ≡ ended s ending
      → table ≡ hear_all before (consumed_over n (drop (header_length trace) trace) (ran_of fresh trace (room_for trace)).answers)
  unfolding ran_of consumed_over hear_all
  over_table s ending e = sym (g.heard ∙ ap (λ (run : Run). hear_all table (consumed_over n (drop at trace) run.answers)) e)

  -- where it ends so
  over : (s : Station) (ending : ℕ) → left_run g.reached ≡ ended s ending → Over (entries * 256 + ending)
  over s ending e = (over_number s ending e, over_table s ending e)

  -- the trace ends inside the entry
  pub heard_cut : at < length trace → length trace - (at + 1) < record_length (get_or trace at 0) → Over (entries * 256 + 17)
  heard_cut some h = over station 17 (left_cut g.reached some h)

  -- no byte is left
  pub heard_done : length trace ≤ at → Over (entries * 256)
  heard_done h =
      let last = over station 0 (left_none g.reached h) in
      (sym (add-zero (entries * 256)) ∙ last.0, last.1)

  -- the entry is answered and what it consumed is heard: the loop stands at the next one
  pub heard_next :
      at < length trace
      → (k : ℕ) (polled : Polled) (z : List ℕ)
      → k ≡ record_length (get_or trace at 0)
      → k ≤ length trace - (at + 1)
      → polled ≡ entry_of station (get_or trace at 0) (take (at + 1 + k - (at + 1)) (drop (at + 1) trace))
      → z ≡ hear_all table (consumed_in (take (at + 1 + k - (at + 1)) (drop (at + 1) trace)) n polled.answer.consumed)
      → length z ≡ length table
      → Listening fresh n trace before z polled.station (at + 1 + k) (entries + 1)
  unfolding consumed_over
  heard_next some k polled z size h e ez same =
      record {
        small = g.small;
        begun = on.begun;
        within = on.within;
        long = same ∙ g.long;
        given = g.given ++ (polled.answer ∷ []);
        reached = on;
        heard =
            g.heard
            ∙ ap (λ (run : Run). hear_all table (consumed_over n (drop at trace) run.answers)) (left_more g.reached some k polled size h room e)
            ∙ ap (λ (l : List ℕ). hear_all table (consumed_over n l (polled.answer ∷ rest))) (here g.reached some)
            ∙ hear_append table (consumed_in (take (record_length kind) behind) n polled.answer.consumed) (consumed_over n (drop (record_length kind) behind) rest)
            ∙ ap (λ (x : List ℕ). hear_all x (consumed_over n (drop (record_length kind) behind) rest)) fed
            ∙ ap (λ (l : List ℕ). hear_all z (consumed_over n l rest)) (ap (λ (m : ℕ). drop m behind) (sym size) ∙ drop-drop k (at + 1) trace);
      }
    where
      kind : ℕ
      kind = get_or trace at 0

      behind : List ℕ
      behind = drop (at + 1) trace

      -- there is room for every answer
      room : 8 ≤ room_for trace - 8 * entries
      room = omega (arith, g.begun, some)

      on : Reached fresh trace (room_for trace) (g.given ++ (polled.answer ∷ [])) polled.station (at + 1 + k) (entries + 1)
      on = reached_next g.reached some k polled size h room e

      -- the answers that are left
      rest : List Answer
      rest = (left_run on).answers

      fed : hear_all table (consumed_in (take (record_length kind) behind) n polled.answer.consumed) ≡ z
      fed =
          let a : at + 1 + k - (at + 1) ≡ k = omega arith in
          sym (ez ∙ ap (λ (m : ℕ). hear_all table (consumed_in (take m behind) n polled.answer.consumed)) (a ∙ size))

-- The loop over the entries that are left.

-- where it stands: they are the trace's from the place of an entry of the run
pub record ListeningEntries (fresh : Station) (n : ℕ) (trace before table : List ℕ) (station : Station) (rest : List ℕ) (entries : ℕ) : Type 0 where
  pub few : entries ≤ 2 ^ 32
  pub at : ℕ
  pub left : rest ≡ drop at trace
  pub listening : Listening fresh n trace before table station at entries

-- before the first entry
pub entries_first :
    (fresh : Station) (n : ℕ) (trace before : List ℕ)
    → header_length trace ≤ length trace
    → length trace ≤ 2 ^ 32
    → ListeningEntries fresh n trace before before fresh (drop (header_length trace) trace) 0
entries_first fresh n trace before h small = record { few = omega arith; at = header_length trace; left = refl; listening = listens fresh n trace before h small }

module _ {fresh : Station} {n : ℕ} {trace before table : List ℕ} {station : Station} {rest : List ℕ} {entries : ℕ} (g : ListeningEntries fresh n trace before table station rest entries) where
  -- what the loop returns and leaves where the run ends
  abbrev Heard : ℕ → Type 0
  Heard number =
      (number ≡ number_of (ran_of fresh trace (room_for trace)))
      × (table ≡ hear_all before (consumed_over n (drop (header_length trace) trace) (ran_of fresh trace (room_for trace)).answers))

  -- the trace ends inside the entry
  pub entries_cut : (refusal : Refusal) (left : List ℕ) → TakesEntry rest (Some (Err refusal)) left → Heard (entries * 256 + refusal_number refusal)
  entries_cut refusal left t =
      let c = cut_short trace rest g.at refusal left g.left t in
      rw c.number (heard_cut g.listening c.some c.short)

  -- no entry is left
  pub entries_done : (left : List ℕ) → TakesEntry rest None left → Heard (entries * 256)
  entries_done left t = heard_done g.listening (none_left trace rest g.at left g.left t)

  -- the entry is answered and what it consumed is heard: the loop stands at the next one
  pub entries_next :
      (entry : Entry) (left : List ℕ) (polled : Polled) (bytes z : List ℕ)
      → TakesEntry rest (Some (Ok entry)) left
      → polled ≡ told station entry
      → bytes ≡ record_of entry
      → z ≡ hear_all table (consumed_in bytes n polled.answer.consumed)
      → length z ≡ length table
      → ListeningEntries fresh n trace before z polled.station left (entries + 1)
  entries_next entry left polled bytes z t e eb ez same =
      let w = whole trace rest g.at entry left g.left t in
      let on =
      heard_next g.listening w.some (record_length (get_or trace g.at 0)) polled z refl w.fits (e ∙ w.says station)
      (ez ∙ ap (λ (l : List ℕ). hear_all table (consumed_in l n polled.answer.consumed)) (eb ∙ w.bytes)) same in
      record { few = omega (arith, on.begun, on.within, on.small); at = g.at + 1 + record_length (get_or trace g.at 0); left = w.behind; listening = on }

-- The call's ends.

-- the telegrams heard in a trace have clocks of 48 bits
over_clocked : (n : ℕ) (entries : List ℕ) (answers : List Answer) → Clocked (consumed_over n entries answers)
unfolding consumed_over
over_clocked n entries [] = tt
over_clocked n [] (a ∷ answers) = tt
over_clocked n (kind ∷ rest) (a ∷ answers) =
    clocked_append (consumed_in (take (record_length kind) rest) n a.consumed) (consumed_over n (drop (record_length kind) rest) answers)
    (consumed_clocked (take (record_length kind) rest) n a.consumed) (over_clocked n (drop (record_length kind) rest) answers)

pub heard_clocked : (trace : List ℕ) → Clocked (heard_in trace)
unfolding heard_in
heard_clocked trace = over_clocked (header_of trace).applications (drop (header_length trace) trace) (whole_replay trace).answers

-- what the call returns and leaves
abbrev Ends : List ℕ → ℕ → List ℕ → ℕ → List ℕ → Type 0
Ends trace address before number left = (number ≡ heard_number trace address (length before)) × (left ≡ heard_into trace address before)

-- 26: nothing is shown, whatever the header
pub ends_refused : (trace : List ℕ) (address : ℕ) (before : List ℕ) → (heard_refusal address ≡ 0 → ⊥) → Ends trace address before (heard_refusal address) before
unfolding heard_number heard_into heard_into_on found_after
ends_refused trace address before refused = (rw (ne_eqb (heard_refusal address) 0 refused), go (start_of trace))
  where
    go : (x : TraceStart) → before ≡ heard_into_on x trace address before
    go (Accepted s) = sym (summary_refused (heard_in trace) address before refused)
    go (Refused n) = refl

-- a refused header: its number
pub ends_header : (trace : List ℕ) (address : ℕ) (before : List ℕ) (n : ℕ) → heard_refusal address ≡ 0 → start_of trace ≡ Refused n → Ends trace address before n before
unfolding heard_number whole_number whole_number_on heard_into heard_into_on
ends_header trace address before n known e = rw (known, e) (refl, refl)

-- no room: 18
pub ends_no_room :
    (trace : List ℕ) (address : ℕ) (before : List ℕ) (s : Station)
    → heard_refusal address ≡ 0
    → start_of trace ≡ Accepted s
    → length before < entry_length
    → Ends trace address before 18 before
unfolding heard_number whole_number whole_number_on heard_into heard_into_on
ends_no_room trace address before s known e short =
    rw (known, e, lt-ltb (length before) entry_length short) (refl, sym (summary_no_room (found_after trace address) before short))

-- the whole trace is run
module _ (trace : List ℕ) (address : ℕ) (before : List ℕ) (s : Station) (known : heard_refusal address ≡ 0) (e : start_of trace ≡ Accepted s) where
  run_replays : whole_replay trace ≡ ran_of s trace (room_for trace)
  unfolding whole_replay
  run_replays = replay_started trace (room_for trace) s e

  run_returns : entry_length ≤ length before → number_of (ran_of s trace (room_for trace)) ≡ heard_number trace address (length before)
  unfolding heard_number whole_number whole_number_on
  run_returns room = rw (known, e, le-ltb (length before) entry_length room, run_replays)

  run_says :
      (n : ℕ) (table : List ℕ)
      → n ≡ (header_of trace).applications
      → table ≡ hear_all fresh_table (consumed_over n (drop (header_length trace) trace) (ran_of s trace (room_for trace)).answers)
      → lookup_of table address ≡ found_after trace address
  unfolding found_after heard_in
  run_says n table same is =
      ap (λ (l : List ℕ). lookup_of l address) (is ∙ rw (same, ← run_replays) refl) ∙ lookup_afresh (heard_in trace) address (heard_clocked trace)

  run_leaves : summary_into (found_after trace address) before ≡ heard_into trace address before
  unfolding heard_into heard_into_on
  run_leaves = rw e

  pub ends_run :
      (number : ℕ) (table left : List ℕ)
      → entry_length ≤ length before
      → number ≡ number_of (ran_of s trace (room_for trace))
      → table ≡ hear_all fresh_table (consumed_over s.applications (drop (header_length trace) trace) (ran_of s trace (room_for trace)).answers)
      → left ≡ summary_into (lookup_of table address) before
      → Ends trace address before number left
  ends_run number table left room en etable eleft = (en ∙ run_returns room, eleft ∙ ap (λ (f : Found). summary_into f before) (run_says s.applications table (start_applications trace s e) etable) ∙ run_leaves)
