-- The proof of request P7's statement: the run over a whole trace, taken apart into entries. Assumes nothing.
use Rattle.std.specs.Prelude.{ℕ, ◌+◌, ◌-◌, ◌*◌, ◌≤◌, ◌≡◌, refl, ◌⊎◌, length, take}
use Rattle.std.proofs.Common.{sym, ◌∙◌, inl, inr, arith, length-append, length-drop, take-append-drop, take_at, drop_at}
use Rattle.std.proofs.Math.Path.{ap}
use mathlib.Core.List.{List, [], ◌∷◌, ◌++◌, append_assoc}
use borrow.Author.Tests.{le-ltb}
use Rattle.std.proofs.Math.ListN.{drop}
use Rattle.codec_answers.specs.declared.Answer.{Answer}
use Rattle.station.specs.declared.station.Station.{Station}
use Rattle.refusals.specs.Refusals.{answered}
use Rattle.heard.specs.Heard.{Found, last_address, entry_length, heard_refusal, entry_bytes, entry_into, Hearing, consumed_in, lookup_number, shown_of, summary_number, summary_into}
use Rattle.heard.specs.Afresh.{afresh_of}
use Rattle.trace_headers.specs.Headers.{header_length, header_of}
use Rattle.trace.specs.Entries.{record_length}
use Rattle.trace.specs.Trace.{Accepted, start_of, run_of, ran_of, number_of, room_for, whole_replay, whole_number, whole_number_on}
use Rattle.trace.proofs.Laws.{replay_started}
use Rattle.trace_heard.specs.TraceHeard.{consumed_over, heard_in, found_after, heard_number, heard_into, heard_into_on}
use Rattle.theorem_every_trace.specs.Statement.{Entry, Whole, laid, along, Cut, Stops, empty, cut, full}
use Rattle.theorem_every_trace.specs.Theorem.{Taken}
use Rattle.theorem_every_trace.proofs.Theorem.{taken, along_length}
use Rattle.theorem_heard.specs.Statement.{consumed_by, Summarized, Theorem}

-- an entry has a byte at least
pub laid_long : (es : List Entry) → length es ≤ length (laid es)
laid_long [] = omega arith
laid_long (e ∷ es) = rw (length-append e.bytes (laid es)) (omega (arith, laid_long es))

-- what whole entries consumed is what their bytes say
laid_consumed : (n : ℕ) (es : List Entry) (rest : List ℕ) (answers : List Answer) → Whole es → length answers ≡ length es → consumed_over n (laid es ++ rest) answers ≡ consumed_by n es answers
unfolding consumed_over
laid_consumed n [] rest [] whole many = refl
laid_consumed n [] rest (a ∷ answers) whole many = absurd (omega (arith, many))
laid_consumed n (e ∷ es) rest [] whole many = refl
laid_consumed n (e ∷ es) rest (a ∷ answers) whole many =
    let k = record_length e.kind in
    let after : List ℕ = laid es ++ rest in
    let same = append_assoc e.bytes (laid es) rest in
    let first : take k ((e.bytes ++ laid es) ++ rest) ≡ e.bytes = ap (take k) same ∙ take_at e.bytes after k whole.0 in
    let then : drop k ((e.bytes ++ laid es) ++ rest) ≡ after = ap (drop k) same ∙ drop_at e.bytes after k whole.0 in
    ap (λ (l : List ℕ). consumed_in l n a.consumed ++ consumed_over n (drop k ((e.bytes ++ laid es) ++ rest)) answers) first
    ∙ ap (λ (l : List ℕ). consumed_in e.bytes n a.consumed ++ consumed_over n l answers) then
    ∙ ap (λ (l : List Hearing). consumed_in e.bytes n a.consumed ++ l) (laid_consumed n es rest answers whole.1 (omega (arith, many)))

-- with room for every answer a run ends where no byte is left, or inside an entry
pub enough : (room : ℕ) (rest : List ℕ) (ending : ℕ) → 8 * length rest ≤ room → Stops room rest ending → ((rest ≡ []) × (ending ≡ 0)) ⊎ (Cut rest × (ending ≡ 17))
enough room rest ending h empty = inl (refl, refl)
enough room rest ending h (cut kind bytes c) = inr (c, refl)
enough room rest ending h (full kind bytes c f) = absurd (omega (arith, h, f))

-- a summary with room of what nobody refused
pub summary_shown : (found : Found) (before : List ℕ) → lookup_number found ≡ 0 → entry_length ≤ length before → summary_into found before ≡ entry_bytes (shown_of found) ++ drop entry_length before
unfolding summary_into summary_number entry_into
summary_shown found before known room = rw (known, le-ltb (length before) entry_length room)

-- an address to 125 is not refused
pub known_number : (hs : List Hearing) (address : ℕ) → address ≤ last_address → lookup_number (afresh_of hs address) ≡ 0
unfolding afresh_of heard_refusal lookup_number answered
known_number hs address known = rw (le-ltb last_address address known) refl

-- The run over a whole trace that starts a station, taken apart into entries.
module _ (trace : List ℕ) (fresh : Station) where
  abbrev behind : List ℕ
  behind = drop (header_length trace) trace

  pub parts : Taken fresh behind (room_for trace) (run_of fresh behind (room_for trace))
  parts = taken fresh behind (room_for trace)

  -- the trace's bytes are the header's, those of the entries and the rest
  pub parts_bytes : trace ≡ take (header_length trace) trace ++ (laid parts.entries ++ parts.rest)
  parts_bytes = sym (take-append-drop (header_length trace) trace) ∙ ap (λ (l : List ℕ). take (header_length trace) trace ++ l) parts.bytes

  -- the rest is shorter than the room that is left for answers, so the run ends where no byte is left, or inside an entry
  rest_short : 8 * length parts.rest ≤ room_for trace - 8 * length parts.entries
  rest_short =
      omega (arith, ap length parts.bytes, length-append (laid parts.entries) parts.rest, laid_long parts.entries, length-drop (header_length trace) trace)

  pub parts_stop :
      ((parts.rest ≡ []) × ((run_of fresh behind (room_for trace)).ending ≡ 0)) ⊎ (Cut parts.rest × ((run_of fresh behind (room_for trace)).ending ≡ 17))
  parts_stop = enough _ _ _ rest_short parts.stops

  -- what is heard in the trace is what its entries consumed
  pub heard_is : start_of trace ≡ Accepted fresh → heard_in trace ≡ consumed_by (header_of trace).applications parts.entries (along fresh parts.entries).answers
  unfolding heard_in whole_replay ran_of
  heard_is e =
      let n = (header_of trace).applications in
      ap (λ (l : List Answer). consumed_over n behind l) (ap (λ (r : _). r.answers) (replay_started trace (room_for trace) fresh e) ∙ parts.given)
      ∙ ap (λ (l : List ℕ). consumed_over n l (along fresh parts.entries).answers) parts.bytes
      ∙ laid_consumed n parts.entries parts.rest (along fresh parts.entries).answers parts.whole (along_length fresh parts.entries)

module _ (trace : List ℕ) (address : ℕ) (before : List ℕ) (fresh : Station) (e : start_of trace ≡ Accepted fresh) (known : address ≤ last_address) (room : entry_length ≤ length before) where
  -- the call's number is the run's
  returns :
      heard_number trace address (length before)
      ≡ length (run_of fresh (behind trace fresh) (room_for trace)).answers * 256 + (run_of fresh (behind trace fresh) (room_for trace)).ending
  unfolding heard_number heard_refusal whole_number whole_number_on whole_replay ran_of number_of
  returns = rw (le-ltb last_address address known, e, le-ltb (length before) entry_length room, replay_started trace (room_for trace) fresh e)

  -- what is left
  leaves : heard_into trace address before ≡ entry_bytes (shown_of (found_after trace address)) ++ drop entry_length before
  unfolding heard_into heard_into_on found_after
  leaves = rw e (summary_shown (afresh_of (heard_in trace) address) before (known_number (heard_in trace) address known) room)

  summarized : Summarized fresh trace address before (heard_number trace address (length before)) (heard_into trace address before)
  unfolding found_after
  summarized =
      let run = parts trace fresh in
      record {
        entries = run.entries;
        rest = run.rest;
        whole = run.whole;
        bytes = parts_bytes trace fresh;
        ending = (run_of fresh (behind trace fresh) (room_for trace)).ending;
        stops = parts_stop trace fresh;
        number = returns ∙ rw (run.given, along_length fresh run.entries);
        shown = leaves ∙ ap (λ (hs : List Hearing). entry_bytes (shown_of (afresh_of hs address)) ++ drop entry_length before) (heard_is trace fresh e);
      }

-- every trace that starts a station: its whole entries are answered, and the entry of the address is the one worked out afresh from
-- their records and answers
pub every_summary : Theorem
every_summary trace address before fresh e known room = summarized trace address before fresh e known room
