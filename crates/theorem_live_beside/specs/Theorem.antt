-- The counts and the table at the end of a trace are what the calls on whole traces write. Assumes nothing.
use Rattle.std.specs.Prelude.{ℕ, ◌+◌, ◌-◌, ◌≤◌, ◌≡◌, length, take, Option, Some}
use Rattle.std.proofs.Math.Path.{refl, ap}
use Rattle.std.proofs.Common.{sym, ◌∙◌, inl, inr, ⊎_elim, arith, le_refl, le-ltb, take_all}
use mathlib.Core.List.{List, [], ◌∷◌}
use Rattle.std.proofs.lemmas.List.{length-replicate}
use Rattle.heard.specs.Heard.{Found, Hearing, hear_all, consumed_in, lookup_of, summary_into}
use Rattle.heard.specs.Afresh.{table_length, fresh_table}
use Rattle.heard.specs.Steps.{hear_append}
use Rattle.heard.specs.Laws.{Long, lookup_afresh}
use Rattle.station.specs.declared.station.Station.{Station}
use Rattle.station_bytes.specs.Bytes.{read_of, station_bytes}
use Rattle.trace_headers.specs.Headers.{header_of}
use Rattle.trace.specs.Entries.{record_length, entry_of}
use Rattle.trace.specs.Trace.{TraceStart, Accepted, start_of}
use Rattle.trace_counts.specs.TraceCounts.{counts_length, counts_over, counted_after, counts_into, counts_into_on}
use Rattle.trace_heard.specs.TraceHeard.{heard_in, found_after, heard_into, heard_into_on}
use Rattle.trace_heard.proofs.Laws.{heard_clocked}
use Rattle.live.specs.Live.{Stepped, Answers, step_into}
use Rattle.live_heard.specs.LiveHeard.{step_table}
use Rattle.live_counts.specs.LiveCounts.{read_counts_number, read_counts_into}
use Rattle.theorem_every_trace.specs.Statement.{Entry, Whole, along}
use Rattle.theorem_from_header.specs.FromHeader.{from_header}
use Rattle.theorem_heard.specs.Statement.{consumed_by}
use Rattle.theorem_heard.proofs.Theorem.{parts, parts_bytes, parts_stop, heard_is}
use Rattle.theorem_live.specs.Back.{Kept}
use Rattle.theorem_live.specs.Stepped.{entry_bytes, then, kept_back, step_is, entry_kept, stepped_along}
use Rattle.theorem_live.specs.Opened.{opened_kept, started_opens, trace_stepped}
use Rattle.theorem_live_beside.specs.Statement.{Lent, lent_after, lent_along, opened, TraceBeside}
use Rattle.theorem_live_beside.specs.Kept.{then_applications, along_kept}
use Rattle.theorem_live_beside.specs.Beside.{lent_long, lent_step, same_along}

-- A table along entries.

-- what a whole entry feeds it with
fed_by :
    (n : ℕ) (s : Station) (e : Entry) (table : List ℕ)
    → (then s e).applications ≡ n
    → length e.bytes ≡ record_length e.kind
    → step_table (Answers (entry_of s e.kind e.bytes) (1 + record_length e.kind)) (entry_bytes e) table
    ≡ hear_all table (consumed_in e.bytes n (entry_of s e.kind e.bytes).answer.consumed)
unfolding step_table
fed_by n s e table same w =
    let k = record_length e.kind in
    let many = (entry_of s e.kind e.bytes).answer.consumed in
    let size : 1 + k - 1 ≡ k = omega arith in
    let all : take (1 + k - 1) e.bytes ≡ e.bytes = ap (λ (m : ℕ). take m e.bytes) size ∙ take_all k e.bytes (omega (arith, w)) in
    ap (λ (l : List ℕ). hear_all table (consumed_in l (then s e).applications many)) all ∙ ap (λ (m : ℕ). hear_all table (consumed_in e.bytes m many)) same

-- beside a station that is kept it is fed with what the entries consumed, by their answers
pub table_along :
    (n : ℕ) (s : Station) (es : List Entry) (table : List ℕ)
    → Kept s
    → s.applications ≡ n
    → Whole es
    → Long table
    → (lent_along (record { station = station_bytes s; table = table }) es).table ≡ hear_all table (consumed_by n es (along s es).answers)
unfolding hear_all
table_along n s [] table k same w long = refl
table_along n s (e ∷ es) table k same w long =
    let l : Lent = record { station = station_bytes s; table = table } in
    let heard : List Hearing = consumed_in e.bytes n (entry_of s e.kind e.bytes).answer.consumed in
    let more : List Hearing = consumed_by n es (along (then s e) es).answers in
    let step = lent_step l e long in
    let still = then_applications s e k ∙ same in
    let left : (lent_after l e).station ≡ station_bytes (then s e) = ap (λ (x : Stepped). step_into x (station_bytes s)) step ∙ (stepped_along s (e ∷ []) k (w.0, tt)).0 in
    let fed : (lent_after l e).table ≡ hear_all table heard = ap (λ (x : Stepped). step_table x (entry_bytes e) table) (step ∙ step_is s e k w.0) ∙ fed_by n s e table still w.0 in
    ap (λ (b : List ℕ). (lent_along (record { station = b; table = (lent_after l e).table }) es).table) left
    ∙ table_along n (then s e) es (lent_after l e).table (entry_kept s e k) still w.1 (lent_long l e long)
    ∙ ap (λ (t : List ℕ). hear_all t more) fed
    ∙ sym (hear_append table heard more)

-- The end of a trace.
module _ (trace : List ℕ) (fresh : Station) (out : List ℕ) (e : start_of trace ≡ Accepted fresh) (long : length out ≡ 96) where
  abbrev es : List Entry
  es = (parts trace fresh).entries

  zeros_long : Long fresh_table
  zeros_long = rw length-replicate (le_refl table_length)

  kept : Kept fresh
  kept = opened_kept trace fresh (started_opens trace fresh e)

  -- the station is that of the trace's run
  station_is : (lent_along (opened trace out) es).station ≡ station_bytes (along fresh es).station
  station_is = (same_along (opened trace out) es zeros_long).same_stations ∙ (trace_stepped trace fresh es out e long (parts trace fresh).whole).left

  read_is : read_of (lent_along (opened trace out) es).station ≡ Some (along fresh es).station
  read_is = ap read_of station_is ∙ kept_back (along fresh es).station (along_kept fresh es kept)

  -- its counts
  told : (room : ℕ) → counts_length ≤ room → read_counts_number (read_of (lent_along (opened trace out) es).station) room ≡ 0
  unfolding read_counts_number
  told room enough = ap (λ (r : Option Station). read_counts_number r room) read_is ∙ rw (le-ltb room counts_length enough) refl

  counts_are : (before : List ℕ) → read_counts_into (read_of (lent_along (opened trace out) es).station) before ≡ counts_into trace before
  unfolding read_counts_into counts_into counts_into_on counted_after
  counts_are before =
      ap (λ (r : Option Station). read_counts_into r before) read_is
      ∙ ap (λ (t : Station). counts_over before t.counts) (sym (parts trace fresh).reached)
      ∙ ap (λ (x : TraceStart). counts_into_on x trace before) (sym e)

  -- what its table says
  table_is : (lent_along (opened trace out) es).table ≡ hear_all fresh_table (heard_in trace)
  table_is =
      ap (λ (b : List ℕ). (lent_along (record { station = b; table = fresh_table }) es).table) (trace_stepped trace fresh [] out e long tt).opened
      ∙ table_along (header_of trace).applications fresh es fresh_table kept (from_header trace fresh [] e).same_applications (parts trace fresh).whole zeros_long
      ∙ ap (hear_all fresh_table) (sym (heard_is trace fresh e))

  heard_says : (address : ℕ) (before : List ℕ) → summary_into (lookup_of (lent_along (opened trace out) es).table address) before ≡ heard_into trace address before
  unfolding heard_into heard_into_on found_after
  heard_says address before =
      ap (λ (f : Found). summary_into f before) (ap (λ (t : List ℕ). lookup_of t address) table_is ∙ lookup_afresh (heard_in trace) address (heard_clocked trace))
      ∙ ap (λ (x : TraceStart). heard_into_on x trace address before) (sym e)

  -- The theorem.
  pub trace_beside : TraceBeside trace fresh out
  trace_beside =
      let run = parts trace fresh in
      record {
        entries = es;
        rest = run.rest;
        whole = run.whole;
        bytes = parts_bytes trace fresh;
        stops = ⊎_elim (λ n. inl n.0) (λ c. inr c.0) (parts_stop trace fresh);
        counts_told = told;
        counts = counts_are;
        heard = heard_says;
      }
