-- The run over the ticks and the entries that it writes; the trace, and the call. Assumes nothing.
use Rattle.std.specs.Prelude.{ℕ, suc, ◌+◌, ◌-◌, ◌*◌, ◌^◌, ◌<◌, ◌≤◌, ◌≡◌, refl, take, drop, get_or, set}
use Rattle.std.proofs.Math.Path.{sym, ap}
use Rattle.std.proofs.Common.{◌∙◌, subst, add-one, add-zero, length-take-le, drop-cons}
use mathlib.Core.List.{List, [], ◌∷◌, ◌++◌}
use Rattle.std.proofs.Math.Bool.{false}
use native.Mathlib.Omega.{arith}
use borrow.Author.Tests.{eq-eqb, ne_eqb, lt-ltb, le-ltb, lt-leb, le-leb}
use Rattle.std.proofs.Math.ListN.{length, length-append}
use Rattle.std.proofs.lemmas.List.Edits.{sets, sets-eq}
use Rattle.std.proofs.Math.Seq.{set_out, drop-length}
use Rattle.std.proofs.Math.Dec.{eqb}
use Rattle.bus_setup.specs.Setup.{stations_of, tick_of, ticks_of, station_header, placed_of, setup_refusal}
use Rattle.bus_setup.specs.Laws.{header_length_lem}
use Rattle.bus_run.specs.Run.{record_at, entries_of, trace_of, trace_refusal, trace_number, trace_into}
use Rattle.bus_run.specs.Sized.{sized}
use Rattle.bus_ticks.specs.declared.Bus.{Bus as BusKept}
use Rattle.bus_ticks.specs.declared.Ticked.{Ticked}
use Rattle.bus_ticks.specs.Ticks.{Ticks}
use Rattle.bus_ticks.specs.Starts.{BusStarts, Set, RunIs, run_first, ticked, run_next}

-- Bytes one behind the other.

-- s with a byte at a place, where there is room for it
unfoldable pub byte_in : List ℕ → ℕ → ℕ → List ℕ
byte_in s at byte = set s at byte

-- s with bytes from a place on, as far as there is room
unfoldable pub bytes_in : List ℕ → ℕ → List ℕ → List ℕ
bytes_in s at bytes = sets s at bytes

pub byte_left_out : (s : List ℕ) (at byte : ℕ) → length s ≤ at → s ≡ byte_in s at byte
unfolding byte_in
byte_left_out s at byte h = sym (set_out s at byte h)

pub byte_written : (s : List ℕ) (at byte : ℕ) → set s at byte ≡ byte_in s at byte
unfolding byte_in
byte_written s at byte = refl

-- more bytes behind those that are written
sets_more : (l m s : List ℕ) (at : ℕ) → sets (sets s at l) (at + length l) m ≡ sets s at (l ++ m)
sets_more [] m s at = ap (λ (k : ℕ). sets s k m) (add-zero at)
sets_more (a ∷ l) m s at =
    let e : at + length (a ∷ l) ≡ suc at + length l = omega arith in
    ap (λ (k : ℕ). sets (sets (set s at a) (suc at) l) k m) e ∙ sets_more l m (set s at a) (suc at)

bytes_more : (l m s : List ℕ) (at : ℕ) → bytes_in (bytes_in s at l) (at + length l) m ≡ bytes_in s at (l ++ m)
unfolding bytes_in
bytes_more l m s at = sets_more l m s at

bytes_none : (s : List ℕ) (at : ℕ) → s ≡ bytes_in s at []
unfolding bytes_in
bytes_none s at = refl

byte_first : (s : List ℕ) (at byte : ℕ) (l : List ℕ) → bytes_in (byte_in s at byte) (suc at) l ≡ bytes_in s at (byte ∷ l)
unfolding byte_in bytes_in
byte_first s at byte l = refl

-- where there is room for all, they stand before the rest
bytes_whole : (s bytes : List ℕ) → length bytes ≤ length s → bytes_in s 0 bytes ≡ bytes ++ drop (length bytes) s
unfolding bytes_in
bytes_whole s bytes h =
    let here : 0 + length bytes ≡ length bytes = omega arith in
    sets-eq bytes s 0 (omega arith) ∙ ap (λ (k : ℕ). bytes ++ drop k s) here

-- where the copying of bytes stands: what is left of them, over what is written
pub record Copying (before : List ℕ) (at : ℕ) (bytes : List ℕ) (j : ℕ) (s : List ℕ) : Type 0 where
  pub is : bytes_in s (at + j) (drop j bytes) ≡ bytes_in before at bytes

pub copying_none : (before : List ℕ) (at : ℕ) (bytes : List ℕ) → Copying before at bytes 0 before
copying_none before at bytes = record { is = ap (λ (k : ℕ). bytes_in before k bytes) (add-zero at) }

pub copying_more :
    (before : List ℕ) (at : ℕ) (bytes : List ℕ) (j : ℕ) (s after : List ℕ)
    → Copying before at bytes j s
    → j < length bytes
    → after ≡ byte_in s (at + j) (get_or bytes j 0)
    → Copying before at bytes (j + 1) after
copying_more before at bytes j s after g h e =
    let next : at + suc j ≡ suc (at + j) = omega arith in
    rw (add-one j)
    (record {
      is =
          ap (λ (k : ℕ). bytes_in after k (drop (suc j) bytes)) next
          ∙ ap (λ (l : List ℕ). bytes_in l (suc (at + j)) (drop (suc j) bytes)) e
          ∙ byte_first s (at + j) (get_or bytes j 0) (drop (suc j) bytes)
          ∙ sym (ap (λ (l : List ℕ). bytes_in s (at + j) l) (drop-cons bytes j 0 h))
          ∙ g.is;
    })

pub copying_all : (before : List ℕ) (at : ℕ) (bytes : List ℕ) (j : ℕ) (s : List ℕ) → Copying before at bytes j s → j ≡ length bytes → s ≡ bytes_in before at bytes
copying_all before at bytes j s g e =
    let none : drop j bytes ≡ [] = rw e (drop-length bytes) in
    bytes_none s (at + j) ∙ sym (ap (λ (l : List ℕ). bytes_in s (at + j) l) none) ∙ g.is

-- an entry, from what its calls ensure
pub entry_put :
    (before s after : List ℕ) (at n : ℕ) (bytes : List ℕ)
    → s ≡ byte_in before at n
    → after ≡ bytes_in s (at + 1) (take (n - 0) bytes)
    → after ≡ bytes_in before at (n ∷ take n bytes)
entry_put before s after at n bytes p q =
    let same : n - 0 ≡ n = omega arith in
    q
    ∙ ap (λ (l : List ℕ). bytes_in l (at + 1) (take (n - 0) bytes)) p
    ∙ ap (λ (m : ℕ). bytes_in (byte_in before at n) (at + 1) (take m bytes)) same
    ∙ ap (λ (m : ℕ). bytes_in (byte_in before at n) m (take n bytes)) (add-one at)
    ∙ byte_first before at n (take n bytes)

-- they end within 64 bits
pub part_short : (at n : ℕ) (bytes : List ℕ) → n ≤ 46 → length bytes ≡ 46 → at ≤ 2 ^ 32 → at + 1 + length (take (n - 0) bytes) < 2 ^ 64
part_short at n bytes h full few =
    let same : n - 0 ≡ n = omega arith in
    let long : length (take (n - 0) bytes) ≡ n = ap (λ (m : ℕ). length (take m bytes)) same ∙ length-take-le n bytes (omega arith) in
    omega arith

-- The run.

-- where the loop over the ticks stands, before tick k
pub record Tracing (setup : List ℕ) (n tick k clock chosen : ℕ) (c : BusKept) (start at : ℕ) (before trace : List ℕ) : Type 0 where
  pub run : RunIs setup n tick k clock c
  pub at_is : start + length (entries_of setup chosen k) ≡ at
  pub trace_is : trace ≡ bytes_in before start (entries_of setup chosen k)

-- what a run leaves: the entries of the chosen station, from a place on, and the place behind them
abbrev pub Traced : BusKept → ℕ → ℕ → ℕ → ℕ → ℕ → List ℕ → ℕ → List ℕ → Type 0
Traced opened n tick ticks chosen start before at left =
    (setup : List ℕ)
    → Set setup n tick ticks
    → BusStarts setup n opened
    → chosen < n
    → (start + length (entries_of setup chosen ticks) ≡ at) × (left ≡ bytes_in before start (entries_of setup chosen ticks))

pub tracing_first : (setup : List ℕ) (n tick ticks chosen : ℕ) (c : BusKept) (start : ℕ) (before : List ℕ) → Set setup n tick ticks → BusStarts setup n c → Tracing setup n tick 0 0 chosen c start start before before
unfolding entries_of
tracing_first setup n tick ticks chosen c start before s b =
    record { run = run_first setup n tick ticks c s b; at_is = add-zero start; trace_is = bytes_none before start }

module _ {setup : List ℕ} {n tick ticks k clock chosen : ℕ} {c : BusKept} {start at : ℕ} {before trace : List ℕ}
    (s : Set setup n tick ticks) (g : Tracing setup n tick k clock chosen c start at before trace) (one : chosen < n)
    (next : BusKept) (r : Ticked) (t : Ticks n clock chosen c next r) (left : List ℕ)
    (l : left ≡ bytes_in trace at (r.given.length ∷ take r.given.length r.given.bytes)) where
  -- the record that is written is the one that the station was given
  given_is : take r.given.length r.given.bytes ≡ record_at setup k chosen
  given_is = (ticked s g.run chosen next r t).chosen_record one ∙ rw (g.run.clock_is, s.tick_is)

  given_long : r.given.length ≡ length (record_at setup k chosen)
  given_long =
      let short = t.short in
      let full = t.full in
      sym (length-take-le r.given.length r.given.bytes (omega arith)) ∙ ap (λ (m : List ℕ). length m) given_is

  entry_is : (r.given.length ∷ take r.given.length r.given.bytes) ≡ length (record_at setup k chosen) ∷ record_at setup k chosen
  entry_is = rw (given_is, given_long)

  at_next : start + length (entries_of setup chosen (suc k)) ≡ at + (1 + r.given.length)
  unfolding entries_of
  at_next =
      let e = length-append (entries_of setup chosen k) (length (record_at setup k chosen) ∷ record_at setup k chosen) in
      let f = g.at_is in
      let h = given_long in
      ap (λ (m : ℕ). start + m) e ∙ omega arith

  trace_next : left ≡ bytes_in before start (entries_of setup chosen (suc k))
  unfolding entries_of
  trace_next =
      l
      ∙ ap (λ (m : List ℕ). bytes_in trace at m) entry_is
      ∙ ap (λ (m : List ℕ). bytes_in m at (length (record_at setup k chosen) ∷ record_at setup k chosen)) g.trace_is
      ∙ ap (λ (m : ℕ). bytes_in (bytes_in before start (entries_of setup chosen k)) m (length (record_at setup k chosen) ∷ record_at setup k chosen)) (sym g.at_is)
      ∙ bytes_more (entries_of setup chosen k) (length (record_at setup k chosen) ∷ record_at setup k chosen) before start

  pub tracing_next : Tracing setup n tick (k + 1) (clock + tick) chosen next start (at + (1 + r.given.length)) before left
  tracing_next = rw (add-one k) (record { run = run_next s g.run chosen next r t; at_is = at_next; trace_is = trace_next })

-- after the last tick
pub tracing_done :
    (setup : List ℕ) (n tick k ticks clock chosen : ℕ) (c : BusKept) (start at : ℕ) (before trace : List ℕ)
    → k ≡ ticks
    → Tracing setup n tick k clock chosen c start at before trace
    → (start + length (entries_of setup chosen ticks) ≡ at) × (trace ≡ bytes_in before start (entries_of setup chosen ticks))
tracing_done setup n tick k ticks clock chosen c start at before trace e g =
    subst (λ (m : ℕ). (start + length (entries_of setup chosen m) ≡ at) × (trace ≡ bytes_in before start (entries_of setup chosen m))) e (g.at_is, g.trace_is)

-- The trace.

-- a header of 16 bytes, online, and entries from the 17th byte on
trace_whole :
    (header entries before s1 s2 left : List ℕ)
    → length header ≡ 16
    → s1 ≡ bytes_in before 0 header
    → s2 ≡ byte_in s1 16 0
    → left ≡ bytes_in s2 17 entries
    → left ≡ bytes_in before 0 (header ++ (0 ∷ entries))
trace_whole header entries before s1 s2 left h p q r =
    let here : 0 + length header ≡ 16 = omega (arith, h) in
    r
    ∙ ap (λ (m : List ℕ). bytes_in m 17 entries) (q ∙ ap (λ (m : List ℕ). byte_in m 16 0) p)
    ∙ byte_first (bytes_in before 0 header) 16 0 entries
    ∙ ap (λ (m : ℕ). bytes_in (bytes_in before 0 header) m (0 ∷ entries)) (sym here)
    ∙ bytes_more header (0 ∷ entries) before 0

pub header_short : (setup : List ℕ) (j : ℕ) (header : List ℕ) → header ≡ station_header setup j → 0 + length header < 2 ^ 64
header_short setup j header e =
    let long : length header ≡ 16 = ap (λ (l : List ℕ). length l) e ∙ header_length_lem setup j in
    omega arith

module _ (setup : List ℕ) (z : setup_refusal setup ≡ 0) (station : ℕ) (one : station < stations_of setup) where
  -- from what its calls ensure
  pub trace_put :
      (n step ticks j at : ℕ) (opened : BusKept) (header before s1 s2 left : List ℕ)
      → n ≡ stations_of setup
      → j ≡ placed_of setup n station
      → header ≡ station_header setup j
      → s1 ≡ bytes_in before 0 header
      → s2 ≡ byte_in s1 16 0
      → step ≡ tick_of setup
      → ticks ≡ ticks_of setup
      → BusStarts setup n opened
      → Traced opened n step ticks station 17 s2 at left
      → (at ≡ length (trace_of setup station)) × (left ≡ bytes_in before 0 (trace_of setup station))
  unfolding trace_of
  trace_put n step ticks j at opened header before s1 s2 left en ej eh e1 e2 es et starts r =
      let some = (sized setup z).some in
      let x = r setup (record { stations = en; tick_is = es; ticks_are = et; some = rw es some }) starts (rw en one) in
      let is : header ≡ station_header setup (placed_of setup (stations_of setup) station) = eh ∙ ap (λ (m : ℕ). station_header setup m) (ej ∙ ap (λ (m : ℕ). placed_of setup m station) en) in
      let long : length header ≡ 16 = rw eh (header_length_lem setup j) in
      let whole : left ≡ bytes_in before 0 (header ++ (0 ∷ entries_of setup station ticks)) = trace_whole header (entries_of setup station ticks) before s1 s2 left long e1 e2 x.1 in
      let count : at ≡ length (header ++ (0 ∷ entries_of setup station ticks)) = sym x.0 ∙ sym (length-append header (0 ∷ entries_of setup station ticks) ∙ omega (arith, long)) in
      rw (← is, ← et) (count, whole)

-- The call.

module _ (setup : List ℕ) (station : ℕ) (trace : List ℕ) where
  -- refused
  pub trace_refused : (n : ℕ) → n ≡ setup_refusal setup → (n ≡ 0 → ⊥) → (n ≡ trace_number setup station (length trace)) × (trace ≡ trace_into setup station trace)
  unfolding trace_number trace_into trace_refusal
  trace_refused n e h =
      let no : eqb (setup_refusal setup) 0 ≡ false = ne_eqb _ _ (λ z. h (e ∙ z)) in
      rw (no, no) (e, refl)

  -- no such station
  pub trace_nobody : (n : ℕ) → setup_refusal setup ≡ 0 → n ≡ stations_of setup → n ≤ station → (29 ≡ trace_number setup station (length trace)) × (trace ≡ trace_into setup station trace)
  unfolding trace_number trace_into trace_refusal
  trace_nobody n e s h =
      let none : stations_of setup ≤ station = rw s at h in
      rw (eq-eqb _ _ e, le-leb _ _ none) (refl, refl)

  -- no room
  pub trace_no_room :
      (n count : ℕ)
      → setup_refusal setup ≡ 0
      → n ≡ stations_of setup
      → station < n
      → count ≡ length (trace_of setup station)
      → length trace < count
      → (18 ≡ trace_number setup station (length trace)) × (trace ≡ trace_into setup station trace)
  unfolding trace_number trace_into trace_refusal
  trace_no_room n count e s one m h =
      let there : station < stations_of setup = rw s at one in
      let short : length trace < length (trace_of setup station) = rw m at h in
      rw (eq-eqb _ _ e, lt-leb _ _ there, lt-ltb _ _ short) (refl, refl)

  -- written
  pub trace_done :
      (n counted count : ℕ) (left : List ℕ)
      → setup_refusal setup ≡ 0
      → n ≡ stations_of setup
      → station < n
      → counted ≡ length (trace_of setup station)
      → counted ≤ length trace
      → count ≡ length (trace_of setup station)
      → left ≡ bytes_in trace 0 (trace_of setup station)
      → (count * 256 ≡ trace_number setup station (length trace)) × (left ≡ trace_into setup station trace)
  unfolding trace_number trace_into trace_refusal
  trace_done n counted count left e s one c h m l =
      let there : station < stations_of setup = rw s at one in
      let room : length (trace_of setup station) ≤ length trace = rw c at h in
      rw (eq-eqb _ _ e, lt-leb _ _ there, le-ltb _ _ room, m) (refl, l ∙ bytes_whole trace (trace_of setup station) room)
