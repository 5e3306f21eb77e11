-- A trace whose header moved to the other edition (request P9): it starts the same station and gives the same answers. The entries stay
-- as they are; the header is shorter or longer by two bytes, so at the limit of 2^32 bytes a trace may be moved past it.
use Rattle.std.specs.Prelude.{ℕ, ◌+◌, ◌*◌, ◌^◌, ◌<◌, ◌≤◌, ◌≡◌, refl, List, [], ◌∷◌, ◌++◌, take, drop, get_or, eqb, ltb, Result, Ok, Err}
use Rattle.std.proofs.Common.{sym, ap, ap₂, ◌∙◌, subst, le_refl, arith, length-append, take-append-drop, length-take-le, take_at, drop_at, take_all, get_or-take}
use borrow.Author.Tests.{le-leb, lt-leb, le-ltb, ltb-false, eqb-true}
use borrow.Table.Steps.{cases}
use Rattle.std.proofs.Math.ListN.{length}
use Rattle.codec_fields.specs.Fields.{field_of, be_from, Bytes}
use Rattle.codec_fields.proofs.Laws.{never}
use Rattle.codec_fields.proofs.Stores.{bytes_take}
use Rattle.settings.specs.declared.parameters.Parameters.{Parameters}
use Rattle.refusals.specs.declared.refusal.Refusal.{Refusal}
use Rattle.refusals.specs.declared.refusal.Refusal.TheVariants.{TraceLength}
use Rattle.refusals.specs.Refusals.{number_of, named}
use Rattle.station.specs.declared.station.Station.{Station}
use Rattle.trace_headers.specs.declared.Header.{Header}
use Rattle.trace_headers.specs.declared.Edition.{Edition}
use Rattle.trace_headers.specs.declared.Edition.TheVariants.{First, Second}
use Rattle.trace_headers.specs.Headers.{edition_of, length_of, header_length, header_in, header_of, header_refusal}
use Rattle.trace_headers_written.specs.HeaderBytes.{header_bytes, header_into}
use Rattle.trace_editions.specs.Editions.{other_than, lent_refusal, other_length, move_number, move_into}
use Rattle.trace_editions.specs.Laws.{move_done}
use Rattle.trace_editions.specs.Moves.{AcceptedHeader, moved, Moves, header_moves}
use Rattle.trace.specs.Trace.{settings_of, settings_at, longest_trace, TraceStart, Accepted, Refused, started_with, start_of, ran_of, replay_on, replay_of}
use Rattle.trace.proofs.Laws.{start_long, start_refused}

-- What is said.

-- a trace with its header in the other edition, and the same entries
abbrev pub moved_trace : List ℕ → List ℕ
moved_trace trace = moved (take (header_length trace) trace) ++ drop (header_length trace) trace

-- what holds of a trace that is not refused, with its header moved
pub record MovedTrace (trace : List ℕ) : Type 0 where
  -- its header is the other edition's, and is as long as that one's
  pub to_the_other : edition_of (moved_trace trace) ≡ other_than (edition_of trace)
  pub as_long : length (moved_trace trace) + header_length trace ≡ length trace + length_of (other_than (edition_of trace))
  -- the header says the same numbers
  pub says_the_same : header_of (moved_trace trace) ≡ header_of trace
  -- within the limit of 2^32 bytes it starts the same station, and its replay is the same: the same answers and the same ending, so the
  -- call returns the same number and leaves the same bytes in every buffer
  pub same_start : length (moved_trace trace) ≤ longest_trace → start_of (moved_trace trace) ≡ start_of trace
  pub same_replay : (room : ℕ) → length (moved_trace trace) ≤ longest_trace → replay_of (moved_trace trace) room ≡ replay_of trace room
  -- past that limit it is refused with 17
  pub past_the_limit : longest_trace < length (moved_trace trace) → start_of (moved_trace trace) ≡ Refused 17
  -- and with its header moved back it is the same bytes
  pub back : moved_trace (moved_trace trace) ≡ trace

-- the theorem, over all traces of bytes that start a station
abbrev pub MovesAlike : Type 0
MovesAlike = (trace : List ℕ) (fresh : Station) → Bytes trace → start_of trace ≡ Accepted fresh → MovedTrace trace

-- Its proof.

-- a header has at least one byte
some_byte : (e : Edition) → 1 ≤ length_of e
unfolding length_of
some_byte First = omega arith
some_byte Second = omega arith

-- two lists that begin with the same byte are of one edition
same_edition : (s t : List ℕ) → get_or s 0 0 ≡ get_or t 0 0 → edition_of s ≡ edition_of t
unfolding edition_of
same_edition s t e = rw e

first_of : (s t : List ℕ) → 1 ≤ length s → get_or (s ++ t) 0 0 ≡ get_or s 0 0
first_of [] t l = absurd (omega (arith, l))
first_of (b ∷ s) t l = refl

-- Entries behind a whole header.
module _ (header entries : List ℕ) (whole : length header ≡ header_length header) where
  edition_of_lem : edition_of (header ++ entries) ≡ edition_of header
  edition_of_lem = same_edition (header ++ entries) header (first_of header entries (rw whole (some_byte (edition_of header))))

  length_of_lem : header_length (header ++ entries) ≡ length header
  length_of_lem = ap length_of edition_of_lem ∙ sym whole

  behind : drop (header_length (header ++ entries)) (header ++ entries) ≡ entries
  behind = drop_at header entries (header_length (header ++ entries)) (sym length_of_lem)

  before : take (header_length (header ++ entries)) (header ++ entries) ≡ header
  before = take_at header entries (header_length (header ++ entries)) (sym length_of_lem)

  there : header_length (header ++ entries) ≤ length (header ++ entries)
  there = rw (length_of_lem, length-append) (omega arith)

  header_of_lem : header_of (header ++ entries) ≡ header_of header
  unfolding header_of
  header_of_lem =
      let own : header_length header ≤ length header = rw whole (le_refl (header_length header)) in
      let fits : length header ≤ header_length header = rw whole (le_refl (header_length header)) in
      rw (le-ltb (length (header ++ entries)) (header_length (header ++ entries)) there, before, edition_of_lem, le-ltb (length header) (header_length header) own)
      (ap (header_in (edition_of header)) (sym (take_all (header_length header) header fits)))

  -- what they start
  starts : length (header ++ entries) ≤ longest_trace → start_of (header ++ entries) ≡ started_with (settings_of (header_of header)) (header_of header).applications
  unfolding start_of settings_at
  starts l =
      rw (le-leb (header_length (header ++ entries)) (length (header ++ entries)) there, le-leb (length (header ++ entries)) longest_trace l, header_of_lem)

  too_long : longest_trace < length (header ++ entries) → start_of (header ++ entries) ≡ Refused 17
  unfolding settings_at
  too_long l =
      start_refused (header ++ entries) TraceLength
      (rw (le-leb (header_length (header ++ entries)) (length (header ++ entries)) there, lt-leb (length (header ++ entries)) longest_trace l))

-- one start and the same entries: one replay
same_run : (x : TraceStart) (trace other : List ℕ) (room : ℕ) → drop (header_length trace) trace ≡ drop (header_length other) other → replay_on x trace room ≡ replay_on x other room
unfolding replay_on ran_of
same_run (Accepted s) trace other room e = rw e
same_run (Refused n) trace other room e = refl

same_replay_of : (trace other : List ℕ) (room : ℕ) → start_of trace ≡ start_of other → drop (header_length trace) trace ≡ drop (header_length other) other → replay_of trace room ≡ replay_of other room
unfolding replay_of
same_replay_of trace other room s e = ap (λ (x : TraceStart). replay_on x trace room) s ∙ same_run (start_of other) trace other room e

-- a header that starts a station is not refused
settings_none : (h : Header) (p : Parameters) → settings_of h ≡ Ok p → header_refusal h ≡ 0
unfolding settings_of
settings_none h p e = cases (eqb (header_refusal h) 0) (λ t. eqb-true _ _ t) (λ t. not_refused (rw t at e))
  where
    not_refused : ◌≡◌ {A = Result Parameters Refusal} (Err (named (header_refusal h))) (Ok p) → header_refusal h ≡ 0
    not_refused z = let y : ◌≡◌ {A = ℕ} 0 1 = cc in absurd (omega arith)

start_none : (h : Header) (n : ℕ) (s : Station) → started_with (settings_of h) n ≡ Accepted s → header_refusal h ≡ 0
unfolding started_with
start_none h n s e = go (settings_of h) refl
  where
    not_started : (k : ℕ) → Refused k ≡ Accepted s → header_refusal h ≡ 0
    not_started k z = let y : ◌≡◌ {A = ℕ} 0 1 = cc in absurd (omega arith)

    go : (x : Result Parameters Refusal) → settings_of h ≡ x → header_refusal h ≡ 0
    go (Ok p) f = settings_none h p f
    go (Err k) f = not_started (number_of k) (rw f at e)

-- The header that a list begins with, where it has one.
module _ (trace : List ℕ) (room : header_length trace ≤ length trace) where
  own_length : length (take (header_length trace) trace) ≡ header_length trace
  own_length = length-take-le (header_length trace) trace room

  own_edition : edition_of (take (header_length trace) trace) ≡ edition_of trace
  own_edition = same_edition (take (header_length trace) trace) trace (get_or-take (header_length trace) trace 0 0 (some_byte (edition_of trace)))

  own_whole : length (take (header_length trace) trace) ≡ header_length (take (header_length trace) trace)
  own_whole = own_length ∙ ap length_of (sym own_edition)

  own_header : header_of trace ≡ header_of (take (header_length trace) trace)
  own_header = ap header_of (sym (take-append-drop (header_length trace) trace)) ∙ header_of_lem (take (header_length trace) trace) (drop (header_length trace) trace) own_whole

-- a lent header that is taken is there
lent_there : (lent : List ℕ) → lent_refusal lent ≡ 0 → header_length lent ≤ length lent
unfolding lent_refusal
lent_there lent e = cases (ltb (length lent) (header_length lent)) (λ t. never 16 (rw t at e)) (λ t. ltb-false (length lent) (header_length lent) t)

-- what the call for hosts returns and leaves, where the lent header is not refused and has room: the bytes of the other edition, and the
-- header moved there; what stands behind the header in the lent slice changes nothing
pub other_edition_writes :
    (lent out : List ℕ)
    → lent_refusal lent ≡ 0
    → other_length lent ≤ length out
    → (move_number lent (length out) ≡ other_length lent * 256) × (move_into lent out ≡ moved (take (header_length lent) lent) ++ drop (other_length lent) out)
unfolding header_into
other_edition_writes lent out none room =
    let done = move_done lent out none room in
    let here = lent_there lent none in
    let into : header_into out (other_than (edition_of lent)) (header_of lent) ≡ header_bytes (other_than (edition_of lent)) (header_of lent) ++ drop (other_length lent) out =
    rw (le-ltb (length out) (other_length lent) room) in (
      sym done.0,
      sym done.1
          ∙ into
          ∙ ap (λ (x : Edition). header_bytes (other_than x) (header_of lent) ++ drop (other_length lent) out) (sym (own_edition lent here))
          ∙ ap (λ (h : Header). header_bytes (other_than (edition_of (take (header_length lent) lent))) h ++ drop (other_length lent) out) (own_header lent here),
    )

-- the theorem
pub moves_alike : MovesAlike
moves_alike trace fresh bytes e =
    record {
      to_the_other = edition_of_lem (moved header) entries whole_moved ∙ moves.to_the_other ∙ ap other_than edition_is;
      as_long =
          ap (λ (n : ℕ). n + header_length trace) (length-append (moved header) entries)
          ∙ ap (λ (n : ℕ). n + length entries + header_length trace) (whole_moved ∙ ap length_of (moves.to_the_other ∙ ap other_than edition_is))
          ∙ swapped (length_of (other_than (edition_of trace))) (length entries) (header_length trace)
          ∙ ap (λ (n : ℕ). n + length_of (other_than (edition_of trace))) (sym long);
      says_the_same = same_header;
      same_start = same;
      same_replay = λ room l. same_replay_of (moved_trace trace) trace room (same l) (behind (moved header) entries whole_moved);
      past_the_limit = too_long (moved header) entries whole_moved;
      back =
          ap₂ (λ (x y : List ℕ). moved x ++ y) (before (moved header) entries whole_moved) (behind (moved header) entries whole_moved)
          ∙ ap (λ (x : List ℕ). x ++ entries) moves.back
          ∙ parts;
    }
  where
    header : List ℕ
    header = take (header_length trace) trace

    entries : List ℕ
    entries = drop (header_length trace) trace

    parts : header ++ entries ≡ trace
    parts = take-append-drop (header_length trace) trace

    room : (header_length trace ≤ length trace) × (length trace ≤ 2 ^ 32)
    room = start_long trace fresh e

    whole : length header ≡ header_length header
    whole = own_whole trace room.0

    edition_is : edition_of header ≡ edition_of trace
    edition_is = own_edition trace room.0

    own_start : start_of trace ≡ started_with (settings_of (header_of header)) (header_of header).applications
    own_start = ap start_of (sym parts) ∙ starts header entries whole (subst (λ (l : List ℕ). length l ≤ 2 ^ 32) (sym parts) room.1)

    accepted : AcceptedHeader header
    accepted =
        record {
          are_bytes = bytes_take (header_length trace) trace bytes;
          whole = whole;
          accepted = start_none (header_of header) (header_of header).applications fresh (sym own_start ∙ e);
        }

    moves : Moves header
    moves = header_moves header accepted

    whole_moved : length (moved header) ≡ header_length (moved header)
    whole_moved = moves.is_accepted.whole

    same_header : header_of (moved_trace trace) ≡ header_of trace
    same_header = header_of_lem (moved header) entries whole_moved ∙ moves.says_the_same ∙ sym (own_header trace room.0)

    same : length (moved_trace trace) ≤ longest_trace → start_of (moved_trace trace) ≡ start_of trace
    same l =
        starts (moved header) entries whole_moved l
        ∙ ap (λ (h : Header). started_with (settings_of h) h.applications) moves.says_the_same
        ∙ sym own_start

    long : length trace ≡ header_length trace + length entries
    long = ap length (sym parts) ∙ length-append header entries ∙ ap (λ (n : ℕ). n + length entries) (own_length trace room.0)

    swapped : (a b c : ℕ) → a + b + c ≡ c + b + a
    swapped a b c = omega arith

-- The header of document 01's example 12 in both editions, byte by byte.

-- 050600c800007eb40a7e010b01000000
abbrev pub example_first : List ℕ
example_first = 5 ∷ 6 ∷ 0 ∷ 200 ∷ 0 ∷ 0 ∷ 126 ∷ 180 ∷ 10 ∷ 126 ∷ 1 ∷ 11 ∷ 1 ∷ 0 ∷ 0 ∷ 0 ∷ []

-- 820ac0190007eb415f842c000000
abbrev pub example_second : List ℕ
example_second = 130 ∷ 10 ∷ 192 ∷ 25 ∷ 0 ∷ 7 ∷ 235 ∷ 65 ∷ 95 ∷ 132 ∷ 44 ∷ 0 ∷ 0 ∷ 0 ∷ []

pub example_moves : (moved example_first ≡ example_second) × (moved example_second ≡ example_first)
unfolding edition_of other_than length_of header_of header_in header_bytes field_of be_from
example_moves = (refl, refl)
