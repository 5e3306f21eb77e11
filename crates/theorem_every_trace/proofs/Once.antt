-- `every_trace` leaves no choice: there is one way to take a trace's bytes apart into the entries that are answered and the rest.
use Rattle.std.specs.Prelude.{ℕ, suc, ◌-◌, ◌*◌, ◌≤◌, ◌≡◌, refl, List, [], ◌∷◌, ◌++◌, length, take, drop}
use Rattle.std.proofs.Common.{sym, ap, ◌∙◌, subst, append_assoc, arith, length-append, length-take-le, take_at, drop_at}
use Rattle.std.proofs.Math.Nat.{sub-zero}
use Rattle.station.specs.declared.station.Station.{Station}
use Rattle.trace_headers.specs.Headers.{header_length}
use Rattle.trace.specs.Entries.{record_length}
use Rattle.theorem_every_trace.specs.Statement.{Entry, Whole, laid, Stops, empty, cut, full, Answered}
use Rattle.theorem_every_trace.proofs.Theorem.{ending_tells}
use Rattle.theorem_every_trace.specs.Once.{OneReplay}

-- bytes at which a run stops do not begin with a whole entry that has room
stops_there : {room : ℕ} {kind : ℕ} {bytes : List ℕ} {n : ℕ} → Stops room (kind ∷ bytes) n → record_length kind ≤ length bytes → 8 ≤ room → ⊥
stops_there (cut kind bytes c) h l = omega (arith, c, h)
stops_there (full kind bytes c f) h l = omega (arith, f, l)

-- it stops there with one number
one_ending : {room : ℕ} {rest : List ℕ} {m n : ℕ} → Stops room rest m → Stops room rest n → m ≡ n
one_ending empty t = sym ((ending_tells t).none_left.1 refl)
one_ending (cut kind bytes c) t = sym ((ending_tells t).cut_short.1 c)
one_ending (full kind bytes c f) t = sym ((ending_tells t).no_room.1 (c, f))

-- an entry's first byte and record
entry_is : (e f : Entry) → e.kind ≡ f.kind → e.bytes ≡ f.bytes → e ≡ f
entry_is e f k b = ap (λ (x : ℕ). record { kind = x; bytes = e.bytes }) k ∙ ap (λ (x : List ℕ). record { kind = f.kind; bytes = x }) b

-- two ways of taking bytes apart are one
record SameParts (es fs : List Entry) (r q : List ℕ) : Type 0 where
  pub same_entries : es ≡ fs
  pub same_rest : r ≡ q

-- a run does not stop where an entry that is whole and has room follows
went_on : (room : ℕ) (f : Entry) (later r : List ℕ) (n : ℕ) → length f.bytes ≡ record_length f.kind → r ≡ f.kind ∷ (f.bytes ++ later) → 8 ≤ room → Stops room r n → ⊥
went_on room f later r n w e l s =
    stops_there (subst (λ (x : List ℕ). Stops room x n) e s) (rw (length-append, w) (omega arith)) l

same_parts :
    (es fs : List Entry) (r q : List ℕ) (room m n : ℕ)
    → Whole es
    → Whole fs
    → laid es ++ r ≡ laid fs ++ q
    → 8 * length es ≤ room
    → 8 * length fs ≤ room
    → Stops (room - 8 * length es) r m
    → Stops (room - 8 * length fs) q n
    → SameParts es fs r q
same_parts [] [] r q room m n w v e l k s t = record { same_entries = refl; same_rest = e }
same_parts [] (f ∷ fs) r q room m n w v e l k s t =
    absurd (went_on room f (laid fs ++ q) r m v.0 (e ∙ ap (λ (x : List ℕ). f.kind ∷ x) (append_assoc f.bytes (laid fs) q)) (omega arith) (rw (sub-zero room) at s))
same_parts (f ∷ es) [] r q room m n w v e l k s t =
    absurd (went_on room f (laid es ++ r) q n w.0 (sym e ∙ ap (λ (x : List ℕ). f.kind ∷ x) (append_assoc f.bytes (laid es) r)) (omega arith) (rw (sub-zero room) at t))
same_parts (e ∷ es) (f ∷ fs) r q room m n w v same l k s t =
    let first : e.kind ≡ f.kind = cc in
    let after : (e.bytes ++ laid es) ++ r ≡ (f.bytes ++ laid fs) ++ q = cc in
    let whole : e.bytes ++ (laid es ++ r) ≡ f.bytes ++ (laid fs ++ q) = sym (append_assoc e.bytes (laid es) r) ∙ after ∙ append_assoc f.bytes (laid fs) q in
    let long : length f.bytes ≡ record_length e.kind = v.0 ∙ ap record_length (sym first) in
    let here : e.bytes ≡ f.bytes = sym (take_at e.bytes (laid es ++ r) _ w.0) ∙ ap (take (record_length e.kind)) whole ∙ take_at f.bytes (laid fs ++ q) _ long in
    let then : laid es ++ r ≡ laid fs ++ q = sym (drop_at e.bytes (laid es ++ r) _ w.0) ∙ ap (drop (record_length e.kind)) whole ∙ drop_at f.bytes (laid fs ++ q) _ long in
    let more =
    same_parts es fs r q (room - 8) m n w.1 v.1 then (omega arith) (omega arith)
    (subst (λ (x : ℕ). Stops x r m) (eight room (length es)) s)
    (subst (λ (x : ℕ). Stops x q n) (eight room (length fs)) t) in
    record { same_entries = ap (λ (x : Entry). x ∷ es) (entry_is e f first here) ∙ ap (λ (x : List Entry). f ∷ x) more.same_entries; same_rest = more.same_rest }
  where
    eight : (a n : ℕ) → a - 8 * suc n ≡ a - 8 - 8 * n
    eight a n = omega arith

pub answered_once :
    {fresh gone : Station} {trace before : List ℕ} {returned number : ℕ} {left other : List ℕ} (a : Answered fresh trace before returned left) (b : Answered gone trace before number other)
    → OneReplay a b
answered_once {trace = trace} {before = before} a b =
    record {
      one_entries = same.same_entries;
      one_rest = same.same_rest;
      one_end = one_ending (subst (λ (es : List Entry). Stops (length before - 8 * length es) b.rest a.ending) same.same_entries (subst (λ (x : List ℕ). Stops (length before - 8 * length a.entries) x a.ending) same.same_rest a.stops)) b.stops;
    }
  where
    behind : (l : List ℕ) → trace ≡ take (header_length trace) trace ++ l → drop (header_length trace) trace ≡ l
    behind l e = ap (drop (header_length trace)) e ∙ drop_at (take (header_length trace) trace) l (header_length trace) (length-take-le (header_length trace) trace a.header)

    same : SameParts a.entries b.entries a.rest b.rest
    same =
        same_parts a.entries b.entries a.rest b.rest (length before) a.ending b.ending a.whole b.whole
        (sym (behind _ a.bytes) ∙ behind _ b.bytes)
        a.room b.room a.stops b.stops
