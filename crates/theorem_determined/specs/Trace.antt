-- Determined, for the public calls of trace.
use Rattle.std.specs.Prelude.{ℕ, ◌≡◌, refl, List, [], ◌∷◌, Option, Some, None, Result, Ok, Err}
use Rattle.std.proofs.Common.{◌∙◌, sym, ap, arith}
use Rattle.refusals.specs.declared.refusal.Refusal.{Refusal}
use Rattle.refusals.specs.Refusals.{number_of, named}
use Rattle.refusals.proofs.Numbers.{named_back}
use Rattle.station.specs.declared.station.Station.{Station}
use Rattle.trace.specs.declared.entries.Entry.{Entry}
use Rattle.trace.specs.declared.entries.Entry.TheVariants.{Online, Offline, Passive, Poll}
use Rattle.trace.specs.Taken.{record_of, IsEntry, ItemIs, TakesEntry}
use Rattle.trace.specs.Trace.{start_in}
use Rattle.theorem_determined.specs.Claim.{Determined, DeterminedLent}
use Rattle.theorem_determined.specs.Joins.{polled_same}
use Rattle.trace.proofs.entries.Entry.record.Reads as record-reads
use Rattle.trace.proofs.entries.Entries.new.Reads as new-reads
use Rattle.trace.proofs.entries.EntriesIterator.next.Reads as next-reads
use Rattle.trace.proofs.header_settings.Reads as header-settings-reads
use Rattle.trace.proofs.trace_settings.Reads as trace-settings-reads
use Rattle.trace.proofs.record_length.Reads as record-length-reads
use Rattle.trace.proofs.start.Reads as start-reads
use Rattle.trace.proofs.answer_entry.Reads as answer-entry-reads
use Rattle.trace.proofs.replay_trace.Reads as replay-trace-reads

-- what an entry says: which of the four it is, and the record's bytes. Where these stand in memory no contract says
abbrev which : Entry → ℕ
which Online = 0
which Offline = 1
which Passive = 2
which (Poll bytes) = 3

abbrev said : Entry → ℕ × List ℕ
said entry = (which entry, record_of entry)

abbrev item_said : Result Entry Refusal → Result (ℕ × List ℕ) Refusal
item_said (Ok entry) = Ok (said entry)
item_said (Err refusal) = Err refusal

abbrev taken_said : Option (Result Entry Refusal) → Option (Result (ℕ × List ℕ) Refusal)
taken_said None = None
taken_said (Some item) = Some (item_said item)

-- a kind and the bytes behind it say one thing
entry_same : (a b : Entry) (kind : ℕ) (bytes : List ℕ) → IsEntry a kind bytes → IsEntry b kind bytes → said a ≡ said b
entry_same Online Online kind bytes p q = refl
entry_same Online Offline kind bytes p q = absurd (omega (arith, p.0, q.0))
entry_same Online Passive kind bytes p q = absurd (omega (arith, p.0, q.0))
entry_same Online (Poll y) kind bytes p q = absurd (omega (arith, p.0, q.0))
entry_same Offline Online kind bytes p q = absurd (omega (arith, p.0, q.0))
entry_same Offline Offline kind bytes p q = refl
entry_same Offline Passive kind bytes p q = absurd (omega (arith, p.0, q.0))
entry_same Offline (Poll y) kind bytes p q = absurd (omega (arith, p.0, q.0))
entry_same Passive Online kind bytes p q = absurd (omega (arith, p.0, q.0))
entry_same Passive Offline kind bytes p q = absurd (omega (arith, p.0, q.0))
entry_same Passive Passive kind bytes p q = refl
entry_same Passive (Poll y) kind bytes p q = absurd (omega (arith, p.0, q.0))
entry_same (Poll x) Online kind bytes p q = absurd (omega (arith, p.0, q.0))
entry_same (Poll x) Offline kind bytes p q = absurd (omega (arith, p.0, q.0))
entry_same (Poll x) Passive kind bytes p q = absurd (omega (arith, p.0, q.0))
entry_same (Poll x) (Poll y) kind bytes p q = ap (λ (bytes : List ℕ). (3, bytes)) (p.1 ∙ sym q.1)

-- so does what is taken where they stand, and what is left behind it is one
item_same : (r q : Result Entry Refusal) (kind : ℕ) (rest left₁ left₂ : List ℕ) → ItemIs r kind rest left₁ → ItemIs q kind rest left₂ → (item_said r ≡ item_said q) × (left₁ ≡ left₂)
item_same (Ok a) (Ok b) kind rest left₁ left₂ p q = (ap Ok (entry_same a b kind _ p.1 q.1), p.2 ∙ sym q.2)
item_same (Ok a) (Err f) kind rest left₁ left₂ p q = absurd (omega (arith, p.0, q.0))
item_same (Err e) (Ok b) kind rest left₁ left₂ p q = absurd (omega (arith, p.0, q.0))
item_same (Err e) (Err f) kind rest left₁ left₂ p q = (ap Err (p.1 ∙ sym q.1), p.2 ∙ sym q.2)

taken_same : (bytes : List ℕ) (r q : Option (Result Entry Refusal)) (left₁ left₂ : List ℕ) → TakesEntry bytes r left₁ → TakesEntry bytes q left₂ → (taken_said r ≡ taken_said q) × (left₁ ≡ left₂)
taken_same [] r q left₁ left₂ h k = (ap taken_said (h.0 ∙ sym k.0), h.1 ∙ sym k.1)
taken_same (kind ∷ rest) None q left₁ left₂ h k = absurd h
taken_same (kind ∷ rest) (Some x) None left₁ left₂ h k = absurd k
taken_same (kind ∷ rest) (Some x) (Some y) left₁ left₂ h k = let e = item_same x y kind rest left₁ left₂ h k in (ap Some e.0, e.1)

-- the start of a trace is one station, or one refusal
start_same : (r q : Result Station Refusal) → start_in r ≡ start_in q → r ≡ q
start_same (Ok x) (Ok y) h = let e : x ≡ y = cc in ap Ok e
start_same (Ok x) (Err f) h = cc
start_same (Err e) (Ok y) h = cc
start_same (Err e) (Err f) h = let n : number_of e ≡ number_of f = cc in ap Err (sym (named_back e) ∙ ap named n ∙ named_back f)

-- the record that is lent out is fixed, every byte
pub record_lem :
    (κs : _) (a : _) (r₁ r₂ : _) (s₁ s₂ : _)
    → record-reads.Post κs a r₁ s₁
    → record-reads.Post κs a r₂ s₂
    → r₁.now ≡ r₂.now
record_lem κs a r₁ r₂ s₁ s₂ p q = p ∙ sym q

pub new : Determined new-reads.Post
new κs a r₁ r₂ s₁ s₂ p q = p ∙ sym q

-- of `next` what the entry says, and the entries that are left
pub next :
    (κs : _) (a : _) (r₁ r₂ : _) (s₁ s₂ : _)
    → next-reads.Post κs a r₁ s₁
    → next-reads.Post κs a r₂ s₂
    → (taken_said r₁ ≡ taken_said r₂) × (s₁.0.now ≡ s₂.0.now)
next κs a r₁ r₂ s₁ s₂ p q = taken_same a.0.now r₁ r₂ _ _ p.0 q.0

pub header_settings : Determined header-settings-reads.Post
header_settings κs a r₁ r₂ s₁ s₂ p q = p ∙ sym q

pub trace_settings : Determined trace-settings-reads.Post
trace_settings κs a r₁ r₂ s₁ s₂ p q = p ∙ sym q

pub record_length_lem : Determined record-length-reads.Post
record_length_lem κs a r₁ r₂ s₁ s₂ p q = p.0 ∙ sym q.0

pub start : Determined start-reads.Post
start κs a r₁ r₂ s₁ s₂ p q = start_same r₁ r₂ (p ∙ sym q)

pub answer_entry : DeterminedLent answer-entry-reads.Post (λ k s. s.0.now)
answer_entry κs a r₁ r₂ s₁ s₂ p q = polled_same (p ∙ sym q)

-- `replay_trace` returns a number and writes: both are fixed, the lent buffer in every byte
pub replay_trace :
    (κs : _) (a : _) (r₁ r₂ : _) (s₁ s₂ : _)
    → replay-trace-reads.Post κs a r₁ s₁
    → replay-trace-reads.Post κs a r₂ s₂
    → (r₁ ≡ r₂) × (s₁.1.0.now ≡ s₂.1.0.now)
replay_trace κs a r₁ r₂ s₁ s₂ p q = (p.0 ∙ sym q.0, p.1 ∙ sym q.1)
