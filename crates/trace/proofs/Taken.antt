-- What is taken off a trace's bytes, at the place where they stand in the trace. Assumes nothing.
use Rattle.std.specs.Prelude.{ℕ, suc, ◌+◌, ◌-◌, ◌<◌, ◌≤◌, ◌≡◌, refl, List, [], ◌∷◌, length, get_or, take, drop, Some, None, Ok, Err}
use Rattle.std.proofs.Math.Path.{sym, ap}
use Rattle.std.proofs.Common.{◌∙◌, arith, add-one, length-drop, drop-cons, drop-drop}
use Rattle.std.proofs.lemmas.Bool.{ne_eqb}
use Rattle.refusals.specs.declared.refusal.Refusal.{Refusal}
use Rattle.refusals.specs.declared.refusal.Refusal.TheVariants.{TraceLength}
use Rattle.station.specs.declared.station.Station.{Station}
use Rattle.trace.specs.declared.entries.Entry.{Entry}
use Rattle.trace.specs.declared.entries.Entry.TheVariants.{Online, Offline, Passive, Poll}
use Rattle.trace.specs.Entries.{record_length, entry_of}
use Rattle.trace.specs.Taken.{record_of, IsEntry, TakesEntry, told}

-- an entry comes to what its kind and its record come to
pub told_is : (s : Station) (kind : ℕ) (bytes : List ℕ) (entry : Entry) → IsEntry entry kind bytes → told s entry ≡ entry_of s kind bytes
unfolding told entry_of
told_is s kind bytes Online h = rw h.0 refl
told_is s kind bytes Offline h = rw h.0 refl
told_is s kind bytes Passive h = rw h.0 refl
told_is s kind bytes (Poll taken) h = rw (ne_eqb kind 0 (λ z. omega (arith, h.0)), ne_eqb kind 1 (λ z. omega (arith, h.0)), ne_eqb kind 2 (λ z. omega (arith, h.0)), h.1) refl

-- its record's bytes are those that stand there
pub record_is : (kind : ℕ) (bytes : List ℕ) (entry : Entry) → IsEntry entry kind bytes → record_of entry ≡ bytes
record_is kind bytes Online h = sym h.1
record_is kind bytes Offline h = sym h.1
record_is kind bytes Passive h = sym h.1
record_is kind bytes (Poll taken) h = h.1

-- an entry that was taken, at its place in the trace
pub record Whole (trace : List ℕ) (at : ℕ) (entry : Entry) (left : List ℕ) : Type 0 where
  pub some : at < length trace
  pub fits : record_length (get_or trace at 0) ≤ length trace - (at + 1)
  pub says : (s : Station) → told s entry ≡ entry_of s (get_or trace at 0) (take (at + 1 + record_length (get_or trace at 0) - (at + 1)) (drop (at + 1) trace))
  pub bytes : record_of entry ≡ take (at + 1 + record_length (get_or trace at 0) - (at + 1)) (drop (at + 1) trace)
  pub behind : left ≡ drop (at + 1 + record_length (get_or trace at 0)) trace

-- an entry that the trace cuts short, at its place in the trace
pub record Cut (trace : List ℕ) (at : ℕ) (refusal : Refusal) : Type 0 where
  pub some : at < length trace
  pub short : length trace - (at + 1) < record_length (get_or trace at 0)
  pub number : refusal ≡ TraceLength

module _ (trace : List ℕ) (at kind : ℕ) (rest : List ℕ) (here : kind ∷ rest ≡ drop at trace) where
  -- a byte is left
  some : at < length trace
  some =
      let e : suc (length rest) ≡ length trace - at = ap length here ∙ length-drop at trace in
      omega (arith, e)

  parts : kind ∷ rest ≡ get_or trace at 0 ∷ drop (suc at) trace
  parts = here ∙ drop-cons trace at 0 some

  -- it is the entry's first byte
  first : kind ≡ get_or trace at 0
  first = ap (λ (l : List ℕ). get_or l 0 0) parts

  -- and the rest follows it
  next : rest ≡ drop (at + 1) trace
  next = ap (drop 1) parts ∙ rw (add-one at) refl

  long : length rest ≡ length trace - (at + 1)
  long = ap length next ∙ length-drop (at + 1) trace

-- a whole entry is taken
pub whole : (trace rest : List ℕ) (at : ℕ) (entry : Entry) (left : List ℕ) → rest ≡ drop at trace → TakesEntry rest (Some (Ok entry)) left → Whole trace at entry left
whole trace [] at entry left here t = absurd (cc t.0)
whole trace (kind ∷ rest) at entry left here t =
    let f = first trace at kind rest here in
    let n = next trace at kind rest here in
    let k = record_length (get_or trace at 0) in
    let same : at + 1 + k - (at + 1) ≡ k = omega arith in
    let is : IsEntry entry (get_or trace at 0) (take (at + 1 + k - (at + 1)) (drop (at + 1) trace)) = rw (same, ← f, ← n) t.1 in
    record {
      some = some trace at kind rest here;
      fits = rw (← f, ← long trace at kind rest here) t.0;
      says = λ s. told_is s (get_or trace at 0) _ entry is;
      bytes = record_is (get_or trace at 0) _ entry is;
      behind = t.2 ∙ rw (f, n) (drop-drop k (at + 1) trace);
    }

-- an entry is cut short
pub cut_short : (trace rest : List ℕ) (at : ℕ) (refusal : Refusal) (left : List ℕ) → rest ≡ drop at trace → TakesEntry rest (Some (Err refusal)) left → Cut trace at refusal
cut_short trace [] at refusal left here t = absurd (cc t.0)
cut_short trace (kind ∷ rest) at refusal left here t =
    let f = first trace at kind rest here in
    record { some = some trace at kind rest here; short = rw (← f, ← long trace at kind rest here) t.0; number = t.1 }

-- nothing is left
pub none_left : (trace rest : List ℕ) (at : ℕ) (left : List ℕ) → rest ≡ drop at trace → TakesEntry rest None left → length trace ≤ at
none_left trace [] at left here t =
    let e : 0 ≡ length trace - at = ap length here ∙ length-drop at trace in
    omega (arith, e)
none_left trace (kind ∷ rest) at left here t = absurd t
