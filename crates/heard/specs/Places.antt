-- Entries in a table: one that is written is read back, the others stay; and a table of zeros has none. Assumes nothing.
use Rattle.std.specs.Prelude.{ℕ, zero, suc, ◌+◌, ◌-◌, ◌^◌, ◌<◌, ◌≤◌, ◌≡◌, refl, List, ◌++◌, None, Some, length, take, drop, replicate}
use Rattle.std.proofs.Common.{sym, ap, ◌∙◌, arith, le-ltb, length-append, length-drop, take-append-drop, length-take-le, drop_at, drop-drop, lit≤, lit<}
use Rattle.std.proofs.Math.Nat.{sub-zero}
use borrow.Table.Steps.{cases}
use Rattle.std.proofs.lemmas.List.{take-append-le, drop-append-le}
use Rattle.codec_fields.specs.Fields.{has_room, load_of, be, be_from}
use Rattle.codec_fields.proofs.Laws.{be_low}
use Rattle.codec_fields.proofs.Stores.{load_room}
use Rattle.codec_telegrams.specs.declared.ResponseState.TheVariants.{Slave, MasterNotReady, MasterWithoutToken, MasterInRing}
use Rattle.codec_telegrams.specs.Words.{response_state_of}
use Rattle.codec_telegrams.specs.Laws.{state_below}
use Rattle.heard.specs.declared.AddressEntry.{AddressEntry}
use Rattle.heard.specs.Heard.{LastType, entry_length, type_byte, type_of, entry_of, no_entry, entry_bytes, entry_into}

-- an entry whose numbers fit their bytes
abbrev pub EntryFits : AddressEntry → Type 0
EntryFits e = (e.times < 2 ^ 32) × (e.first < 2 ^ 48) × (e.last < 2 ^ 48)

-- a station type is read back from its byte
type_read : (type : LastType) → type_of (type_byte type) ≡ type
unfolding type_of type_byte response_state_of
type_read None = refl
type_read (Some Slave) = refl
type_read (Some MasterNotReady) = refl
type_read (Some MasterWithoutToken) = refl
type_read (Some MasterInRing) = refl

-- which is a byte
type_below : (type : LastType) → type_byte type < 2 ^ 8
unfolding type_byte
type_below None = lit< tt
type_below (Some state) = omega (arith, state_below state)

-- an entry written into bytes is read back from them
pub entry_back : (s : List ℕ) (e : AddressEntry) → entry_length ≤ length s → EntryFits e → entry_of (entry_into s e) ≡ e
unfolding entry_of entry_into
entry_back s e room fits =
    let x : List ℕ = entry_bytes e ++ drop entry_length s in
    let long : entry_length ≤ length x = omega arith in
    let times : load_of x 0 4 ≡ e.times = load_room x 0 4 (lit≤ tt) (omega (arith, long)) ∙ be_low 4 e.times fits.0 in
    let first : load_of x 4 6 ≡ e.first = load_room x 4 6 (lit≤ tt) (omega (arith, long)) ∙ be_low 6 e.first fits.1 in
    let last : load_of x 10 6 ≡ e.last = load_room x 10 6 (lit≤ tt) (omega (arith, long)) ∙ be_low 6 e.last fits.2 in
    let type : load_of x 16 1 ≡ type_byte e.last_type = load_room x 16 1 (lit≤ tt) (omega (arith, long)) ∙ be_low 1 (type_byte e.last_type) (type_below e.last_type) in
    rw (le-ltb (length s) entry_length room, times, first, last, type, type_read e.last_type)

-- what is loaded from the first of two parts
load_first : (p q : List ℕ) (at count : ℕ) → count ≤ 8 → at + count ≤ length p → load_of (p ++ q) at count ≡ load_of p at count
load_first p q at count few room =
    load_room (p ++ q) at count few (rw length-append (omega (arith, room)))
    ∙ ap (λ (l : List ℕ). be (take count l)) (drop-append-le at p q (omega (arith, room)))
    ∙ ap be (take-append-le count (drop at p) q (rw length-drop (omega (arith, room))))
    ∙ sym (load_room p at count few room)

-- an entry is read from the first 17 bytes
entry_first : (p q : List ℕ) → entry_length ≤ length p → entry_of (p ++ q) ≡ entry_of p
unfolding entry_of
entry_first p q room =
    rw (
      load_first p q 0 4 (lit≤ tt) (omega (arith, room)),
      load_first p q 4 6 (lit≤ tt) (omega (arith, room)),
      load_first p q 10 6 (lit≤ tt) (omega (arith, room)),
      load_first p q 16 1 (lit≤ tt) (omega (arith, room)),
    )

-- An entry written at a place of a table that has room for it.
module _ (s : List ℕ) (at : ℕ) (e : AddressEntry) (room : at + entry_length ≤ length s) where
  abbrev changed : List ℕ
  changed = take at s ++ entry_into (drop at s) e

  before_long : length (take at s) ≡ at
  before_long = length-take-le at s (omega (arith, room))

  tail_room : entry_length ≤ length (drop at s)
  tail_room = rw length-drop (omega (arith, room))

  into_is : entry_into (drop at s) e ≡ entry_bytes e ++ drop entry_length (drop at s)
  unfolding entry_into
  into_is = rw (le-ltb (length (drop at s)) entry_length tail_room)

  -- it is read back
  pub written_there : EntryFits e → entry_of (drop at changed) ≡ e
  written_there fits = ap entry_of (drop_at (take at s) (entry_into (drop at s) e) at before_long) ∙ entry_back (drop at s) e tail_room fits

  -- an entry before it stays
  pub before_stays : (other : ℕ) → other + entry_length ≤ at → entry_of (drop other changed) ≡ entry_of (drop other s)
  before_stays other apart =
      let p : List ℕ = drop other (take at s) in
      let short : other ≤ length (take at s) = rw before_long (omega (arith, apart)) in
      let long : entry_length ≤ length p = rw (length-drop, before_long) (omega (arith, apart)) in
      let same : (q : List ℕ) → entry_of (drop other (take at s ++ q)) ≡ entry_of p = λ q.
      ap entry_of (drop-append-le other (take at s) q short) ∙ entry_first p q long in
      same (entry_into (drop at s) e) ∙ sym (same (drop at s)) ∙ ap (λ (l : List ℕ). entry_of (drop other l)) (take-append-drop at s)

  -- so does one behind it
  pub behind_stays : (other : ℕ) → at + entry_length ≤ other → entry_of (drop other changed) ≡ entry_of (drop other s)
  behind_stays other apart =
      let k = other - (at + entry_length) in
      let here : at + (entry_length + k) ≡ other = omega (arith, apart) in
      let cut : (l : List ℕ) → drop other l ≡ drop k (drop entry_length (drop at l)) = λ l.
      ap (λ (n : ℕ). drop n l) (sym here) ∙ sym (drop-drop (entry_length + k) at l) ∙ sym (drop-drop k entry_length (drop at l)) in
      let same : drop entry_length (drop at changed) ≡ drop entry_length (drop at s) =
      ap (drop entry_length) (drop_at (take at s) (entry_into (drop at s) e) at before_long ∙ into_is)
      ∙ drop_at (entry_bytes e) (drop entry_length (drop at s)) entry_length refl in
      ap entry_of (cut changed ∙ ap (drop k) same ∙ sym (cut s))

  -- and the table is as long as before
  pub changed_long : length changed ≡ length s
  changed_long =
      length-append (take at s) (entry_into (drop at s) e)
      ∙ rw (before_long, into_is, length-append, length-drop, length-drop) (omega (arith, room))

abbrev zeros : ℕ → List ℕ
zeros n = replicate n 0

-- zeros from a place on
drop_zeros : (k n : ℕ) → drop k (zeros n) ≡ zeros (n - k)
drop_zeros zero n = ap zeros (sym (sub-zero n))
drop_zeros (suc k) zero = let e : 0 ≡ 0 - suc k = omega arith in ap zeros e
drop_zeros (suc k) (suc n) = let e : n - k ≡ suc n - suc k = omega arith in drop_zeros k n ∙ ap zeros e

-- zeros are the number 0
zeros_are_zero : (count n : ℕ) → be (take count (zeros n)) ≡ 0
unfolding be_from
zeros_are_zero zero n = refl
zeros_are_zero (suc count) zero = refl
zeros_are_zero (suc count) (suc n) = zeros_are_zero count n

load_zeros : (n at count : ℕ) → load_of (zeros n) at count ≡ 0
unfolding load_of
load_zeros n at count =
    cases (has_room (length (zeros n)) at count)
    (λ t. rw t (ap (λ (l : List ℕ). be (take count l)) (drop_zeros at n) ∙ zeros_are_zero count (n - at)))
    (λ t. rw t refl)

-- a table of zeros has heard nobody
pub zeros_unheard : (n at : ℕ) → entry_of (drop at (replicate n 0)) ≡ no_entry
unfolding entry_of no_entry type_of
zeros_unheard n at =
    let m = n - at in
    ap entry_of (drop_zeros at n) ∙ rw (load_zeros m 0 4, load_zeros m 4 6, load_zeros m 10 6, load_zeros m 16 1)
