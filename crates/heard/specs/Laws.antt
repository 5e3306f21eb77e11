-- A table that was fed with telegrams says what is worked out from them afresh (`lookup_afresh`). Assumes nothing.
use Rattle.std.specs.Prelude.{ℕ, zero, suc, ◌+◌, ◌^◌, ◌<◌, ◌≤◌, ◌≡◌, Option, None, Some, Ok, Bool, drop, eqb, ltb}
use Rattle.std.proofs.Math.Path.{refl, sym, ap}
use Rattle.std.proofs.Common.{◌∙◌, subst, arith, add-zero, zero-add, le_refl, lit≤, lit<}
use mathlib.Core.List.{List, [], ◌∷◌, ◌++◌}
use Rattle.std.proofs.Math.Bool.{cond}
use borrow.Author.Tests.{ltb-true, ltb-false, lt-ltb, le-ltb, eqb-true, eqb-false, ne_eqb}
use borrow.Table.Steps.{cases}
use Rattle.std.proofs.Math.ListN.{length}
use Rattle.std.proofs.lemmas.List.{length-replicate}
use Rattle.refusals.specs.Refusals.{number_of, named, answered}
use Rattle.refusals.proofs.Numbers.{refused as never_zero}
use Rattle.codec_fields.specs.Fields.{up_to}
use Rattle.codec_records.specs.Records.{head_of, telegram_at}
use Rattle.codec_records.specs.Laws.{clock_below}
use Rattle.codec_telegrams.specs.declared.Telegram.{Telegram}
use Rattle.codec_telegrams.specs.declared.Telegram.TheVariants.{Token, ShortConfirmation, Request, Response}
use Rattle.heard.specs.declared.AddressEntry.{AddressEntry}
use Rattle.heard.specs.Heard.{LastType, Found, last_address, entry_length, most_times, heard_refusal, entry_of, no_entry, one_more, first_clock, newer_type, entry_after, entry_place, heard_from, hear_of, Hearing, hear_all, consumed_in, lookup_on, lookup_of, lookup_number, summary_number, summary_into}
use Rattle.heard.specs.Afresh.{sent_by, of_address, last_clock, type_after, last_response, found_in, afresh_of, Clocked, table_length, fresh_table}
use Rattle.heard.specs.Places.{EntryFits, written_there, before_stays, behind_stays, changed_long, zeros_unheard}

-- Telegrams of one address, heard one after the other.

-- the station type that a telegram says
abbrev type_in : Telegram → LastType
type_in (Token destination source) = None
type_in ShortConfirmation = None
type_in (Request destination source request) = None
type_in (Response destination source state status) = Some state

-- an entry after telegrams of its address
unfoldable entry_all : AddressEntry → List Hearing → AddressEntry
entry_all e [] = e
entry_all e (h ∷ hs) = entry_all (entry_after e h.clock (type_in h.telegram)) hs

-- the type that a telegram says after the one before
type_after_lem : (type : LastType) (t : Telegram) → newer_type type (type_in t) ≡ type_after type t
unfolding newer_type
type_after_lem type (Token destination source) = refl
type_after_lem type ShortConfirmation = refl
type_after_lem type (Request destination source request) = refl
type_after_lem type (Response destination source state status) = refl

-- one more of a count that has not passed its largest
one_more_of : (n : ℕ) → n ≤ most_times → one_more n ≤ most_times
unfolding one_more
one_more_of n h =
    cases (eqb n most_times) (λ t. rw t h) (λ t. rw t (omega (arith, h, eqb-false n most_times t)))

-- it is the count up to the largest
one_more_up : (n k : ℕ) → n ≤ most_times → up_to most_times (one_more n + k) ≡ up_to most_times (n + suc k)
unfolding one_more
one_more_up n k h =
    cases (eqb n most_times)
    (λ t.
    let e = eqb-true n most_times t in
    rw t (full (n + k) (omega (arith, e)) ∙ sym (full (n + suc k) (omega (arith, e)))))
    (λ t. rw t (ap (up_to most_times) (step n k)))
  where
    full : (m : ℕ) → most_times ≤ m → up_to most_times m ≡ most_times
    full m le = cases (ltb most_times m) (λ t. rw t) (λ t. rw t (omega (arith, le, ltb-false most_times m t)))

    step : (n k : ℕ) → n + 1 + k ≡ n + suc k
    step n k = omega arith

-- and some
one_more_some : (n : ℕ) → one_more n ≡ 0 → ⊥
unfolding one_more
one_more_some n e =
    cases (eqb n most_times) (λ t. omega (arith, eqb-true n most_times t, rw t at e)) (λ t. omega (arith, rw t at e))

-- what telegrams of its address make of an entry that was heard before
all_of :
    (e : AddressEntry) (hs : List Hearing)
    → (e.times ≡ 0 → ⊥)
    → e.times ≤ most_times
    → entry_all e hs
    ≡ record { first = e.first; last = last_clock e.last hs; times = up_to most_times (e.times + length hs); last_type = last_response e.last_type hs }
unfolding entry_all entry_after first_clock last_clock last_response
all_of e [] some few =
    let n : up_to most_times (e.times + 0) ≡ e.times = rw (add-zero e.times, le-ltb most_times e.times few) in
    rw n
all_of e (h ∷ hs) some few =
    all_of (entry_after e h.clock (type_in h.telegram)) hs (one_more_some e.times) (one_more_of e.times few)
    ∙ rw (ne_eqb e.times 0 some, type_after_lem e.last_type h.telegram, one_more_up e.times (length hs) few)

-- one or more, up to the largest count, are some
up_some : (n : ℕ) → up_to most_times (suc n) ≡ 0 → ⊥
up_some n e = cases (ltb most_times (suc n)) (λ t. let z : most_times ≡ 0 = rw t at e in omega arith) (λ t. let z : suc n ≡ 0 = rw t at e in omega arith)

-- telegrams of an address that was not heard before come to what is worked out afresh
found_all : (hs : List Hearing) → lookup_on (entry_all no_entry hs) ≡ found_in hs
unfolding lookup_on entry_all entry_after no_entry first_clock found_in last_response
found_all [] = refl
found_all (h ∷ hs) =
    ap lookup_on (all_of (entry_after no_entry h.clock (type_in h.telegram)) hs (one_more_some 0) (one_more_of 0 (lit≤ tt)))
    ∙ rw (one_more_up 0 (length hs) (lit≤ tt), zero-add (suc (length hs)), type_after_lem None h.telegram, ne_eqb (up_to most_times (suc (length hs))) 0 (up_some (length hs)))

-- a table of an entry for each address
abbrev pub Long : List ℕ → Type 0
Long table = table_length ≤ length table

-- where a telegram comes from: a short confirmation from nowhere, so from an address that is skipped
abbrev source_of : Telegram → ℕ
source_of (Token destination source) = source
source_of ShortConfirmation = 126
source_of (Request destination source request) = source
source_of (Response destination source state status) = source

hear_is : (table : List ℕ) (clock : ℕ) (t : Telegram) → hear_of table clock t ≡ heard_from table clock (source_of t) (type_in t)
unfolding hear_of heard_from
hear_is table clock (Token destination source) = refl
hear_is table clock ShortConfirmation = refl
hear_is table clock (Request destination source request) = refl
hear_is table clock (Response destination source state status) = refl

sent_is : (a : ℕ) (t : Telegram) → a ≤ last_address → sent_by a t ≡ eqb (source_of t) a
sent_is a (Token destination source) h = refl
sent_is a ShortConfirmation h = sym (ne_eqb 126 a (λ e. omega (arith, h, e)))
sent_is a (Request destination source request) h = refl
sent_is a (Response destination source state status) h = refl

-- the entry of an address in a table
abbrev entry_in : ℕ → List ℕ → AddressEntry
entry_in a table = entry_of (drop (entry_place a) table)

-- an entry that fits fits after a telegram
after_fits : (e : AddressEntry) (clock : ℕ) (seen : LastType) → EntryFits e → clock < 2 ^ 48 → EntryFits (entry_after e clock seen)
unfolding entry_after first_clock
after_fits e clock seen fits small = (
  omega (arith, one_more_of e.times (omega (arith, fits.0))),
  cases (eqb e.times 0) (λ t. rw t small) (λ t. rw t fits.1),
  small,
)

-- a telegram leaves the table's length
hear_long : (table : List ℕ) (clock : ℕ) (t : Telegram) → Long table → Long (hear_of table clock t)
unfolding heard_from
hear_long table clock t long =
    rw (hear_is table clock t)
    (cases (ltb last_address (source_of t))
    (λ s. rw s long)
    (λ s.
    let at = entry_place (source_of t) in
    let room : at + entry_length ≤ length table = omega (arith, ltb-false last_address (source_of t) s, long) in
    rw (s, changed_long table at (entry_after (entry_in (source_of t) table) clock (type_in t)) room) long))

-- nor do telegrams
pub hear_all_long : (table : List ℕ) (hs : List Hearing) → Long table → Long (hear_all table hs)
unfolding hear_all
hear_all_long table [] long = long
hear_all_long table (h ∷ hs) long = hear_all_long (hear_of table h.clock h.telegram) hs (hear_long table h.clock h.telegram long)

-- A table of an entry for each address, and one of them.
module _ (a : ℕ) (known : a ≤ last_address) where
  -- what a telegram makes of its entry
  heard_entry :
      (table : List ℕ) (clock source : ℕ) (seen : LastType)
      → Long table
      → EntryFits (entry_in a table)
      → clock < 2 ^ 48
      → entry_in a (heard_from table clock source seen) ≡ cond (eqb source a) (entry_after (entry_in a table) clock seen) (entry_in a table)
  unfolding heard_from
  heard_entry table clock source seen long fits small =
      cases (ltb last_address source)
      (λ t. rw (t, ne_eqb source a (λ e. omega (arith, known, ltb-true last_address source t, e))))
      (λ t.
      let few = ltb-false last_address source t in
      let room : entry_place source + entry_length ≤ length table = omega (arith, few, long) in
      let new = entry_after (entry_in source table) clock seen in
      cases (eqb source a)
      (λ s.
      let e : a ≡ source = sym (eqb-true source a s) in
      rw (t, s, e) (written_there table (entry_place source) new room (after_fits (entry_in source table) clock seen (rw e at fits) small)))
      (λ s.
      let apart = eqb-false source a s in
      rw (t, s)
      (cases (ltb a source)
      (λ l. before_stays table (entry_place source) new room (entry_place a) (omega (arith, ltb-true a source l)))
      (λ l. behind_stays table (entry_place source) new room (entry_place a) (omega (arith, apart, ltb-false a source l))))))

  -- what telegrams make of it
  table_all :
      (hs : List Hearing) (table : List ℕ)
      → Long table
      → EntryFits (entry_in a table)
      → Clocked hs
      → entry_in a (hear_all table hs) ≡ entry_all (entry_in a table) (of_address a hs)
  unfolding hear_all of_address entry_all
  table_all [] table long fits clocked = refl
  table_all (h ∷ hs) table long fits clocked =
      let t = h.telegram in
      let next = hear_of table h.clock t in
      let after = entry_after (entry_in a table) h.clock (type_in t) in
      let here : entry_in a next ≡ cond (sent_by a t) after (entry_in a table) =
      ap (entry_in a) (hear_is table h.clock t)
      ∙ heard_entry table h.clock (source_of t) (type_in t) long fits clocked.0
      ∙ ap (λ (b : Bool). cond b after (entry_in a table)) (sym (sent_is a t known)) in
      let long' : Long next = hear_long table h.clock t long in
      cases (sent_by a t)
      (λ s.
      let e : entry_in a next ≡ after = rw s at here in
      rw s
      (table_all hs next long' (subst EntryFits (sym e) (after_fits (entry_in a table) h.clock (type_in t) fits clocked.0)) clocked.1
      ∙ ap (λ (x : AddressEntry). entry_all x (of_address a hs)) e))
      (λ s.
      let e : entry_in a next ≡ entry_in a table = rw s at here in
      rw s (table_all hs next long' (subst EntryFits (sym e) fits) clocked.1 ∙ ap (λ (x : AddressEntry). entry_all x (of_address a hs)) e))

-- nothing heard fits
none_fits : EntryFits no_entry
unfolding no_entry
none_fits = (lit< tt, lit< tt, lit< tt)

-- a table of zeros, for each of the 126 addresses, that was fed with telegrams says of every address what is worked out afresh
pub lookup_afresh : (hs : List Hearing) (address : ℕ) → Clocked hs → lookup_of (hear_all fresh_table hs) address ≡ afresh_of hs address
unfolding lookup_of afresh_of heard_refusal answered
lookup_afresh hs address clocked =
    cases (ltb last_address address)
    (λ t. rw t)
    (λ t.
    let none = zeros_unheard table_length (entry_place address) in
    let long : Long fresh_table = rw length-replicate (le_refl table_length) in
    let room : entry_place address + entry_length ≤ length (hear_all fresh_table hs) = omega (arith, ltb-false last_address address t, hear_all_long fresh_table hs long) in
    rw (t, le-ltb (length (hear_all fresh_table hs)) (entry_place address + entry_length) room)
    (ap (λ (x : AddressEntry). Ok (lookup_on x)) (table_all address (ltb-false last_address address t) hs fresh_table long (subst EntryFits (sym none) none_fits) clocked ∙ ap (λ (x : AddressEntry). entry_all x (of_address address hs)) none)
    ∙ ap (λ (x : Option AddressEntry). Ok x) (found_all (of_address address hs))))

-- What a record consumes has its clock, which is of 48 bits.

-- telegrams after telegrams
pub clocked_append : (hs more : List Hearing) → Clocked hs → Clocked more → Clocked (hs ++ more)
clocked_append [] more h m = m
clocked_append (x ∷ hs) more h m = (h.0, clocked_append hs more h.1 m)

pub consumed_clocked : (s : List ℕ) (n k : ℕ) → Clocked (consumed_in s n k)
unfolding consumed_in
consumed_clocked s n zero = tt
consumed_clocked s n (suc k) = clocked_append (consumed_in s n k) (record { clock = (head_of s).clock; telegram = telegram_at s n k } ∷ []) (consumed_clocked s n k) (clock_below s, tt)

-- without room nothing is shown
pub summary_no_room : (found : Found) (before : List ℕ) → length before < entry_length → summary_into found before ≡ before
unfolding summary_into summary_number
summary_no_room found before short =
    cases (eqb (lookup_number found) 0) (λ t. rw (t, lt-ltb (length before) entry_length short)) (λ t. rw (t, t))

-- nor of an address that is refused
pub summary_refused : (hs : List Hearing) (address : ℕ) (before : List ℕ) → (heard_refusal address ≡ 0 → ⊥) → summary_into (afresh_of hs address) before ≡ before
unfolding summary_into summary_number afresh_of lookup_number answered
summary_refused hs address before refused =
    let n = ne_eqb (heard_refusal address) 0 refused in
    let m = ne_eqb (number_of (named (heard_refusal address))) 0 (never_zero (named (heard_refusal address))) in
    rw (n, m, m)
