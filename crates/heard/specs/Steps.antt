-- What the functions' proofs lean on: an entry's numbers fit, its four stores are its bytes, a tail of the table is back in its place,
-- and telegrams are heard after telegrams. Assumes nothing.
use Rattle.std.specs.Prelude.{ℕ, ◌+◌, ◌-◌, ◌*◌, ◌^◌, ◌<◌, ◌≤◌, ◌≡◌, refl, List, [], ◌∷◌, ◌++◌, None, Some, Ok, length, take, drop}
use Rattle.std.proofs.Common.{sym, ap, ◌∙◌, append-nil, arith, le_refl, lt-ltb, le-ltb, length-drop, drop_of_length-le, take_all, pow_pos, lit≤}
use borrow.Table.Steps.{cases}
use borrow.Rule.Slice.PartMut.{put_mid}
use Rattle.codec_telegrams.specs.declared.ResponseState.{ResponseState}
use Rattle.codec_telegrams.specs.Words.{response_number}
use Rattle.codec_telegrams.specs.Laws.{state_below}
use Rattle.codec_fields.specs.Fields.{has_room, load_of, low_bytes, stored_of, Bytes}
use Rattle.codec_fields.proofs.Stores.{room_of_lem, load_below, stored_room, store_next}
use Rattle.heard.specs.declared.AddressEntry.{AddressEntry}
use Rattle.refusals.specs.Refusals.{answered}
use Rattle.heard.specs.Heard.{LastType, last_address, entry_length, heard_refusal, entry_of, entry_into, entry_after, entry_place, heard_from, hear_of, Hearing, hear_all, lookup_on, lookup_of}

-- what is loaded is below 2 to its bits, also where nothing is there to load
pub load_small : (s : List ℕ) (at count : ℕ) → Bytes s → load_of s at count < 2 ^ (8 * count)
unfolding load_of
load_small s at count bytes =
    cases (has_room (length s) at count)
    (λ t. let h = room_of_lem (length s) at count t in load_below s at count bytes h.0 h.1)
    (λ t. rw t (pow_pos (8 * count)))

-- the four stores of an entry, where it has room
pub entry_stored :
    (s : List ℕ) (times first last type : ℕ)
    → 17 ≤ length s
    → stored_of (stored_of (stored_of (stored_of s 0 4 times) 4 6 first) 10 6 last) 16 1 type
    ≡ (low_bytes 4 times ++ (low_bytes 6 first ++ (low_bytes 6 last ++ low_bytes 1 type))) ++ drop 17 s
entry_stored s times first last type h =
    let a : List ℕ = low_bytes 4 times in
    let b : List ℕ = a ++ low_bytes 6 first in
    let c : List ℕ = b ++ low_bytes 6 last in
    ap (λ (x : List ℕ). stored_of (stored_of (stored_of x 4 6 first) 10 6 last) 16 1 type) (stored_room s 0 4 times (lit≤ tt) (omega arith))
    ∙ ap (λ (x : List ℕ). stored_of (stored_of x 10 6 last) 16 1 type) (store_next a s 4 6 first refl (lit≤ tt) (omega arith))
    ∙ ap (λ (x : List ℕ). stored_of x 16 1 type) (store_next b s 10 6 last refl (lit≤ tt) (omega arith))
    ∙ store_next c s 16 1 type refl (lit≤ tt) (omega arith)

-- a tail that was lent, changed, and is back in its place
pub tail_changed : (at : ℕ) (s : List ℕ) (f : List ℕ → List ℕ) → put_mid at (length s - at) s (f (take (length s - at) (drop at s))) ≡ take at s ++ f (drop at s)
tail_changed at s f =
    let m : length (drop at s) ≤ length s - at = rw length-drop (le_refl (length s - at)) in
    let a : take (length s - at) (drop at s) ≡ drop at s = take_all (length s - at) (drop at s) m in
    let b : drop (length s - at) (drop at s) ≡ [] = drop_of_length-le (drop at s) m in
    rw (a, b, append-nil)

-- the byte of a station type is a byte
pub type_small : (last : LastType) (state : ResponseState) (n : ℕ) → last ≡ Some state → n ≡ response_number state → 1 + n < 2 ^ 8
type_small last state n told e = omega (arith, state_below state)

-- where the table ends before an entry, nothing is kept of it
pub heard_past :
    (table : List ℕ) (clock source : ℕ) (seen : LastType)
    → source ≤ 125
    → length table < entry_place source
    → table ≡ heard_from table clock source seen
unfolding heard_from entry_into
heard_past table clock source seen few past =
    let a : take (entry_place source) table ≡ table = take_all (entry_place source) table (omega arith) in
    let b : drop (entry_place source) table ≡ [] = drop_of_length-le table {i = entry_place source} (omega arith) in
    rw (le-ltb last_address source few, a, b) (sym (append-nil table))

-- else the tail from its place on begins with it
pub heard_there :
    (table : List ℕ) (clock source : ℕ) (seen : LastType) (was is : AddressEntry) (z : List ℕ)
    → source ≤ 125
    → was ≡ entry_of (take (length table - entry_place source) (drop (entry_place source) table))
    → is ≡ entry_after was clock seen
    → z ≡ entry_into (take (length table - entry_place source) (drop (entry_place source) table)) is
    → put_mid (entry_place source) (length table - entry_place source) table z ≡ heard_from table clock source seen
unfolding heard_from
heard_there table clock source seen was is z few e f g =
    rw (le-ltb last_address source few, g, f, e)
    (tail_changed (entry_place source) table (λ s. entry_into s (entry_after (entry_of s) clock seen)))

-- and where it ends inside it, too, it was never heard
pub lookup_past : (table : List ℕ) (address : ℕ) → heard_refusal address ≡ 0 → length table < entry_place address + entry_length → Ok None ≡ lookup_of table address
unfolding lookup_of answered
lookup_past table address few past = rw (few, lt-ltb (length table) (entry_place address + entry_length) past)

-- what the tail from its place on says
pub lookup_there :
    (table : List ℕ) (address : ℕ) (was : AddressEntry)
    → heard_refusal address ≡ 0
    → entry_place address + entry_length ≤ length table
    → was ≡ entry_of (take (length table - entry_place address) (drop (entry_place address) table))
    → lookup_of table address ≡ Ok (lookup_on was)
unfolding lookup_of answered
lookup_there table address was few room e =
    rw (few, le-ltb (length table) (entry_place address + entry_length) room, e, take_all (length table - entry_place address) (drop (entry_place address) table) (rw length-drop (le_refl (length table - entry_place address))))

-- a table fed with telegrams after telegrams
pub hear_append : (table : List ℕ) (hs more : List Hearing) → hear_all table (hs ++ more) ≡ hear_all (hear_all table hs) more
unfolding hear_all
hear_append table [] more = refl
hear_append table (h ∷ hs) more = hear_append (hear_of table h.clock h.telegram) hs more

-- one telegram more
pub hear_more : (table : List ℕ) (hs : List Hearing) (h : Hearing) → hear_all table (hs ++ (h ∷ [])) ≡ hear_of (hear_all table hs) h.clock h.telegram
unfolding hear_all
hear_more table hs h = hear_append table hs (h ∷ [])
