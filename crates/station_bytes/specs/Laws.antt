-- What the proofs use: words stored one after the other, the set behind them, the tables of a ring, and a station read with and
-- without them. Assumes nothing.
use Rattle.std.specs.Prelude.{ℕ, zero, suc, ◌+◌, ◌-◌, ◌*◌, ◌≤◌, ◌<◌, ◌^◌, ◌≡◌, refl, Bool, true, false, cond, List, [], ◌∷◌, ◌++◌, length, get_or, take, drop, replicate, eqb, ltb, Option, Some, None, Result, Ok, Err}
use Rattle.std.proofs.Common.{sym, ap, subst, ◌∙◌, append-nil, append_assoc, arith, add-zero, lt-ltb, le-ltb, ltb-true, length-append, length-drop, length-take, take_at, drop_at, drop-drop, length-take-le, lit≤}
use borrow.Table.Steps.{cases}
use borrow.Rule.Slice.PartMut.{put_mid}
use Rattle.codec_fields.specs.Fields.{be, be_from, bit_at, bytes_of, load_of, stored_of}
use Rattle.codec_fields.proofs.Laws.{low_length}
use Rattle.codec_fields.proofs.Stores.{load_room, store_next}
use Rattle.codec_fields.proofs.Widths.{be_suc}
use Rattle.ring_links.specs.Links.{listed}
use Rattle.ring_links.specs.Tables.{length_tab}
use Rattle.ring_addresses.specs.Set.{only}
use Rattle.ring_addresses.specs.SetLaws.{true≢false}
use Rattle.settings.specs.declared.parameters.Parameters.{Parameters}
use Rattle.refusals.specs.declared.refusal.Refusal.{Refusal}
use Rattle.ring.specs.Ring.{Ring, links_of, has, make, add_of}
use Rattle.ring_members.specs.Members.{byte_at, in_set, bit_added, bits_added, byte_added, set_added, set_written, set_over, set_bytes}
use Rattle.ring_members.proofs.Laws.{members_links}
use Rattle.ring_members.proofs.Back.{set_is}
use Rattle.station.specs.declared.station.Station.{Station}
use Rattle.station_words.specs.declared.Words.{Words}
use Rattle.station_words.specs.Words.{words_of, state_in, core_in, counts_in, laps_in, ready_in, header_in}
use Rattle.trace.specs.Trace.{settings_of}
use Rattle.station_bytes.specs.Bytes.{words_in, set_in, read_of, ring_in, station_from, words_fit, set_fits, checked_in, found_with, found_on, found_in, unlinked_ring, unlinked, unlinked_in, head_from, counts_of, stores_from, words_stored, word_list, all_bytes, station_bytes, station_into}

-- The words.

-- four bytes make a number
pub be_four :
    (s : List ℕ) (at : ℕ)
    → at + 4 ≤ length s
    → be (take 4 (drop at s)) ≡ get_or s at 0 * 16777216 + get_or s (at + 1) 0 * 65536 + get_or s (at + 2) 0 * 256 + get_or s (at + 3) 0
unfolding be_from
be_four s at h =
    let none : be (take 0 (drop at s)) ≡ 0 = refl in
    let here : get_or s (at + 0) 0 ≡ get_or s at 0 = ap (λ (n : ℕ). get_or s n 0) (add-zero at) in
    let one = be_suc s at 0 (omega (arith, h)) in
    let two = be_suc s at 1 (omega (arith, h)) in
    let three = be_suc s at 2 (omega (arith, h)) in
    let four = be_suc s at 3 (omega (arith, h)) in
    omega (arith, none, here, one, two, three, four)

-- bytes with their weights make it
pub four_is :
    (s : List ℕ) (at a b c d : ℕ)
    → at + 4 ≤ length s
    → (a ≡ get_or s at 0) × (a < 256)
    → (b ≡ get_or s (at + 1) 0) × (b < 256)
    → (c ≡ get_or s (at + 2) 0) × (c < 256)
    → (d ≡ get_or s (at + 3) 0) × (d < 256)
    → (a * 16777216 + b * 65536 + c * 256 + d ≡ be (take 4 (drop at s))) × (a * 16777216 + b * 65536 + c * 256 + d < 4294967296)
four_is s at a b c d h ea eb ec ed =
    let all = be_four s at h in
    (omega (arith, all, ea.0, eb.0, ec.0, ed.0), omega (arith, ea.1, eb.1, ec.1, ed.1))

-- eight do, in halves
pub be_eight : (s : List ℕ) (at : ℕ) → at + 8 ≤ length s → be (take 8 (drop at s)) ≡ be (take 4 (drop at s)) * 4294967296 + be (take 4 (drop (at + 4) s))
be_eight s at h =
    let half = be_four s (at + 4) (omega (arith, h)) in
    let e1 : get_or s (at + 4 + 1) 0 ≡ get_or s (at + 5) 0 = ap (λ (n : ℕ). get_or s n 0) (omega arith) in
    let e2 : get_or s (at + 4 + 2) 0 ≡ get_or s (at + 6) 0 = ap (λ (n : ℕ). get_or s n 0) (omega arith) in
    let e3 : get_or s (at + 4 + 3) 0 ≡ get_or s (at + 7) 0 = ap (λ (n : ℕ). get_or s n 0) (omega arith) in
    let five = be_suc s at 4 (omega (arith, h)) in
    let six = be_suc s at 5 (omega (arith, h)) in
    let seven = be_suc s at 6 (omega (arith, h)) in
    let eight = be_suc s at 7 (omega (arith, h)) in
    omega (arith, half, e1, e2, e3, five, six, seven, eight)

-- so a word is what its halves make
pub word_is : (s : List ℕ) (at high low : ℕ) → at + 8 ≤ length s → high ≡ be (take 4 (drop at s)) → low ≡ be (take 4 (drop (at + 4) s)) → high * 4294967296 + low ≡ load_of s at 8
word_is s at high low h eh el = rw (eh, el) (sym (load_room s at 8 (lit≤ tt) h ∙ be_eight s at h))

-- eight bytes a word
pub all_length : (ws : List ℕ) → length (all_bytes ws) ≡ 8 * length ws
all_length [] = refl
all_length (w ∷ ws) = length-append (bytes_of w) (all_bytes ws) ∙ rw (low_length 8 w, all_length ws) (omega arith)

-- words after words
all_append : (a b : List ℕ) → all_bytes (a ++ b) ≡ all_bytes a ++ all_bytes b
all_append [] b = refl
all_append (w ∷ a) b = ap (λ (l : List ℕ). bytes_of w ++ l) (all_append a b) ∙ sym (append_assoc (bytes_of w) (all_bytes a) (all_bytes b))

-- words stored where what is written so far ends, before what was there
stores_are : (p s : List ℕ) (at : ℕ) (ws : List ℕ) → length p ≡ at → at + 8 * length ws ≤ length s → stores_from at ws (p ++ drop at s) ≡ (p ++ all_bytes ws) ++ drop (at + 8 * length ws) s
stores_are p s at [] e h = ap (λ (l : List ℕ). l ++ drop at s) (sym (append-nil p)) ∙ ap (λ (n : ℕ). (p ++ []) ++ drop n s) (sym (add-zero at))
stores_are p s at (w ∷ ws) e h =
    let more : at + 8 + 8 * length ws ≡ at + 8 * suc (length ws) = omega arith in
    let long : length (p ++ bytes_of w) ≡ at + 8 = length-append p (bytes_of w) ∙ rw (low_length 8 w, e) refl in
    ap (stores_from (at + 8) ws) (store_next p s at 8 w e (lit≤ tt) (omega (arith, h)))
    ∙ stores_are (p ++ bytes_of w) s (at + 8) ws long (omega (arith, h))
    ∙ ap (λ (l : List ℕ). l ++ drop (at + 8 + 8 * length ws) s) (append_assoc p (bytes_of w) (all_bytes ws))
    ∙ ap (λ (n : ℕ). (p ++ (bytes_of w ++ all_bytes ws)) ++ drop n s) more

-- five stores, one after the other
pub five_stores :
    (a b c d e p q r s t : ℕ) (l0 l1 l2 l3 l4 l5 : List ℕ)
    → l1 ≡ stored_of l0 p 8 a
    → l2 ≡ stored_of l1 q 8 b
    → l3 ≡ stored_of l2 r 8 c
    → l4 ≡ stored_of l3 s 8 d
    → l5 ≡ stored_of l4 t 8 e
    → l5 ≡ stored_of (stored_of (stored_of (stored_of (stored_of l0 p 8 a) q 8 b) r 8 c) s 8 d) t 8 e
five_stores a b c d e p q r s t l0 l1 l2 l3 l4 l5 e1 e2 e3 e4 e5 =
    e5
    ∙ ap (λ (l : List ℕ). stored_of l t 8 e)
    (e4 ∙ ap (λ (l : List ℕ). stored_of l s 8 d) (e3 ∙ ap (λ (l : List ℕ). stored_of l r 8 c) (e2 ∙ ap (λ (l : List ℕ). stored_of l q 8 b) e1)))

-- the ten words, before what was there
pub words_stored_lem : (s : List ℕ) (w : Words) → 80 ≤ length s → words_stored s w ≡ all_bytes (word_list w) ++ drop 80 s
unfolding words_stored
words_stored_lem s w h =
    let first : List ℕ = w.first ∷ w.settings ∷ w.limits ∷ w.state ∷ w.token_time ∷ [] in
    let last : List ℕ = w.last_token_time ∷ w.end_token_hold_time ∷ w.last_bus_activity ∷ w.counts ∷ w.numbers ∷ [] in
    ap (stores_from 40 last) (stores_are [] s 0 first refl (omega (arith, h)))
    ∙ stores_are (all_bytes first) s 40 last (all_length first) (omega (arith, h))
    ∙ ap (λ (l : List ℕ). l ++ drop 80 s) (sym (all_append first last))

-- The set behind them.

-- the set has 16 bytes
pub set_length : (f : ℕ → Bool) → length (set_bytes f) ≡ 16
set_length f = length_tab _ 16 0

-- words and set written over the first 96 bytes
pub station_written :
    (out s z : List ℕ) (w : Words) (f : ℕ → Bool)
    → 96 ≤ length out
    → s ≡ words_stored out w
    → z ≡ set_over (take 16 (drop 80 s)) f
    → put_mid 80 16 s z ≡ (all_bytes (word_list w) ++ set_bytes f) ++ drop 96 out
unfolding set_over
station_written out s z w f h es ez =
    let ws = all_bytes (word_list w) in
    let is : s ≡ ws ++ drop 80 out = es ∙ words_stored_lem out w (omega (arith, h)) in
    let long : length ws ≡ 80 = all_length (word_list w) in
    let behind : drop 80 s ≡ drop 80 out = ap (drop 80) is ∙ drop_at ws (drop 80 out) 80 long in
    let part : length (take 16 (drop 80 s)) ≡ 16 = length-take-le 16 (drop 80 s) (rw (behind, length-drop) (omega (arith, h))) in
    let set_there : z ≡ set_bytes f = ez ∙ rw (le-ltb (length (take 16 (drop 80 s))) 16 (omega (arith, part))) (set_is (take 16 (drop 80 s)) f part) in
    let after : drop 16 (drop 80 s) ≡ drop 96 out = ap (drop 16) behind ∙ drop-drop 16 80 out in
    let before : take 80 s ≡ ws = ap (take 80) is ∙ take_at ws (drop 80 out) 80 long in
    ap (λ (l : List ℕ). l ++ (z ++ drop 16 (drop 80 s))) before
    ∙ ap (λ (l : List ℕ). ws ++ (l ++ drop 16 (drop 80 s))) set_there
    ∙ ap (λ (l : List ℕ). ws ++ (set_bytes f ++ l)) after
    ∙ sym (append_assoc ws (set_bytes f) (drop 96 out))

-- so a station is written; and where there are too few bytes nothing is
pub station_stands :
    (station : Station) (links out s z : List ℕ) (w : Words)
    → 96 ≤ length out
    → w ≡ words_of station.state station.core station.token_ring.laps station.token_ring.ready station.p station.applications station.counts
    → s ≡ words_stored out w
    → links ≡ station.token_ring.links
    → z ≡ set_over (take 16 (drop 80 s)) (listed links)
    → put_mid 80 16 s z ≡ station_into out station
unfolding station_into station_bytes has
station_stands station links out s z w h ew es el ez =
    rw (le-ltb (length out) 96 h)
    (station_written out s z w (listed station.token_ring.links) h es (rw (← el) ez) ∙ ap (λ (v : Words). (all_bytes (word_list v) ++ set_bytes (listed station.token_ring.links)) ++ drop 96 out) ew)

pub station_too_long : (s : Station) (out : List ℕ) → length out < 96 → out ≡ station_into out s
unfolding station_into
station_too_long s out h = rw (lt-ltb (length out) 96 h) refl

-- The ring.

-- the links of a set that own is in
pub ring_linked :
    (own laps : ℕ) (ready : Bool) (links set : List ℕ)
    → own < 126
    → in_set set own ≡ true
    → links ≡ links_of (in_set set)
    → record { links = links; own = own; laps = laps; ready = ready } ≡ ring_in own laps ready set
unfolding ring_in make
ring_linked own laps ready links set low mine is =
    ap (λ (l : List ℕ). record { links = l; own = own; laps = laps; ready = ready }) is
    ∙ sym (members_links own laps ready set low mine)

-- adding members changes the links alone
add_unlinked : (r : Ring) (a : ℕ) → unlinked_ring (add_of r a) ≡ unlinked_ring r
unfolding add_of
add_unlinked r a = cases (ltb a 126) (λ t. rw t refl) (λ f. rw f refl)

bit_unlinked : (r : Ring) (byte at a : ℕ) → unlinked_ring (bit_added r byte at a) ≡ unlinked_ring r
unfolding bit_added
bit_unlinked r byte at a = cases (bit_at byte at) (λ t. rw t (add_unlinked r a)) (λ f. rw f refl)

bits_unlinked : (r : Ring) (byte a k : ℕ) → unlinked_ring (bits_added r byte a k) ≡ unlinked_ring r
unfolding bits_added
bits_unlinked r byte a zero = refl
bits_unlinked r byte a (suc k) = bit_unlinked (bits_added r byte a k) byte (7 - k) (a + k) ∙ bits_unlinked r byte a k

byte_unlinked : (r : Ring) (byte a : ℕ) → unlinked_ring (byte_added r byte a) ≡ unlinked_ring r
unfolding byte_added
byte_unlinked r byte a = cases (eqb byte 0) (λ t. rw t refl) (λ f. rw f (bits_unlinked r byte a 8))

set_unlinked : (r : Ring) (s : List ℕ) (i : ℕ) → unlinked_ring (set_added r s i) ≡ unlinked_ring r
unfolding set_added
set_unlinked r s zero = refl
set_unlinked r s (suc i) = byte_unlinked (set_added r s i) (byte_at s i) (8 * i) ∙ set_unlinked r s i

ring_unlinked : (own laps : ℕ) (ready : Bool) (set : List ℕ) → unlinked_ring (ring_in own laps ready set) ≡ record { links = replicate 252 127; own = own; laps = laps; ready = ready }
unfolding ring_in make
ring_unlinked own laps ready set = set_unlinked (make own (only own) laps ready) set 16

-- Read.

-- the station that was found
abbrev found : Station → Option Station → Station
found s (Some t) = t
found s None = s

module _ (p : Parameters) (n : ℕ) (w : Words) (set : List ℕ) where
  -- but for its ring's links a station is what its words say
  head_is : unlinked (station_from p n w set) ≡ head_from p n w
  unfolding unlinked station_from head_from
  head_is =
      ap (λ (r : Ring). record { state = state_in w; core = core_in w; token_ring = r; p = p; counts = counts_in w; applications = n })
      (ring_unlinked p.address (laps_in w) (ready_in w) set)

  -- its links change nothing of what it writes
  head_fits : words_fit (station_from p n w set) w ≡ words_fit (head_from p n w) w
  unfolding words_fit unlinked
  head_fits = ap (λ (s : Station). words_fit s w) head_is

  -- another set is its members
  pub found_not : set_fits set p.address ≡ false → None ≡ unlinked_in (found_with p n w set)
  unfolding found_with
  found_not f = rw f refl

  -- it writes other words
  pub found_other : (h : Station) → set_fits set p.address ≡ true → h ≡ head_from p n w → words_fit h w ≡ false → None ≡ unlinked_in (found_with p n w set)
  unfolding found_with checked_in
  found_other h t e f =
      let fits : words_fit (station_from p n w set) w ≡ false = head_fits ∙ ap (λ (s : Station). words_fit s w) (sym e) ∙ f in
      rw (t, fits) refl

  -- it is found
  pub found_head : (h : Station) → set_fits set p.address ≡ true → h ≡ head_from p n w → words_fit h w ≡ true → Some h ≡ unlinked_in (found_with p n w set)
  unfolding found_with checked_in
  found_head h t e f =
      let fits : words_fit (station_from p n w set) w ≡ true = head_fits ∙ ap (λ (s : Station). words_fit s w) (sym e) ∙ f in
      rw (t, fits) (ap (λ (s : Station). Some s) (e ∙ sym head_is))

-- a station whose ring is that of own and a set
abbrev Linked : List ℕ → Station → Type 0
Linked set s = s.token_ring ≡ ring_in s.token_ring.own s.token_ring.laps s.token_ring.ready set

from_linked : (p : Parameters) (n : ℕ) (w : Words) (set : List ℕ) → Linked set (station_from p n w set)
unfolding station_from
from_linked p n w set =
    let is = ring_unlinked p.address (laps_in w) (ready_in w) set in
    sym
    (ap (λ (r : Ring). ring_in r.own r.laps r.ready set) is)

with_linked : (p : Parameters) (n : ℕ) (w : Words) (set : List ℕ) (s : Station) → found_with p n w set ≡ Some s → Linked set s
unfolding found_with checked_in
with_linked p n w set s e = go (set_fits set p.address) (words_fit (station_from p n w set) w) e
  where
    go : (b c : Bool) → cond b (cond c (Some (station_from p n w set)) None) None ≡ Some s → Linked set s
    go true true q = subst (Linked set) (ap (found s) q) (from_linked p n w set)
    go true false q = absurd (cc q)
    go false c q = absurd (cc q)

in_linked : (w : Words) (set : List ℕ) (s : Station) → found_in w set ≡ Some s → Linked set s
unfolding found_in found_on
in_linked w set s e = go (settings_of (header_in w)) e
  where
    go : (x : Result Parameters Refusal) → found_on x (header_in w).applications w set ≡ Some s → Linked set s
    go (Ok p) q = with_linked p (header_in w).applications w set s q
    go (Err refusal) q = absurd (cc q)

-- with its members it is the station that was found
pub found_whole :
    (w : Words) (set : List ℕ) (h : Station) (r : Ring)
    → Some h ≡ unlinked_in (found_in w set)
    → r ≡ ring_in h.token_ring.own h.token_ring.laps h.token_ring.ready set
    → Some (record { state = h.state; core = h.core; token_ring = r; p = h.p; counts = h.counts; applications = h.applications }) ≡ found_in w set
unfolding unlinked
found_whole w set h r e is = go (found_in w set) (in_linked w set) e
  where
    go :
        (x : Option Station)
        → ((s : Station) → x ≡ Some s → Linked set s)
        → Some h ≡ unlinked_in x
        → Some (record { state = h.state; core = h.core; token_ring = r; p = h.p; counts = h.counts; applications = h.applications }) ≡ x
    go None l q = absurd (cc q)
    go (Some s) l q =
        let same : h ≡ unlinked s = ap (found h) q in
        let ring : r ≡ s.token_ring = is ∙ ap (λ (t : Station). ring_in t.token_ring.own t.token_ring.laps t.token_ring.ready set) same ∙ sym (l s refl) in
        ap (λ (t : Ring). Some (record { state = h.state; core = h.core; token_ring = t; p = h.p; counts = h.counts; applications = h.applications })) ring
        ∙ ap (λ (t : Station). Some (record { state = t.state; core = t.core; token_ring = s.token_ring; p = t.p; counts = t.counts; applications = t.applications })) same

-- what it has counted is what the station that was found has
pub found_counts : (w : Words) (set : List ℕ) (h : Station) → Some h ≡ unlinked_in (found_in w set) → Some h.counts ≡ counts_of (found_in w set)
unfolding unlinked
found_counts w set h e = go (found_in w set) e
  where
    go : (x : Option Station) → Some h ≡ unlinked_in x → Some h.counts ≡ counts_of x
    go None q = absurd (cc q)
    go (Some s) q = ap (λ (t : Station). Some t.counts) (ap (found h) q)

-- so it is of the bytes that the words are read from, where a station has room in them
pub counts_read :
    (bytes : List ℕ) (w : Words) (h : Station)
    → 96 ≤ length bytes
    → w ≡ words_in bytes
    → Some h ≡ unlinked_in (found_in w (set_in bytes))
    → Some h.counts ≡ counts_of (read_of bytes)
unfolding read_of
counts_read bytes w h room read e =
    rw (le-ltb (length bytes) 96 room) (found_counts w (set_in bytes) h e ∙ ap (λ (v : Words). counts_of (found_in v (set_in bytes))) read)
