-- A set that is written is read back: a sound ring comes back from the set of its members. And a set whose two bits for no address
-- are zero comes back from the ring that it makes.
use Prim.Native.Nat.{ℕ, zero, suc, ◌+◌, ◌-◌, ◌*◌, ◌/◌, ◌%◌, ◌^◌, ◌<◌, ◌≤◌}
use Rattle.std.specs.Prelude.{◌≡◌, Bool, false, List, [], ◌∷◌, get_or, drop, eqb, ltb}
use Rattle.std.proofs.Math.Path.{refl, ap}
use Rattle.std.proofs.Common.{sym, subst, ◌∙◌, div-one, get_or-set_same, lit<, shr-shr}
use Rattle.std.proofs.Math.Nat.{div-eq_of_lt}
use native.Mathlib.Omega.{arith}
use borrow.Author.Tests.{lt-ltb, eqb-true, eqb-false, ltb-true, ltb-false}
use borrow.Table.Steps.{cases}
use Rattle.std.proofs.Math.ListN.{length, length-set}
use Rattle.std.proofs.Math.Seq.{get_or-set_other, drop-set-lt}
use Rattle.std.proofs.Math.Pow.{split, high, low}
use Rattle.codec_fields.specs.Fields.{field_of, bit_at, bit_number, Bytes}
use Rattle.codec_fields.proofs.Laws.{bit_below, bit_read, bit_written}
use Rattle.ring_addresses.specs.Set.{only}
use Rattle.ring_links.specs.Tables.{tab_is}
use Rattle.ring_links.specs.Sets.{links_same}
use Rattle.ring.specs.Ring.{Ring, has, make}
use Rattle.ring.specs.Laws.{SoundRing}
use Rattle.ring.proofs.Laws.{has_out, has_make}
use Rattle.ring_members.specs.Members.{byte_at, in_set, set_added, bits_of, set_written, set_bytes}
use Rattle.ring_members.proofs.Laws.{members_make}

-- The bits of a byte.

-- the first k of j + k bits
bits_first : (f : ℕ → Bool) (a k j : ℕ) → bits_of f a (j + k) / 2 ^ j ≡ bits_of f a k
unfolding bits_of
bits_first f a k zero = let e : 0 + k ≡ k = omega arith in ap (λ (n : ℕ). bits_of f a n / 1) e ∙ div-one (bits_of f a k)
bits_first f a k (suc j) =
    let e : suc j + k ≡ suc (j + k) = omega arith in
    let one : 1 + j ≡ suc j = omega arith in
    let n = bits_of f a (j + k) * 2 + bit_number (f (a + (j + k))) in
    ap (λ (m : ℕ). bits_of f a m / 2 ^ suc j) e
    ∙ ap (λ (m : ℕ). n / 2 ^ m) (sym one)
    ∙ sym (shr-shr n 1 j)
    ∙ ap (λ (m : ℕ). m / 2 ^ j) (high (bits_of f a (j + k)) 1 (bit_below (f (a + (j + k)))))
    ∙ bits_first f a k j

-- each of n bits
bit_in : (f : ℕ → Bool) (a n k : ℕ) → k < n → bit_at (bits_of f a n) (n - suc k) ≡ f (a + k)
unfolding field_of bits_of
bit_in f a n k l =
    let e : n ≡ n - suc k + suc k = omega (arith, l) in
    let is : bits_of f a n / 2 ^ (n - suc k) % 2 ^ 1 ≡ bit_number (f (a + k)) =
    ap (λ (m : ℕ). bits_of f a m / 2 ^ (n - suc k) % 2 ^ 1) e
    ∙ ap (λ (m : ℕ). m % 2 ^ 1) (bits_first f a (suc k) (n - suc k))
    ∙ low (bits_of f a k) 1 (bit_below (f (a + k))) in
    ap (λ (m : ℕ). eqb m 1) is ∙ bit_read (f (a + k))

-- The bytes of a set.

module _ (out : List ℕ) (f : ℕ → Bool) where
  pub written_length : (i : ℕ) → length (set_written out f i) ≡ length out
  unfolding set_written
  written_length zero = refl
  written_length (suc i) = length-set (set_written out f i) i (bits_of f (8 * i) 8) ∙ written_length i

  written_at : (i j : ℕ) → j < i → i ≤ length out → get_or (set_written out f i) j 0 ≡ bits_of f (8 * j) 8
  unfolding set_written
  written_at (suc i) j l room =
      cases (eqb j i)
      (λ t.
      let e = eqb-true j i t in
      let there : i < length (set_written out f i) = rw (written_length i) (omega (arith, room)) in
      rw e (get_or-set_same (set_written out f i) i (bits_of f (8 * i) 8) 0 there))
      (λ n.
      get_or-set_other (set_written out f i) i j (bits_of f (8 * i) 8) 0 (eqb-false j i n)
      ∙ written_at i j (omega (arith, l, eqb-false j i n)) (omega (arith, room)))
  written_at zero j l room = elim l [ ]

  -- the bytes behind stay
  pub written_behind : (n i : ℕ) → i ≤ n → drop n (set_written out f i) ≡ drop n out
  unfolding set_written
  written_behind n zero l = refl
  written_behind n (suc i) l = drop-set-lt n (set_written out f i) i (bits_of f (8 * i) 8) (omega (arith, l)) ∙ written_behind n i (omega (arith, l))

  -- an address is in the set that is written exactly if it is in f
  pub in_bytes : (n x : ℕ) → n ≡ 8 * 16 → x < n → 16 ≤ length out → in_set (set_written out f 16) x ≡ f x
  unfolding in_set byte_at
  in_bytes n x is l room =
      let place : x / 8 < 16 = omega (arith, l, is) in
      let there : x / 8 < length (set_written out f 16) = rw (written_length 16) (omega (arith, place, room)) in
      let bit_place : 7 - x % 8 ≡ 8 - suc (x % 8) = omega arith in
      let back : 8 * (x / 8) + x % 8 ≡ x = omega arith in
      rw (lt-ltb (x / 8) (length (set_written out f 16)) there, written_at 16 (x / 8) place room, bit_place)
      (bit_in f (8 * (x / 8)) 8 (x % 8) (omega arith) ∙ ap f back)

  pub in_written : (x : ℕ) → x < 126 → 16 ≤ length out → in_set (set_written out f 16) x ≡ f x
  in_written x l room = in_bytes 128 x refl (omega (arith, l)) room

-- written over 16 bytes, the set's bytes are all that is there
pub set_is : (out : List ℕ) (f : ℕ → Bool) → length out ≡ 16 → set_written out f 16 ≡ set_bytes f
set_is out f e =
    tab_is 0 (λ (i : ℕ). bits_of f (8 * i) 8) 16 (set_written out f 16) (written_length out f 16 ∙ e) (λ x l. written_at out f 16 x l (omega (arith, e)))

-- The theorem: a sound ring, made of own alone and the set of its members in bytes, is the ring again.
pub members_back : (r : Ring) (out : List ℕ) → SoundRing r → 16 ≤ length out → set_added (make r.own (only r.own) r.laps r.ready) (set_written out (has r) 16) 16 ≡ r
unfolding make
members_back r out s room =
    let set_of = set_written out (has r) 16 in
    members_make r.own r.laps r.ready set_of s.own_low s.laps_two (in_written out (has r) r.own s.own_low room ∙ s.own_in)
    ∙ ap (λ (l : List ℕ). record { links = l; own = r.own; laps = r.laps; ready = r.ready })
    (links_same (in_set set_of) (has r) (λ x l. in_written out (has r) x l room) ∙ sym s.linked)

-- The other way.

-- a byte is made again from its bits, the first k of them
byte_again : (f : ℕ → Bool) (a byte k : ℕ) → byte < 2 ^ 8 → ((i : ℕ) → i < 8 → f (a + i) ≡ bit_at byte (7 - i)) → k ≤ 8 → bits_of f a k ≡ byte / 2 ^ (8 - k)
unfolding bits_of field_of
byte_again f a byte zero small bits l = sym (div-eq_of_lt small)
byte_again f a byte (suc k) small bits l =
    let n = byte / 2 ^ (7 - k) in
    let longer : 7 - k + 1 ≡ 8 - k = omega (arith, l) in
    let shorter : 7 - k ≡ 8 - suc k = omega arith in
    let before : bits_of f a k ≡ n / 2 ^ 1 =
    byte_again f a byte k small bits (omega (arith, l)) ∙ ap (λ (m : ℕ). byte / 2 ^ m) (sym longer) ∙ sym (shr-shr byte (7 - k) 1) in
    let bit_is : bit_number (f (a + k)) ≡ n % 2 ^ 1 = ap bit_number (bits k (omega (arith, l))) ∙ bit_written byte (7 - k) in
    ap (λ (m : ℕ). m * 2 + bit_number (f (a + k))) before
    ∙ ap (λ (m : ℕ). n / 2 ^ 1 * 2 + m) bit_is
    ∙ split n 1
    ∙ ap (λ (m : ℕ). byte / 2 ^ m) shorter

-- each byte of a set is made again from the addresses in it
set_again : (s out : List ℕ) (f : ℕ → Bool) (j : ℕ) → byte_at s j < 2 ^ 8 → ((x : ℕ) → x < 128 → f x ≡ in_set s x) → j < 16 → 16 ≤ length out → get_or (set_written out f 16) j 0 ≡ byte_at s j
unfolding in_set
set_again s out f j small same l room =
    written_at out f 16 j l room
    ∙ byte_again f (8 * j) (byte_at s j) 8 small
    (λ i m.
    let place : (8 * j + i) / 8 ≡ j = omega (arith, m) in
    let bit_place : (8 * j + i) % 8 ≡ i = omega (arith, m) in
    same (8 * j + i) (omega (arith, m, l)) ∙ ap (λ (n : ℕ). bit_at (byte_at s n) (7 - (8 * j + i) % 8)) place ∙ ap (λ (n : ℕ). bit_at (byte_at s j) (7 - n)) bit_place)
    (omega arith)
    ∙ div-one (byte_at s j)

-- a set without the two that are no addresses comes back from the ring that it makes, byte by byte
pub set_back :
    (own laps : ℕ) (ready : Bool) (s out : List ℕ) (j : ℕ)
    → in_set s 126 ≡ false
    → in_set s 127 ≡ false
    → byte_at s j < 2 ^ 8
    → j < 16
    → 16 ≤ length out
    → get_or (set_written out (has (make own (in_set s) laps ready)) 16) j 0 ≡ byte_at s j
set_back own laps ready s out j a b small l room = set_again s out (has (make own (in_set s) laps ready)) j small same l room
  where
    r : Ring
    r = make own (in_set s) laps ready

    last : (x : ℕ) → 126 ≤ x → x < 128 → in_set s x ≡ false
    last x far low =
        cases (eqb x 126) (λ t. ap (in_set s) (eqb-true x 126 t) ∙ a)
        (λ f. let e : x ≡ 127 = omega (arith, far, low, eqb-false x 126 f) in ap (in_set s) e ∙ b)

    same : (x : ℕ) → x < 128 → has r x ≡ in_set s x
    same x low =
        cases (ltb x 126) (λ t. has_make own (in_set s) laps ready x (ltb-true x 126 t))
        (λ f. has_out r x (ltb-false x 126 f) ∙ sym (last x (ltb-false x 126 f) low))

-- a byte of bytes
byte_below : (s : List ℕ) (x : ℕ) → Bytes s → get_or s x 0 < 2 ^ 8
byte_below [] x h = lit< tt
byte_below (b ∷ s) zero h = h.0
byte_below (b ∷ s) (suc x) h = byte_below s x h.1

byte_there : (s : List ℕ) (x : ℕ) → x < length s → byte_at s x ≡ get_or s x 0
unfolding byte_at
byte_there s x l = rw (lt-ltb x (length s) l)

-- so its 16 bytes are those of that ring's members
pub set_bytes_back : (own laps : ℕ) (ready : Bool) (s : List ℕ) → length s ≡ 16 → Bytes s → in_set s 126 ≡ false → in_set s 127 ≡ false → set_bytes (has (make own (in_set s) laps ready)) ≡ s
set_bytes_back own laps ready s e bytes a b =
    sym (tab_is 0 (λ (i : ℕ). bits_of f (8 * i) 8) 16 s e (λ x l. sym (at x l)))
  where
    f : ℕ → Bool
    f = has (make own (in_set s) laps ready)

    at : (x : ℕ) → x < 16 → bits_of f (8 * x) 8 ≡ get_or s x 0
    at x l =
        let room : 16 ≤ length s = omega (arith, e) in
        let here : byte_at s x ≡ get_or s x 0 = byte_there s x (omega (arith, l, e)) in
        sym (written_at s f 16 x l room)
        ∙ set_back own laps ready s s x a b (subst (λ (n : ℕ). n < 2 ^ 8) (sym here) (byte_below s x bytes)) l room
        ∙ here
