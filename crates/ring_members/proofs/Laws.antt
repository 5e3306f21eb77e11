-- A sound ring to which the addresses of a set are added is sound, and has them (`Grown`): nothing is asked of the bytes.
use Rattle.std.specs.Prelude.{ℕ, zero, suc, ◌+◌, ◌-◌, ◌*◌, ◌/◌, ◌%◌, ◌^◌, ◌<◌, ◌≤◌, ◌≡◌, refl, Bool, true, false, cond, ◌&&◌, ◌||◌, List, eqb, ltb, leb}
use Rattle.std.proofs.Math.Nat.{div-eq_of_lt}
use Rattle.std.proofs.Common.{pow_pos, sym, ap, ◌∙◌, arith, eq-eqb, ne_eqb, lt-ltb, le-ltb, le-leb, eqb-true, ltb-true, ltb-false, leb-true}
use Rattle.std.proofs.lemmas.Bool.{lt-leb, eqb-false}
use borrow.Table.Steps.{cases}
use Rattle.codec_fields.specs.Fields.{field_of, bit_at}
use Rattle.ring_addresses.specs.Set.{only, add_to}
use Rattle.ring_links.specs.Sets.{links_same}
use Rattle.ring.specs.Ring.{Ring, links_of, has, make, add_of}
use Rattle.ring.specs.Laws.{MadeWith, SoundRing}
use Rattle.ring.proofs.Laws.{has_make, make_sound, add_made, add_is}
use Rattle.ring_members.specs.Members.{byte_at, in_set, bit_added, bits_added, byte_added, set_added}
use Rattle.ring_members.specs.Laws.{Grown}

or_assoc : (a b c : Bool) → (a || (b || c)) ≡ ((a || b) || c)
or_assoc true b c = refl
or_assoc false b c = refl

or_false : (a : Bool) → (a || false) ≡ a
or_false true = refl
or_false false = refl

or-true : (a : Bool) → (a || true) ≡ true
or-true true = refl
or-true false = refl

-- nothing added
none : (r : Ring) → SoundRing r → Grown r r (λ x. false)
none r s = record { sound = s; own_is = refl; laps_is = refl; ready_is = refl; has_is = λ x l. refl }

-- the same addresses, said otherwise
alike : {r grown : Ring} {g h : ℕ → Bool} → Grown r grown g → ((x : ℕ) → x < 126 → g x ≡ h x) → Grown r grown h
alike {r} k e =
    record { sound = k.sound; own_is = k.own_is; laps_is = k.laps_is; ready_is = k.ready_is; has_is = λ x l. k.has_is x l ∙ ap (λ (b : Bool). b || has r x) (e x l) }

-- one after the other
then : {r middle grown : Ring} {g h : ℕ → Bool} → Grown r middle g → Grown middle grown h → Grown r grown (λ x. h x || g x)
then {r} {g = g} {h} j k =
    record {
      sound = k.sound;
      own_is = k.own_is ∙ j.own_is;
      laps_is = k.laps_is ∙ j.laps_is;
      ready_is = k.ready_is ∙ j.ready_is;
      has_is = λ x l. k.has_is x l ∙ ap (λ (b : Bool). h x || b) (j.has_is x l) ∙ or_assoc (h x) (g x) (has r x);
    }

-- an address above 125 is not added
not_added : (r : Ring) (a : ℕ) → SoundRing r → 126 ≤ a → Grown r (add_of r a) (λ x. false)
unfolding add_of
not_added r a s far = rw (le-ltb a 126 far) (none r s)

-- one address
added : (r : Ring) (a : ℕ) → SoundRing r → Grown r (add_of r a) (λ x. eqb x a)
unfolding add_to
added r a s = cases (ltb a 126) (λ t. inside (ltb-true a 126 t)) (λ f. outside (ltb-false a 126 f))
  where
    m : MadeWith (add_of r a) r.own r.laps r.ready
    m = add_made r a

    inside : a < 126 → Grown r (add_of r a) (λ x. eqb x a)
    inside l =
        let is = add_is r a s l in
        let good = make_sound r.own (add_to a (has r)) r.laps r.ready s.own_low (ap (λ (b : Bool). eqb r.own a || b) s.own_in ∙ or-true (eqb r.own a)) s.laps_two in
        record {
          sound = rw is good;
          own_is = m.own_is;
          laps_is = m.laps_is;
          ready_is = m.ready_is;
          has_is = λ x low. ap (λ (t : Ring). has t x) is ∙ has_make r.own (add_to a (has r)) r.laps r.ready x low;
        }

    outside : 126 ≤ a → Grown r (add_of r a) (λ x. eqb x a)
    outside far = alike (not_added r a s far) (λ x low. sym (ne_eqb x a (λ e. omega (arith, e, low, far))))

-- one bit
bit_added_lem : (r : Ring) (byte at a : ℕ) → SoundRing r → Grown r (bit_added r byte at a) (λ x. eqb x a && bit_at byte at)
unfolding bit_added
bit_added_lem r byte at a s =
    cases (bit_at byte at) (λ t. rw t (alike (added r a s) (λ x low. sym (and_true (eqb x a)))))
    (λ f. rw f (alike (none r s) (λ x low. sym (and-false (eqb x a)))))
  where
    and_true : (b : Bool) → (b && true) ≡ b
    and_true true = refl
    and_true false = refl

    and-false : (b : Bool) → (b && false) ≡ false
    and-false true = refl
    and-false false = refl

-- the addresses of the first k bits of a byte
abbrev in_byte : ℕ → ℕ → ℕ → ℕ → Bool
in_byte byte a k x = cond (leb a x) (cond (ltb x (a + k)) (bit_at byte (7 - (x - a))) false) false

in_byte_more : (byte a k x : ℕ) → ((eqb x (a + k) && bit_at byte (7 - k)) || in_byte byte a k x) ≡ in_byte byte a (suc k) x
in_byte_more byte a k x = cases (eqb x (a + k)) (λ t. here (eqb-true x (a + k) t)) (λ f. rw f (elsewhere (eqb-false x (a + k) f)))
  where
    here : x ≡ a + k → ((eqb x (a + k) && bit_at byte (7 - k)) || in_byte byte a k x) ≡ in_byte byte a (suc k) x
    here e =
        let far : x - a ≡ k = omega (arith, e) in
        rw (eq-eqb x (a + k) e, le-leb a x (omega (arith, e)), le-ltb x (a + k) (omega (arith, e)), lt-ltb x (a + suc k) (omega (arith, e)), far) (or_false (bit_at byte (7 - k)))

    elsewhere : (x ≡ a + k → ⊥) → in_byte byte a k x ≡ in_byte byte a (suc k) x
    elsewhere n =
        cases (ltb x (a + k)) (λ t. rw (t, lt-ltb x (a + suc k) (omega (arith, ltb-true x (a + k) t))) refl)
        (λ f. rw (f, le-ltb x (a + suc k) (omega (arith, n, ltb-false x (a + k) f))) refl)

bits_added_lem : (r : Ring) (byte a k : ℕ) → SoundRing r → Grown r (bits_added r byte a k) (in_byte byte a k)
unfolding bits_added
bits_added_lem r byte a zero s = alike (none r s) (λ x low. sym (nobody x))
  where
    nobody : (x : ℕ) → in_byte byte a 0 x ≡ false
    nobody x = cases (leb a x) (λ t. rw (t, le-ltb x (a + 0) (omega (arith, leb-true a x t))) refl) (λ f. rw f refl)
bits_added_lem r byte a (suc k) s =
    let before = bits_added_lem r byte a k s in
    alike (then before (bit_added_lem (bits_added r byte a k) byte (7 - k) (a + k) before.sound)) (λ x low. in_byte_more byte a k x)

-- a byte that is 0 has no bit
pub no_bit : (at : ℕ) → bit_at 0 at ≡ false
unfolding field_of
no_bit at = let z : 0 / 2 ^ at ≡ 0 = div-eq_of_lt (pow_pos at) in rw z refl

byte_added_lem : (r : Ring) (byte a : ℕ) → SoundRing r → Grown r (byte_added r byte a) (in_byte byte a 8)
unfolding byte_added
byte_added_lem r byte a s =
    cases (eqb byte 0) (λ t. rw t (alike (none r s) (λ x low. sym (empty (eqb-true byte 0 t) x)))) (λ f. rw f (bits_added_lem r byte a 8 s))
  where
    empty : byte ≡ 0 → (x : ℕ) → in_byte byte a 8 x ≡ false
    empty e x =
        cases (leb a x) (λ t. cases (ltb x (a + 8)) (λ u. rw (t, u, e) (no_bit (7 - (x - a)))) (λ u. rw (t, u) refl)) (λ f. rw f refl)

-- the addresses of the first i bytes of a set
abbrev in_first : List ℕ → ℕ → ℕ → Bool
in_first s i x = cond (ltb x (8 * i)) (in_set s x) false

in_first_more : (s : List ℕ) (i x : ℕ) → (in_byte (byte_at s i) (8 * i) 8 x || in_first s i x) ≡ in_first s (suc i) x
unfolding in_set
in_first_more s i x =
    cases (ltb x (8 * i)) (λ t. before (ltb-true x (8 * i) t)) (λ f. after (ltb-false x (8 * i) f))
  where
    before : x < 8 * i → (in_byte (byte_at s i) (8 * i) 8 x || in_first s i x) ≡ in_first s (suc i) x
    before l = rw (lt-leb (8 * i) x l, lt-ltb x (8 * i) l, lt-ltb x (8 * suc i) (omega (arith, l))) refl

    after : 8 * i ≤ x → (in_byte (byte_at s i) (8 * i) 8 x || in_first s i x) ≡ in_first s (suc i) x
    after far =
        cases (ltb x (8 * i + 8))
        (λ t.
        let low = ltb-true x (8 * i + 8) t in
        let place : x / 8 ≡ i = omega (arith, far, low) in
        let bit_is : x % 8 ≡ x - 8 * i = omega (arith, far, low) in
        rw (le-leb (8 * i) x far, t, le-ltb x (8 * i) far, lt-ltb x (8 * suc i) (omega (arith, low)), place, bit_is) (or_false _))
        (λ f. rw (le-leb (8 * i) x far, f, le-ltb x (8 * i) far, le-ltb x (8 * suc i) (omega (arith, ltb-false x (8 * i + 8) f))) refl)

set_added_lem : (r : Ring) (s : List ℕ) (i : ℕ) → SoundRing r → Grown r (set_added r s i) (in_first s i)
unfolding set_added
set_added_lem r s zero good = alike (none r good) (λ x low. rw (le-ltb x (8 * 0) (omega arith)) refl)
set_added_lem r s (suc i) good =
    let before = set_added_lem r s i good in
    alike (then before (byte_added_lem (set_added r s i) (byte_at s i) (8 * i) before.sound)) (λ x low. in_first_more s i x)

-- The theorem: added to the ring of own alone, a set with own in it makes the ring of the set, whatever the bytes are.
pub members_make : (own laps : ℕ) (ready : Bool) (s : List ℕ) → own < 126 → laps ≤ 2 → in_set s own ≡ true → set_added (make own (only own) laps ready) s 16 ≡ make own (in_set s) laps ready
unfolding make
members_make own laps ready s low two mine =
    let alone = make own (only own) laps ready in
    let grown = set_added_lem alone s 16 (make_sound own (only own) laps ready low (eq-eqb own own refl) two) in
    let members : (x : ℕ) → x < 126 → has (set_added alone s 16) x ≡ in_set s x =
    λ x l. grown.has_is x l ∙ rw (lt-ltb x (8 * 16) (omega (arith, l)), has_make own (only own) laps ready x l) (with_own x) in
    whole (set_added alone s 16) (grown.sound.linked ∙ links_same (has (set_added alone s 16)) (in_set s) members) grown.own_is grown.laps_is grown.ready_is
  where
    with_own : (x : ℕ) → (in_set s x || eqb x own) ≡ in_set s x
    with_own x =
        cases (eqb x own) (λ t. rw (t, eqb-true x own t, mine) refl) (λ f. rw f (or_false (in_set s x)))

    whole : (r : Ring) → r.links ≡ links_of (in_set s) → r.own ≡ own → r.laps ≡ laps → r.ready ≡ ready → r ≡ record { links = links_of (in_set s); own = own; laps = laps; ready = ready }
    whole r a b c d =
        ap (λ (l : List ℕ). record { links = l; own = r.own; laps = r.laps; ready = r.ready }) a
        ∙ ap (λ (n : ℕ). record { links = links_of (in_set s); own = n; laps = r.laps; ready = r.ready }) b
        ∙ ap (λ (n : ℕ). record { links = links_of (in_set s); own = own; laps = n; ready = r.ready }) c
        ∙ ap (λ (z : Bool). record { links = links_of (in_set s); own = own; laps = laps; ready = z }) d

-- Laps change nothing of that.

-- a ring with other laps
abbrev with_laps : ℕ → Ring → Ring
with_laps n r = record { links = r.links; own = r.own; laps = n; ready = r.ready }

bit_laps : (n : ℕ) (r : Ring) (byte at a : ℕ) → bit_added (with_laps n r) byte at a ≡ with_laps n (bit_added r byte at a)
unfolding bit_added add_of
bit_laps n r byte at a =
    cases (bit_at byte at) (λ t. rw t (cases (ltb a 126) (λ u. rw u refl) (λ u. rw u refl))) (λ f. rw f refl)

bits_laps : (n : ℕ) (r : Ring) (byte a k : ℕ) → bits_added (with_laps n r) byte a k ≡ with_laps n (bits_added r byte a k)
unfolding bits_added
bits_laps n r byte a zero = refl
bits_laps n r byte a (suc k) =
    ap (λ (x : Ring). bit_added x byte (7 - k) (a + k)) (bits_laps n r byte a k) ∙ bit_laps n (bits_added r byte a k) byte (7 - k) (a + k)

byte_laps : (n : ℕ) (r : Ring) (byte a : ℕ) → byte_added (with_laps n r) byte a ≡ with_laps n (byte_added r byte a)
unfolding byte_added
byte_laps n r byte a = cases (eqb byte 0) (λ t. rw t refl) (λ f. rw f (bits_laps n r byte a 8))

set_laps : (n : ℕ) (r : Ring) (s : List ℕ) (i : ℕ) → set_added (with_laps n r) s i ≡ with_laps n (set_added r s i)
unfolding set_added
set_laps n r s zero = refl
set_laps n r s (suc i) =
    ap (λ (x : Ring). byte_added x (byte_at s i) (8 * i)) (set_laps n r s i) ∙ byte_laps n (set_added r s i) (byte_at s i) (8 * i)

-- the theorem, whatever the laps are
pub members_links : (own laps : ℕ) (ready : Bool) (s : List ℕ) → own < 126 → in_set s own ≡ true → set_added (make own (only own) laps ready) s 16 ≡ make own (in_set s) laps ready
unfolding make
members_links own laps ready s low mine =
    set_laps laps (make own (only own) 0 ready) s 16 ∙ ap (with_laps laps) (members_make own 0 ready s low (omega arith) mine)
