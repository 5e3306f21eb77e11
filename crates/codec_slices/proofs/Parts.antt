-- What the calls lean on: the few bytes that a field touches say of it what the number of all bytes says. Assumes nothing.
use Rattle.std.specs.Prelude.{ℕ, suc, ◌+◌, ◌-◌, ◌*◌, ◌/◌, ◌%◌, ◌^◌, ◌<◌, ◌≤◌, ◌≡◌, List, [], ◌∷◌, ◌++◌, Bool, true, false, ◌&&◌, length, take, drop, get_or, leb}
use Rattle.std.proofs.Common.{sym, ap, ◌∙◌, subst, add-zero, zero-add, mul-one, mul-suc, add_comm, add_assoc, add-mul, mul_assoc, arith, le-leb, leb-true, leb-false, length-append, length-drop, take-append-drop, length-take-le, drop-drop, pow-add, pow_pos, pow_mono, lt_of_lt_of_le}
use Rattle.std.proofs.Math.Nat.{zero-div, zero-mod}
use Rattle.std.proofs.lemmas.Bool.{lt-leb}
use borrow.Table.Steps.{cases}
use Rattle.codec_fields.specs.Fields.{field_of, be, be_from, has_room, load_of, low_bytes, stored_of, Bytes}
use Rattle.codec_fields.proofs.Widths.{field_below}
use Rattle.codec_fields.proofs.Laws.{bytes_low, be_low, low_be, be_below, low_length}
use Rattle.codec_fields.proofs.Stores.{load_room, stored_room, room_of_lem, bytes_take, bytes_drop}
use Rattle.codec_slices.specs.Slices.{touched, behind, has_bits, field_at, over_field, put_at, over_word}
use Rattle.codec_slices.proofs.Places.{field_above, field_within, over_above, over_within, over_below, over_word_lem}

-- numbers below 2^8, one by one, are bytes
pub bytes_known : (s : List ℕ) → ((i : ℕ) → get_or s i 0 < 2 ^ 8) → Bytes s
bytes_known [] h = tt
bytes_known (b ∷ s) h = (h 0, bytes_known s (λ i. h (suc i)))

-- bytes after bytes
pub bytes_append : (a b : List ℕ) → Bytes a → Bytes b → Bytes (a ++ b)
bytes_append [] b h k = k
bytes_append (x ∷ a) b h k = (h.0, bytes_append a b h.1 k)

-- the number of bytes after others
be_after : (acc : ℕ) (ys : List ℕ) → be_from acc ys ≡ acc * 2 ^ (8 * length ys) + be ys
unfolding be_from
be_after acc [] = sym (add-zero (acc * 2 ^ 0) ∙ mul-one acc)
be_after acc (y ∷ ys) =
    let k = 2 ^ (8 * length ys) in
    let p : 2 ^ (8 * suc (length ys)) ≡ 2 ^ 8 * k = ap (λ (n : ℕ). 2 ^ n) (mul-suc 8 (length ys) ∙ add_comm (8 * length ys) 8) ∙ pow-add 2 8 (8 * length ys) in
    be_after (acc * 2 ^ 8 + y) ys
    ∙ ap (λ (n : ℕ). n + be ys) (add-mul (acc * 2 ^ 8) y k)
    ∙ add_assoc (acc * 2 ^ 8 * k) (y * k) (be ys)
    ∙ ap (λ (n : ℕ). n + (y * k + be ys)) (mul_assoc acc (2 ^ 8) k ∙ ap (λ (n : ℕ). acc * n) (sym p))
    ∙ ap (λ (n : ℕ). acc * 2 ^ (8 * suc (length ys)) + n) (sym (be_after y ys) ∙ ap (λ (n : ℕ). be_from n ys) (sym (zero-add y)))

-- the number of two parts
be_both : (acc : ℕ) (xs ys : List ℕ) → be_from acc (xs ++ ys) ≡ be_from acc xs * 2 ^ (8 * length ys) + be ys
unfolding be_from
be_both acc [] ys = be_after acc ys
be_both acc (x ∷ xs) ys = be_both (acc * 2 ^ 8 + x) xs ys

-- the number of three parts
be_three : (a b c : List ℕ) → be (a ++ (b ++ c)) ≡ (be a * 2 ^ (8 * length b) + be b) * 2 ^ (8 * length c) + be c
be_three a b c =
    be_both 0 a (b ++ c)
    ∙ sym (be_after (be a) (b ++ c))
    ∙ be_both (be a) b c
    ∙ ap (λ (n : ℕ). n * 2 ^ (8 * length c) + be c) (be_after (be a) b)

module _ (a b c : List ℕ) (more after width : ℕ) (bits : 8 * length b ≡ more + width + after) (bytes : Bytes c) where
  -- a field that lies in the middle part
  read_part : field_of (be (a ++ (b ++ c))) (8 * length c + after) width ≡ field_of (be b) after width
  read_part =
      ap (λ (n : ℕ). field_of n (8 * length c + after) width) (be_three a b c)
      ∙ field_above (be a * 2 ^ (8 * length b) + be b) (be c) (8 * length c) after width (be_below c bytes)
      ∙ ap (λ (n : ℕ). field_of (be a * 2 ^ n + be b) after width) bits
      ∙ field_within (be a) (be b) more after width

  -- a field that is replaced in the middle part
  write_part :
      (value : ℕ)
      → Bytes b
      → be (a ++ (low_bytes (length b) (over_field (be b) after width value) ++ c)) ≡ over_field (be (a ++ (b ++ c))) (8 * length c + after) width value
  write_part value own =
      let new = over_field (be b) after width value in
      let small : new < 2 ^ (8 * length b) =
      subst (λ (n : ℕ). new < 2 ^ n) (sym bits) (over_below more (be b) after width value (subst (λ (n : ℕ). be b < 2 ^ n) bits (be_below b own))) in
      be_three a (low_bytes (length b) new) c
      ∙ ap (λ (n : ℕ). (be a * 2 ^ (8 * n) + be (low_bytes (length b) new)) * 2 ^ (8 * length c) + be c) (low_length (length b) new)
      ∙ ap (λ (n : ℕ). (be a * 2 ^ (8 * length b) + n) * 2 ^ (8 * length c) + be c) (be_low (length b) new small)
      ∙ ap (λ (n : ℕ). (be a * 2 ^ n + new) * 2 ^ (8 * length c) + be c) bits
      ∙ ap (λ (n : ℕ). n * 2 ^ (8 * length c) + be c) (sym (over_within (be a) (be b) more after width value))
      ∙ sym (over_above (be a * 2 ^ (more + width + after) + be b) (be c) (8 * length c) after width value (be_below c bytes))
      ∙ ap (λ (n : ℕ). over_field ((be a * 2 ^ n + be b) * 2 ^ (8 * length c) + be c) (8 * length c + after) width value) (sym bits)
      ∙ ap (λ (n : ℕ). over_field n (8 * length c + after) width value) (sym (be_three a b c))

-- the bits are there exactly where the bytes that they touch are
same_room : (n at width : ℕ) → has_room n (at / 8) (touched at width) ≡ has_bits n at width
same_room n at width = ap (λ (t : Bool). leb (touched at width) 8 && t) here
  where
    here : leb (at / 8 + touched at width) n ≡ leb (at + width) (8 * n)
    here =
        cases (leb (at + width) (8 * n))
        (λ t. le-leb (at / 8 + touched at width) n (omega (arith, leb-true (at + width) (8 * n) t)) ∙ sym t)
        (λ t. lt-leb (at / 8 + touched at width) n (omega (arith, leb-false (at + width) (8 * n) t)) ∙ sym t)

-- where the bits are there, they touch at most 8 bytes and end within the slice
pub bits_there : (n at width : ℕ) → has_bits n at width ≡ true → (touched at width ≤ 8) × (at + width ≤ 8 * n)
bits_there n at width t =
    let h = room_of_lem n (at / 8) (touched at width) (same_room n at width ∙ t) in
    (h.0, omega (arith, h.1))

-- and where they do so, they are there
pub bits_are_there : (n at width : ℕ) → touched at width ≤ 8 → at + width ≤ 8 * n → has_bits n at width ≡ true
bits_are_there n at width few room = rw (le-leb (touched at width) 8 few, le-leb (at + width) (8 * n) room)

module _ (s : List ℕ) (at width : ℕ) (bytes : Bytes s) where
  abbrev first : ℕ
  first = at / 8

  abbrev count : ℕ
  count = touched at width

  abbrev upper : List ℕ
  upper = take first s

  abbrev middle : List ℕ
  middle = take count (drop first s)

  abbrev lower : List ℕ
  lower = drop (first + count) s

  -- the slice's three parts
  parts : s ≡ upper ++ (middle ++ lower)
  parts =
      sym (take-append-drop first s)
      ∙ ap (λ (l : List ℕ). upper ++ l) (sym (take-append-drop count (drop first s)) ∙ ap (λ (l : List ℕ). middle ++ l) (drop-drop count first s))

  module _ (few : touched at width ≤ 8) (room : at + width ≤ 8 * length s) where
    there : first + count ≤ length s
    there = omega (arith, room)

    long : length middle ≡ count
    long = length-take-le count (drop first s) (rw length-drop (omega (arith, there)))

    bits : 8 * length middle ≡ at % 8 + width + behind at width
    bits = rw long (omega arith)

    place : 8 * length s - (at + width) ≡ 8 * length lower + behind at width
    place = rw length-drop (omega (arith, room))

    -- the field of all bytes is the field of those that it touches
    field_there : field_of (be s) (8 * length s - (at + width)) width ≡ field_of (load_of s first count) (behind at width) width
    field_there =
        ap (λ (n : ℕ). field_of (be s) n width) place
        ∙ ap (λ (l : List ℕ). field_of (be l) (8 * length lower + behind at width) width) parts
        ∙ read_part upper middle lower (at % 8) (behind at width) width bits (bytes_drop (first + count) s bytes)
        ∙ ap (λ (n : ℕ). field_of n (behind at width) width) (sym (load_room s first count few there))

    -- the bytes with the field replaced are those that it touches with the field replaced, between the others
    put_there : (value : ℕ) → low_bytes (length s) (over_field (be s) (8 * length s - (at + width)) width value) ≡ stored_of s first count (over_word (load_of s first count) (behind at width) width value)
    put_there value =
        let new = over_field (be middle) (behind at width) width value in
        let whole : List ℕ = upper ++ (low_bytes count new ++ lower) in
        let small : be middle < 2 ^ (at % 8 + width + behind at width) =
        subst (λ (n : ℕ). be middle < 2 ^ n) bits (be_below middle (bytes_take count (drop first s) (bytes_drop first s bytes))) in
        let word : over_word (load_of s first count) (behind at width) width value ≡ new =
        ap (λ (n : ℕ). over_word n (behind at width) width value) (load_room s first count few there)
        ∙ over_word_lem (at % 8) (be middle) (behind at width) width value small (omega (arith, bits, long, few)) in
        let same_length : length whole ≡ length s =
        length-append upper (low_bytes count new ++ lower)
        ∙ rw (length-append, length-take-le first s (omega (arith, there)), low_length count new, length-drop) (omega (arith, there)) in
        let number : be whole ≡ over_field (be s) (8 * length s - (at + width)) width value =
        ap (λ (n : ℕ). be (upper ++ (low_bytes n new ++ lower))) (sym long)
        ∙ write_part upper middle lower (at % 8) (behind at width) width bits (bytes_drop (first + count) s bytes) value (bytes_take count (drop first s) (bytes_drop first s bytes))
        ∙ ap (λ (l : List ℕ). over_field (be l) (8 * length lower + behind at width) width value) (sym parts)
        ∙ ap (λ (n : ℕ). over_field (be s) n width value) (sym place) in
        let all : Bytes whole =
        bytes_append upper (low_bytes count new ++ lower) (bytes_take first s bytes)
        (bytes_append (low_bytes count new) lower (bytes_low count new) (bytes_drop (first + count) s bytes)) in
        ap (low_bytes (length s)) (sym number)
        ∙ ap (λ (n : ℕ). low_bytes n (be whole)) (sym same_length)
        ∙ low_be whole all
        ∙ ap (λ (n : ℕ). upper ++ (low_bytes count n ++ lower)) (sym word)
        ∙ sym (stored_room s first count (over_word (load_of s first count) (behind at width) width value) few there)

  -- a field of bytes, by the word that it is in
  pub field_by_word : field_at s at width ≡ field_of (load_of s first count) (behind at width) width
  unfolding field_at load_of field_of
  field_by_word =
      cases (has_bits (length s) at width)
      (λ t. let h = bits_there (length s) at width t in rw t (field_there h.0 h.1))
      (λ t.
      rw (t, same_room (length s) at width, t)
      (sym (ap (λ (n : ℕ). n % 2 ^ width) (zero-div (2 ^ behind at width)) ∙ zero-mod (2 ^ width))))

  -- a field put into bytes, by the word that it is in
  pub put_by_word : (value : ℕ) → put_at s at width value ≡ stored_of s first count (over_word (load_of s first count) (behind at width) width value)
  unfolding put_at stored_of
  put_by_word value =
      cases (has_bits (length s) at width)
      (λ t. let h = bits_there (length s) at width t in rw t (put_there h.0 h.1 value))
      (λ t. rw (t, same_room (length s) at width, t))

-- a field of more than 64 bits touches more than 8 bytes
too_wide : (n at width : ℕ) → 64 < width → has_bits n at width ≡ false
too_wide n at width h = let few : 8 < touched at width = omega (arith, h) in rw (lt-leb (touched at width) 8 few)

pub field_too_wide : (s : List ℕ) (at width : ℕ) → 64 < width → field_at s at width ≡ 0
unfolding field_at
field_too_wide s at width h = rw (too_wide (length s) at width h)

pub put_too_wide : (s : List ℕ) (at width value : ℕ) → 64 < width → put_at s at width value ≡ s
unfolding put_at
put_too_wide s at width value h = rw (too_wide (length s) at width h)

-- a field is below 2 to its width
pub field_small : (s : List ℕ) (at width : ℕ) → field_at s at width < 2 ^ width
unfolding field_at
field_small s at width =
    cases (has_bits (length s) at width) (λ t. rw t (field_below (be s) (8 * length s - (at + width)) width)) (λ t. rw t (pow_pos width))

-- a field is below 2 to any width that is no less
pub field_smaller : (s : List ℕ) (at width most : ℕ) → width ≤ most → field_at s at width < 2 ^ most
field_smaller s at width most l = lt_of_lt_of_le (field_small s at width) (pow_mono l)

-- a field that is put leaves the length as it is
pub put_keeps_length : (s : List ℕ) (at width value : ℕ) → length (put_at s at width value) ≡ length s
unfolding put_at
put_keeps_length s at width value =
    cases (has_bits (length s) at width)
    (λ t. rw t (low_length (length s) (over_field (be s) (8 * length s - (at + width)) width value)))
    (λ t. rw t)
