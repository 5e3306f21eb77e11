-- Fields of bytes, written and read: they undo each other, once for every place and width, and so for every list of widths that fills
-- the bytes. Assumes nothing.
use Rattle.std.specs.Prelude.{ℕ, suc, ◌+◌, ◌-◌, ◌*◌, ◌/◌, ◌%◌, ◌^◌, ◌<◌, ◌≤◌, ◌≡◌, refl, List, [], ◌∷◌, length}
use Rattle.std.proofs.Common.{sym, ap, ◌∙◌, subst, mod-lt, mod-eq_of_lt, div-one, arith, pow_pos, shr-shr, lit<}
use Rattle.std.proofs.Math.Nat.{div-eq_of_lt}
use Rattle.std.proofs.Math.Pow.{split, high, low}
use Rattle.codec_fields.specs.Fields.{field_of, be, pack, pack_from, total, unpack, Within, low_bytes, Bytes}
use Rattle.codec_fields.proofs.Laws.{below, unpack_pack, pack_unpack, unpacked_within, bytes_low, be_low, low_be, be_below, low_length}
use Rattle.codec_slices.specs.Slices.{touched, field_at, over_field, put_at, put_from, fields_from, Short}
use Rattle.codec_slices.proofs.Places.{field_within, over_high, over_below}
use Rattle.codec_slices.proofs.Parts.{bits_are_there}

-- One field.

-- a field of at most 57 bits touches at most 8 bytes, wherever it begins
pub short_touches : (at width : ℕ) → width ≤ 57 → touched at width ≤ 8
short_touches at width h = omega (arith, h)

module _ (s : List ℕ) (at width : ℕ) (bytes : Bytes s) (few : touched at width ≤ 8) (room : at + width ≤ 8 * length s) where
  -- how many bits stand behind the field
  abbrev place : ℕ
  place = 8 * length s - (at + width)

  bits : at + width + place ≡ 8 * length s
  bits = omega (arith, room)

  -- it is a field of the bytes' number
  pub field_is : field_at s at width ≡ field_of (be s) place width
  unfolding field_at
  field_is = rw (bits_are_there (length s) at width few room)

  module _ (value : ℕ) where
    put_is : put_at s at width value ≡ low_bytes (length s) (over_field (be s) place width value)
    unfolding put_at
    put_is = rw (bits_are_there (length s) at width few room)

    -- what is written has the same length, and is bytes
    pub put_length : length (put_at s at width value) ≡ length s
    put_length = ap length put_is ∙ low_length (length s) (over_field (be s) place width value)

    pub put_bytes : Bytes (put_at s at width value)
    put_bytes = subst Bytes (sym put_is) (bytes_low (length s) (over_field (be s) place width value))

    -- its number is that of the bytes with the field replaced
    pub put_number : be (put_at s at width value) ≡ over_field (be s) place width value
    put_number =
        ap be put_is
        ∙ be_low (length s) (over_field (be s) place width value)
        (subst (λ (n : ℕ). over_field (be s) place width value < 2 ^ n) bits
        (over_below at (be s) place width value (subst (λ (n : ℕ). be s < 2 ^ n) (sym bits) (be_below s bytes))))

-- any field of what was written
after_put :
    (s : List ℕ) (at width value : ℕ) (other wide : ℕ) (bytes : Bytes s) (few : touched at width ≤ 8) (room : at + width ≤ 8 * length s)
    → touched other wide ≤ 8
    → other + wide ≤ 8 * length s
    → field_at (put_at s at width value) other wide ≡ field_of (over_field (be s) (8 * length s - (at + width)) width value) (8 * length s - (other + wide)) wide
after_put s at width value other wide bytes few room few' room' =
    let l = put_length s at width bytes few room value in
    field_is (put_at s at width value) other wide (put_bytes s at width bytes few room value) few' (subst (λ (n : ℕ). other + wide ≤ 8 * n) (sym l) room')
    ∙ ap (λ (n : ℕ). field_of (be (put_at s at width value)) (8 * n - (other + wide)) wide) l
    ∙ ap (λ (n : ℕ). field_of n (8 * length s - (other + wide)) wide) (put_number s at width bytes few room value)

-- a field that is written is read back
pub read_put :
    (s : List ℕ) (at width value : ℕ)
    → Bytes s
    → touched at width ≤ 8
    → at + width ≤ 8 * length s
    → field_at (put_at s at width value) at width ≡ value % 2 ^ width
unfolding field_of
read_put s at width value bytes few room =
    let p = 8 * length s - (at + width) in
    after_put s at width value at width bytes few room few room
    ∙ ap (λ (n : ℕ). n % 2 ^ width) (over_high (be s) p width value)
    ∙ low (be s / 2 ^ (p + width)) width (mod-lt value (pow_pos width))

-- a field of a number put where it was
over_same : (n at width : ℕ) → over_field n at width (field_of n at width) ≡ n
unfolding over_field field_of
over_same n at width =
    ap (λ (m : ℕ). (n / 2 ^ (at + width) * 2 ^ width + m) * 2 ^ at + n % 2 ^ at) (mod-eq_of_lt (mod-lt (n / 2 ^ at) (pow_pos width)))
    ∙ ap (λ (m : ℕ). (m * 2 ^ width + n / 2 ^ at % 2 ^ width) * 2 ^ at + n % 2 ^ at) (sym (shr-shr n at width))
    ∙ ap (λ (m : ℕ). m * 2 ^ at + n % 2 ^ at) (split (n / 2 ^ at) width)
    ∙ split n at

-- a field that is written where it was read changes nothing
pub put_read :
    (s : List ℕ) (at width : ℕ) → Bytes s → touched at width ≤ 8 → at + width ≤ 8 * length s → put_at s at width (field_at s at width) ≡ s
put_read s at width bytes few room =
    let p = 8 * length s - (at + width) in
    ap (put_at s at width) (field_is s at width bytes few room)
    ∙ put_is s at width bytes few room (field_of (be s) p width)
    ∙ ap (low_bytes (length s)) (over_same (be s) p width)
    ∙ low_be s bytes

-- a field before the one that is written stays
pub before_stays :
    (s : List ℕ) (at width value other wide : ℕ)
    → Bytes s
    → touched at width ≤ 8
    → at + width ≤ 8 * length s
    → touched other wide ≤ 8
    → other + wide ≤ at
    → field_at (put_at s at width value) other wide ≡ field_at s other wide
unfolding field_of
before_stays s at width value other wide bytes few room few' apart =
    let p = 8 * length s - (at + width) in
    let q = 8 * length s - (other + wide) in
    let over = over_field (be s) p width value in
    let k = q - (p + width) in
    let e : p + width + k ≡ q = omega (arith, room, apart) in
    let up : over / 2 ^ (p + width) ≡ be s / 2 ^ (p + width) =
    sym (shr-shr over p width) ∙ ap (λ (n : ℕ). n / 2 ^ width) (over_high (be s) p width value) ∙ high (be s / 2 ^ (p + width)) width (mod-lt value (pow_pos width)) in
    let cut : (n : ℕ) → n / 2 ^ q ≡ n / 2 ^ (p + width) / 2 ^ k = λ n. ap (λ (m : ℕ). n / 2 ^ m) (sym e) ∙ sym (shr-shr n (p + width) k) in
    after_put s at width value other wide bytes few room few' (omega (arith, room, apart))
    ∙ ap (λ (n : ℕ). n % 2 ^ wide) (cut over ∙ ap (λ (n : ℕ). n / 2 ^ k) up ∙ sym (cut (be s)))
    ∙ sym (field_is s other wide bytes few' (omega (arith, room, apart)))

-- so does a field behind it
pub behind_stays :
    (s : List ℕ) (at width value other wide : ℕ)
    → Bytes s
    → touched at width ≤ 8
    → at + width ≤ other
    → touched other wide ≤ 8
    → other + wide ≤ 8 * length s
    → field_at (put_at s at width value) other wide ≡ field_at s other wide
unfolding over_field
behind_stays s at width value other wide bytes few apart few' room' =
    let p = 8 * length s - (at + width) in
    let q = 8 * length s - (other + wide) in
    let n = be s in
    let k = p - (wide + q) in
    let e : k + wide + q ≡ p = omega (arith, room', apart) in
    let part : (h l : ℕ) → field_of (h * 2 ^ p + l) q wide ≡ field_of l q wide = λ h l. ap (λ (m : ℕ). field_of (h * 2 ^ m + l) q wide) (sym e) ∙ field_within h l k q wide in
    after_put s at width value other wide bytes few (omega (arith, room', apart)) few' room'
    ∙ part (n / 2 ^ (p + width) * 2 ^ width + value % 2 ^ width) (n % 2 ^ p)
    ∙ sym (part (n / 2 ^ p) (n % 2 ^ p))
    ∙ ap (λ (m : ℕ). field_of m q wide) (split n p)
    ∙ sym (field_is s other wide bytes few' room')

-- Lists of widths that fill the bytes.

-- the fields of bytes are those of their number
pub fields_are : (at : ℕ) (ws s : List ℕ) → Bytes s → Short ws → at + total ws ≡ 8 * length s → fields_from at ws s ≡ unpack ws (be s)
fields_are at [] s bytes short fills = refl
fields_are at (w ∷ ws) s bytes short fills =
    let e : 8 * length s - (at + w) ≡ total ws = omega (arith, fills) in
    ap (λ (n : ℕ). n ∷ fields_from (at + w) ws s)
    (field_is s at w bytes (short_touches at w short.0) (omega (arith, fills)) ∙ ap (λ (n : ℕ). field_of (be s) n w) e)
    ∙ ap (λ (l : List ℕ). field_of (be s) (total ws) w ∷ l) (fields_are (at + w) ws s bytes short.1 (omega (arith, fills)))

-- fields written one after the other, below what stands before them
put_all :
    (at : ℕ) (ws vs s : List ℕ)
    → Bytes s
    → Short ws
    → length ws ≡ length vs
    → at + total ws ≡ 8 * length s
    → put_from at ws vs s ≡ low_bytes (length s) (pack_from (be s / 2 ^ total ws) ws vs)
put_all at [] vs s bytes short h fills = sym (ap (low_bytes (length s)) (div-one (be s)) ∙ low_be s bytes)
put_all at (w ∷ ws) [] s bytes short h fills = absurd (omega (arith, h))
put_all at (w ∷ ws) (v ∷ vs) s bytes short h fills =
    let few = short_touches at w short.0 in
    let room : at + w ≤ 8 * length s = omega (arith, fills) in
    let next = put_at s at w v in
    let l = put_length s at w bytes few room v in
    let e : 8 * length s - (at + w) ≡ total ws = omega (arith, fills) in
    let up : be next / 2 ^ total ws ≡ be s / 2 ^ (total ws + w) * 2 ^ w + v % 2 ^ w =
    ap (λ (n : ℕ). n / 2 ^ total ws) (put_number s at w bytes few room v ∙ ap (λ (n : ℕ). over_field (be s) n w v) e)
    ∙ over_high (be s) (total ws) w v in
    put_all (at + w) ws vs next (put_bytes s at w bytes few room v) short.1 (omega (arith, h)) (rw l (omega (arith, fills)))
    ∙ ap (λ (n : ℕ). low_bytes n (pack_from (be next / 2 ^ total ws) ws vs)) l
    ∙ ap (λ (n : ℕ). low_bytes (length s) (pack_from n ws vs)) up

-- fields that fill the bytes leave nothing of what was there: the bytes are those of the number that the fields make
pub filled : (ws vs s : List ℕ) → Bytes s → Short ws → length ws ≡ length vs → total ws ≡ 8 * length s → put_from 0 ws vs s ≡ low_bytes (length s) (pack ws vs)
filled ws vs s bytes short h fills =
    let small : be s < 2 ^ total ws = subst (λ (n : ℕ). be s < 2 ^ n) (sym fills) (be_below s bytes) in
    put_all 0 ws vs s bytes short h (omega (arith, fills)) ∙ ap (λ (n : ℕ). low_bytes (length s) (pack_from n ws vs)) (div-eq_of_lt small)

-- as many values as widths
as_many : (ws vs : List ℕ) → Within ws vs → length ws ≡ length vs
as_many [] [] h = refl
as_many (w ∷ ws) (v ∷ vs) h = ap suc (as_many ws vs h.1)
as_many [] (v ∷ vs) h = elim h [ ]
as_many (w ∷ ws) [] h = elim h [ ]

module _ (ws : List ℕ) (count : ℕ) (fills : total ws ≡ 8 * count) where
  -- values within their widths are read back from the bytes that they make
  pub read_written : (vs : List ℕ) → Within ws vs → unpack ws (be (low_bytes count (pack ws vs))) ≡ vs
  read_written vs h =
      let e : 0 + total ws ≡ 8 * count = omega (arith, fills) in
      ap (unpack ws) (be_low count (pack ws vs) (subst (λ (n : ℕ). pack ws vs < 2 ^ n) e (below 0 0 ws vs (lit< tt))))
      ∙ unpack_pack 0 ws vs h

  -- bytes are made again from their fields
  pub written_read : (bs : List ℕ) → length bs ≡ count → Bytes bs → low_bytes count (pack ws (unpack ws (be bs))) ≡ bs
  written_read bs l h =
      let small : be bs < 2 ^ total ws = subst (λ (n : ℕ). be bs < 2 ^ n) (ap (λ (n : ℕ). 8 * n) l ∙ sym fills) (be_below bs h) in
      ap (λ (n : ℕ). low_bytes count (pack_from n ws (unpack ws (be bs)))) (sym (div-eq_of_lt small))
      ∙ ap (low_bytes count) (pack_unpack ws (be bs))
      ∙ subst (λ (n : ℕ). low_bytes n (be bs) ≡ bs) l (low_be bs h)

module _ (ws s : List ℕ) (bytes : Bytes s) (short : Short ws) (fills : total ws ≡ 8 * length s) where
  -- values within their widths, written into bytes field by field, are read back field by field
  pub fields_put : (vs : List ℕ) → Within ws vs → fields_from 0 ws (put_from 0 ws vs s) ≡ vs
  fields_put vs h =
      let e = filled ws vs s bytes short (as_many ws vs h) fills in
      let l : 0 + total ws ≡ 8 * length (low_bytes (length s) (pack ws vs)) = rw low_length (omega (arith, fills)) in
      ap (fields_from 0 ws) e
      ∙ fields_are 0 ws (low_bytes (length s) (pack ws vs)) (bytes_low (length s) (pack ws vs)) short l
      ∙ read_written ws (length s) fills vs h

  -- the fields of bytes, written over others, make these bytes again
  pub put_fields : (bs : List ℕ) → length bs ≡ length s → Bytes bs → put_from 0 ws (fields_from 0 ws bs) s ≡ bs
  put_fields bs l h =
      ap (λ (vs : List ℕ). put_from 0 ws vs s) (fields_are 0 ws bs h short (rw l (omega (arith, fills))))
      ∙ filled ws (unpack ws (be bs)) s bytes short (as_many ws (unpack ws (be bs)) (unpacked_within ws (be bs))) fills
      ∙ written_read ws (length s) fills bs l h
