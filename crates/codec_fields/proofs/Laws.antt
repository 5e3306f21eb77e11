-- Fields put below one another and read again undo each other, once for every list of widths and any number of bits (`unpack_pack`,
-- `pack_unpack`). A word of 64 bits is one case of it, bytes and their number another; bytes that fields of other widths lie across
-- are in codec_slices. Assumes nothing.
use Rattle.std.specs.Prelude.{ℕ, zero, suc, ◌+◌, ◌*◌, ◌/◌, ◌%◌, ◌^◌, ◌<◌, ◌≤◌, ◌≡◌, refl, List, [], ◌∷◌, Bool, true, false, cond, length, get_or, replicate, eqb}
use Rattle.std.proofs.Common.{sym, ap, ◌∙◌, add-zero, div-one, mod-lt, mod-eq_of_lt, lt_of_lt_of_le, arith, ne_eqb, eqb-true, shr-shr, pow_pos, pow_mono, lit<}
use Rattle.std.proofs.Math.Nat.{div-eq_of_lt}
use Rattle.std.proofs.lemmas.Bool.{eqb-false}
use borrow.Table.Steps.{cases}
use Rattle.std.proofs.Math.Pow.{high, low, split}
use Rattle.codec_fields.specs.Fields.{field_of, bit_at, bit_number, zero_or14, zeros_or14, put_all, pack_from, total, unpack, Within, be, be_from, low_bytes, bytes_of, Bytes}
use Rattle.codec_fields.proofs.Widths.{field_below, field_split, grown, put_low}

-- in a word of 64 bits that has room for the widths nothing falls away
plain : (k acc : ℕ) (ws vs : List ℕ) → acc < 2 ^ k → k + total ws ≤ 64 → put_all acc ws vs ≡ pack_from acc ws vs
plain k acc [] vs a l = refl
plain k acc (w ∷ ws) [] a l = refl
plain k acc (w ∷ ws) (v ∷ vs) a l =
    ap (λ (n : ℕ). put_all n ws vs) (put_low k w acc v a (omega arith))
    ∙ plain (k + w) (acc * 2 ^ w + v % 2 ^ w) ws vs (grown k w acc (v % 2 ^ w) a (mod-lt v (pow_pos w))) (omega arith)

-- the number that fields make is below 2 to the bits that they take
pub below : (k acc : ℕ) (ws vs : List ℕ) → acc < 2 ^ k → pack_from acc ws vs < 2 ^ (k + total ws)
below k acc [] vs a = rw add-zero a
below k acc (w ∷ ws) [] a = lt_of_lt_of_le a (pow_mono (omega arith))
below k acc (w ∷ ws) (v ∷ vs) a =
    let e : k + w + total ws ≡ k + (total ws + w) = omega arith in
    rw e at (below (k + w) (acc * 2 ^ w + v % 2 ^ w) ws vs (grown k w acc (v % 2 ^ w) a (mod-lt v (pow_pos w))))

-- what stands above the fields is what was there before
above : (acc : ℕ) (ws vs : List ℕ) → Within ws vs → pack_from acc ws vs / 2 ^ total ws ≡ acc
above acc [] [] h = div-one acc
above acc [] (v ∷ vs) h = elim h [ ]
above acc (w ∷ ws) [] h = elim h [ ]
above acc (w ∷ ws) (v ∷ vs) h =
    sym (shr-shr (pack_from (acc * 2 ^ w + v % 2 ^ w) ws vs) (total ws) w)
    ∙ ap (λ (n : ℕ). n / 2 ^ w) (above (acc * 2 ^ w + v % 2 ^ w) ws vs h.1)
    ∙ high acc w (mod-lt v (pow_pos w))

-- values within their widths are read back from the number that they make
pub unpack_pack : (acc : ℕ) (ws vs : List ℕ) → Within ws vs → unpack ws (pack_from acc ws vs) ≡ vs
unfolding field_of
unpack_pack acc [] [] h = refl
unpack_pack acc [] (v ∷ vs) h = elim h [ ]
unpack_pack acc (w ∷ ws) [] h = elim h [ ]
unpack_pack acc (w ∷ ws) (v ∷ vs) h =
    rw (
      above (acc * 2 ^ w + v % 2 ^ w) ws vs h.1,
      low acc w (mod-lt v (pow_pos w)),
      mod-eq_of_lt h.0,
      unpack_pack (acc * 2 ^ w + v) ws vs h.1,
    )

-- a number is made again from its fields and what stands above them
pub pack_unpack : (ws : List ℕ) (word : ℕ) → pack_from (word / 2 ^ total ws) ws (unpack ws word) ≡ word
unfolding field_of
pack_unpack [] word = div-one word
pack_unpack (w ∷ ws) word =
    ap (λ (n : ℕ). pack_from n ws (unpack ws word))
    (ap (λ (n : ℕ). n * 2 ^ w + field_of word (total ws) w % 2 ^ w) (sym (shr-shr word (total ws) w))
    ∙ ap (λ (n : ℕ). word / 2 ^ total ws / 2 ^ w * 2 ^ w + n) (mod-eq_of_lt (field_below word (total ws) w))
    ∙ split (word / 2 ^ total ws) w)
    ∙ pack_unpack ws word

-- the fields of any word are within their widths
pub unpacked_within : (ws : List ℕ) (word : ℕ) → Within ws (unpack ws word)
unpacked_within [] word = tt
unpacked_within (w ∷ ws) word = (field_below word (total ws) w, unpacked_within ws word)

-- A word of 64 bits.

module _ (ws : List ℕ) (room : total ws ≤ 64) where
  -- values within their widths are read back from the word that they make
  pub unpack_put : (vs : List ℕ) → Within ws vs → unpack ws (put_all 0 ws vs) ≡ vs
  unpack_put vs h = ap (unpack ws) (plain 0 0 ws vs (lit< tt) (omega arith)) ∙ unpack_pack 0 ws vs h

  -- a word is made again from its fields
  pub put_unpack : (word : ℕ) → word < 2 ^ total ws → put_all 0 ws (unpack ws word) ≡ word
  put_unpack word h =
      plain 0 0 ws (unpack ws word) (lit< tt) (omega arith)
      ∙ ap (λ (n : ℕ). pack_from n ws (unpack ws word)) (sym (div-eq_of_lt h))
      ∙ pack_unpack ws word

  -- values make a word of as many bits
  pub put_below : (vs : List ℕ) → Within ws vs → put_all 0 ws vs < 2 ^ total ws
  put_below vs h =
      let e : 0 + total ws ≡ total ws = omega arith in
      rw (plain 0 0 ws vs (lit< tt) (omega arith)) (rw e at (below 0 0 ws vs (lit< tt)))

-- Bytes, which are fields of eight bits.

-- bytes take eight bits each
pub bytes_total : (n : ℕ) → total (replicate n 8) ≡ 8 * n
bytes_total zero = refl
bytes_total (suc n) = rw (bytes_total n) (omega arith)

-- the lowest count bytes of a word are count
pub low_length : (count word : ℕ) → length (low_bytes count word) ≡ count
low_length zero word = refl
low_length (suc n) word = ap suc (low_length n word)

-- the number that bytes are is the one that fields of eight bits make
be_packs : (acc : ℕ) (bs : List ℕ) → Bytes bs → be_from acc bs ≡ pack_from acc (replicate (length bs) 8) bs
unfolding be_from
be_packs acc [] h = refl
be_packs acc (b ∷ bs) h =
    be_packs (acc * 2 ^ 8 + b) bs h.1 ∙ ap (λ (n : ℕ). pack_from (acc * 2 ^ 8 + n) (replicate (length bs) 8) bs) (sym (mod-eq_of_lt h.0))

-- bytes are within eight bits each
bytes_within : (bs : List ℕ) → Bytes bs → Within (replicate (length bs) 8) bs
bytes_within [] h = tt
bytes_within (b ∷ bs) h = (h.0, bytes_within bs h.1)

-- the bytes of a number are bytes
pub bytes_low : (count word : ℕ) → Bytes (low_bytes count word)
bytes_low zero word = tt
bytes_low (suc count) word = (field_below word _ 8, bytes_low count word)

-- a word of count bytes is the number that they are
pub be_low : (count word : ℕ) → word < 2 ^ (8 * count) → be (low_bytes count word) ≡ word
be_low count word h =
    let ws : List ℕ = replicate count 8 in
    let small : word < 2 ^ total ws = rw (bytes_total count) h in
    be_packs 0 (low_bytes count word) (bytes_low count word)
    ∙ ap (λ (n : ℕ). pack_from 0 (replicate n 8) (low_bytes count word)) (low_length count word)
    ∙ ap (λ (n : ℕ). pack_from n ws (low_bytes count word)) (sym (div-eq_of_lt small))
    ∙ pack_unpack ws word

-- bytes are those of the number that they are
pub low_be : (bs : List ℕ) → Bytes bs → low_bytes (length bs) (be bs) ≡ bs
low_be bs h = ap (low_bytes (length bs)) (be_packs 0 bs h) ∙ unpack_pack 0 (replicate (length bs) 8) bs (bytes_within bs h)

-- and that number is below 2 to their bits
pub be_below : (bs : List ℕ) → Bytes bs → be bs < 2 ^ (8 * length bs)
be_below bs h =
    let e : 0 + total (replicate (length bs) 8) ≡ 8 * length bs = omega (arith, bytes_total (length bs)) in
    rw (be_packs 0 bs h) (rw e at (below 0 0 (replicate (length bs) 8) bs (lit< tt)))

-- the number that a word's eight bytes are is the word
pub be_bytes : (word : ℕ) → word < 2 ^ 64 → be (bytes_of word) ≡ word
be_bytes word h = be_low 8 word h

-- What else records and refusals lean on.

-- a refusal is not 0
pub never : {A : Type 0} (n : ℕ) → suc n ≡ 0 → A
never n e = absurd (omega arith)

-- the same field of the same fields
pub same_at : (i : ℕ) {vs ws : List ℕ} → vs ≡ ws → get_or vs i 0 ≡ get_or ws i 0
same_at i e = ap (λ (l : List ℕ). get_or l i 0) e

-- no refusal: the fields are zero
pub zero_fields : (vs : List ℕ) → zeros_or14 vs ≡ 0 → vs ≡ replicate (length vs) 0
unfolding zeros_or14
zero_fields [] h = refl
zero_fields (v ∷ vs) h =
    cases (eqb v 0) (λ a. rw (eqb-true v 0 a) (ap (λ l. 0 ∷ l) (zero_fields vs (rw a at h)))) (λ a. never 13 (rw a at h))

-- two fields beside each other are zero as one if both are
zero_beside : (word at width : ℕ) → eqb (field_of word 0 (at + width)) 0 ≡ cond (eqb (field_of word at width) 0) (eqb (field_of word 0 at) 0) false
zero_beside word at width =
    let above_it = field_of word at width in
    let e = field_split word at width in
    cases (eqb above_it 0)
    (λ a.
    let z : above_it * 2 ^ at + field_of word 0 at ≡ field_of word 0 at = rw (eqb-true above_it 0 a) (omega arith) in
    rw (a, e, z))
    (λ a.
    rw (
      a,
      ne_eqb (field_of word 0 (at + width)) 0 (λ z.
          eqb-false above_it 0 a
          (sym (high above_it at (field_below word 0 at)) ∙ ap (λ (n : ℕ). n / 2 ^ at) (sym e ∙ z) ∙ div-eq_of_lt (pow_pos at))),
    ))

-- fields that end a word are zero if they are as one
pub zeros_field : (ws : List ℕ) (word : ℕ) → zeros_or14 (unpack ws word) ≡ zero_or14 (field_of word 0 (total ws))
unfolding zeros_or14
zeros_field [] word = let e : field_of word 0 0 ≡ 0 = omega (arith, field_below word 0 0) in rw e
zeros_field (w ∷ ws) word =
    rw (zero_beside word (total ws) w, zeros_field ws word)
    (cases (eqb (field_of word (total ws) w) 0) (λ a. rw a) (λ a. rw a))

-- a bit's number is below 2
pub bit_below : (b : Bool) → bit_number b < 2 ^ 1
bit_below true = lit< tt
bit_below false = lit< tt

-- a bit reads back from its number
pub bit_read : (b : Bool) → eqb (bit_number b) 1 ≡ b
bit_read true = refl
bit_read false = refl

-- a bit of a word is the number that it says
pub bit_written : (w at : ℕ) → bit_number (bit_at w at) ≡ field_of w at 1
bit_written w at =
    cases (bit_at w at) (λ a. rw a (sym (eqb-true _ 1 a))) (λ a. rw a (omega (arith, field_below w at 1, eqb-false (field_of w at 1) 1 a)))
