-- The fact about bit fields, once over the width: a mask takes the lowest bits, and a shift and an or put bits below a number. Assumes nothing.
use Rattle.std.specs.Prelude.{ℕ, ◌+◌, ◌-◌, ◌*◌, ◌/◌, ◌%◌, ◌^◌, ◌<◌, ◌≤◌, ◌≡◌, refl, List, [], ◌∷◌, ◌++◌, length, take, drop, get_or}
use Rattle.std.proofs.Common.{sym, ap, ◌∙◌, one-mul, mod-lt, add-zero, add_comm, mod-eq_of_lt, lt_of_lt_of_le, lt_of_le_of_lt, mul_assoc, add-one, shl_exact, pow-add, pow_pos, pow_mono, length-drop, take-suc, get_or-drop, lit<}
use Rattle.std.proofs.Math.Path.{subst}
use Rattle.std.proofs.Math.Nat.{zero-mod, div-one, div-eq_of_lt}
use native.Mathlib.Omega.{arith}
use Rattle.std.specs.Int.Bits.{bit_and, bit_or}
use Rattle.std.proofs.lemmas.Nat.{and_mask, or_shifted, mod-pow-add, shr_le}
use Rattle.std.proofs.Math.Pow.{high, low}
use Rattle.std.proofs.Math.Arith.{digits_lt}
use Rattle.codec_fields.specs.Fields.{field_of, put_of, be, be_from}

-- a field is below 2 to its width
pub field_below : (word at width : ℕ) → field_of word at width < 2 ^ width
unfolding field_of
field_below word at width = mod-lt (word / 2 ^ at) (pow_pos width)

-- no field stands above 64 bits
pub field_past : (word at width : ℕ) → word < 2 ^ 64 → 64 ≤ at → field_of word at width ≡ 0
unfolding field_of
field_past word at width h l = ap (λ (n : ℕ). n % 2 ^ width) (div-eq_of_lt (lt_of_lt_of_le h (pow_mono l))) ∙ zero-mod (2 ^ width)

-- a field of 64 bits or more is all that stands above its place
pub field_whole : (word at width : ℕ) → word < 2 ^ 64 → 64 ≤ width → field_of word at width ≡ word / 2 ^ at
unfolding field_of
field_whole word at width h l = mod-eq_of_lt (lt_of_lt_of_le (lt_of_le_of_lt (shr_le word at) h) (pow_mono l))

-- a field and what stands below it, as one
pub field_split : (word at width : ℕ) → field_of word 0 (at + width) ≡ field_of word at width * 2 ^ at + field_of word 0 at
unfolding field_of
field_split word at width = rw div-one (ap (λ (n : ℕ). word % 2 ^ n) (add_comm at width) ∙ mod-pow-add word width at)

-- a number and width bits below it, within some bits more
cut : (more width word : ℕ) {value : ℕ} → value < 2 ^ width → (word * 2 ^ width + value) % 2 ^ (more + width) ≡ word % 2 ^ more * 2 ^ width + value
cut more width word {value} h = mod-pow-add (word * 2 ^ width + value) more width ∙ rw (high word width h, low word width h)

-- a shift and an or, within some bits more
or_cut :
    (more width word : ℕ) {value : ℕ}
    → value < 2 ^ width
    → bit_or ((word * 2 ^ width) % 2 ^ (more + width)) value ≡ (word * 2 ^ width + value) % 2 ^ (more + width)
or_cut more width word {value} h =
    let e : (word * 2 ^ width) % 2 ^ (more + width) ≡ word % 2 ^ more * 2 ^ width =
    ap (λ (n : ℕ). n % 2 ^ (more + width)) (sym (add-zero (word * 2 ^ width))) ∙ cut more width word (pow_pos width) ∙ add-zero _ in
    rw (e, cut more width word h) (or_shifted (word % 2 ^ more) width value h)

module _ (width : ℕ) (short : width < 64) where
  -- the code's power of two
  mask_is : (1 * 2 ^ width) % 2 ^ 64 ≡ 2 ^ width
  mask_is = shl_exact 1 width 64 (lit< tt) (omega arith) ∙ one-mul (2 ^ width)

  -- which is not 0, so that one can be taken from it
  pub mask_some : 0 < (1 * 2 ^ width) % 2 ^ 64
  mask_some = rw mask_is (pow_pos width)

  -- reading: the mask takes the field
  pub masked : (word at : ℕ) → bit_and (word / 2 ^ at) ((1 * 2 ^ width) % 2 ^ 64 - 1) ≡ field_of word at width
  unfolding field_of
  masked word at = rw mask_is (and_mask (word / 2 ^ at) width)

  -- putting: the shift makes room and the or fills it
  pub placed : (word value : ℕ) → bit_or ((word * 2 ^ width) % 2 ^ 64) (field_of value 0 width) ≡ put_of word width value
  unfolding field_of put_of
  placed word value =
      let e : 64 - width + width ≡ 64 = omega arith in
      subst (λ (n : ℕ). bit_or ((word * 2 ^ width) % 2 ^ n) (value / 1 % 2 ^ width) ≡ (word * 2 ^ width + value % 2 ^ width) % 2 ^ n) e
      (rw div-one (or_cut (64 - width) width word (mod-lt value (pow_pos width))))

-- a value of 64 bits or more leaves nothing of what stands above it
pub put_whole : (word width value : ℕ) → value < 2 ^ 64 → 64 ≤ width → put_of word width value ≡ value
unfolding put_of
put_whole word width value h l =
    let e : width - 64 + 64 ≡ width = omega arith in
    let p : word * 2 ^ width ≡ word * 2 ^ (width - 64) * 2 ^ 64 =
    ap (λ (n : ℕ). word * 2 ^ n) (sym e) ∙ ap (λ (n : ℕ). word * n) (pow-add 2 (width - 64) 64) ∙ sym (mul_assoc word (2 ^ (width - 64)) (2 ^ 64)) in
    ap (λ (n : ℕ). (word * 2 ^ width + n) % 2 ^ 64) (mod-eq_of_lt (lt_of_lt_of_le h (pow_mono l)))
    ∙ ap (λ (n : ℕ). (n + value) % 2 ^ 64) p
    ∙ low (word * 2 ^ (width - 64)) 64 h

-- a value within its width below a number of k bits
pub grown : (k width word value : ℕ) → word < 2 ^ k → value < 2 ^ width → word * 2 ^ width + value < 2 ^ (k + width)
grown k width word value hn hv = rw pow-add (digits_lt hn hv)

-- a value's lowest bits below a number, where nothing falls away
pub put_low : (k width word value : ℕ) → word < 2 ^ k → k + width ≤ 64 → put_of word width value ≡ word * 2 ^ width + value % 2 ^ width
unfolding put_of
put_low k width word value h l = mod-eq_of_lt (lt_of_lt_of_le (grown k width word (value % 2 ^ width) h (mod-lt value (pow_pos width))) (pow_mono l))

-- a value within its width, where nothing falls away
pub put_plain : (k width word value : ℕ) → word < 2 ^ k → value < 2 ^ width → k + width ≤ 64 → put_of word width value ≡ word * 2 ^ width + value
put_plain k width word value hn hv l = put_low k width word value hn l ∙ ap (λ (n : ℕ). word * 2 ^ width + n) (mod-eq_of_lt hv)

-- one more byte at the end
be_from_snoc : (acc : ℕ) (xs : List ℕ) (b : ℕ) → be_from acc (xs ++ (b ∷ [])) ≡ be_from acc xs * 2 ^ 8 + b
unfolding be_from
be_from_snoc acc [] b = refl
be_from_snoc acc (x ∷ xs) b = be_from_snoc (acc * 2 ^ 8 + x) xs b

-- one more byte of a slice
pub be_suc : (s : List ℕ) (at i : ℕ) → at + i < length s → be (take (i + 1) (drop at s)) ≡ be (take i (drop at s)) * 2 ^ 8 + get_or s (at + i) 0
unfolding be_from
be_suc s at i h =
    let k : i < length (drop at s) = simp length-drop (omega arith) in
    rw (add-one, take-suc (drop at s) i 0, be_from_snoc, get_or-drop)

-- a field is below 2 to any width that is no less
pub field_within : (word at width bits : ℕ) → width ≤ bits → field_of word at width < 2 ^ bits
field_within word at width bits l = lt_of_lt_of_le (field_below word at width) (pow_mono l)

-- one byte more of bytes: their number, put below the number of those before it
pub be_more :
    (bs : List ℕ) (i : ℕ)
    → i < length bs
    → i < 8
    → get_or bs i 0 < 2 ^ 8
    → be (take i bs) < 2 ^ (8 * i)
    → (put_of (be (take i bs)) 8 (get_or bs i 0) ≡ be (take (i + 1) bs)) × (be (take (i + 1) bs) < 2 ^ (8 * (i + 1)))
unfolding be_from
be_more bs i l few byte small =
    let e : be (take (i + 1) bs) ≡ be (take i bs) * 2 ^ 8 + get_or bs i 0 = rw (add-one, take-suc bs i 0, be_from_snoc) in
    let m : 8 * i + 8 ≡ 8 * (i + 1) = omega arith in
    (put_plain (8 * i) 8 _ _ small byte (omega arith) ∙ sym e, rw e (rw m at (grown (8 * i) 8 _ _ small byte)))
