-- A field of a number that two parts make: it is a field of the upper part where it stands above the lower one, and of the lower part
-- where it ends below the upper one, whatever its place and width. So too for a field that is replaced. Assumes nothing.
use Rattle.std.specs.Prelude.{ℕ, ◌+◌, ◌*◌, ◌/◌, ◌%◌, ◌^◌, ◌<◌, ◌≤◌, ◌≡◌}
use Rattle.std.proofs.Common.{sym, ap, ap₂, ◌∙◌, subst, mul_assoc, mod-lt, lt_of_lt_of_le, arith, pow-add, pow_pos, pow_mono, shr-shr, shr_lt}
use Rattle.std.proofs.Math.Nat.{mul-add-div_right, mul-add-mod_self_right}
use Rattle.std.proofs.Math.Pow.{high, low}
use Rattle.std.proofs.lemmas.Nat.{mod-pow-add}
use Rattle.codec_fields.specs.Fields.{field_of, put_of}
use Rattle.codec_fields.proofs.Widths.{grown, field_whole, put_low}
use Rattle.codec_slices.specs.Slices.{over_field, over_word}

-- what stands above k bits and more
above : (h l k more : ℕ) → l < 2 ^ k → (h * 2 ^ k + l) / 2 ^ (k + more) ≡ h / 2 ^ more
above h l k more s = sym (shr-shr (h * 2 ^ k + l) k more) ∙ ap (λ (n : ℕ). n / 2 ^ more) (high h k s)

-- the upper part over fewer bits
over : (k more h : ℕ) → h * 2 ^ (more + k) ≡ h * 2 ^ more * 2 ^ k
over k more h = ap (λ (n : ℕ). h * n) (pow-add 2 more k) ∙ sym (mul_assoc h (2 ^ more) (2 ^ k))

-- what stands above fewer bits than the lower part has
within : (h l more at : ℕ) → (h * 2 ^ (more + at) + l) / 2 ^ at ≡ h * 2 ^ more + l / 2 ^ at
within h l more at = ap (λ (n : ℕ). (n + l) / 2 ^ at) (over at more h) ∙ mul-add-div_right (pow_pos at) (h * 2 ^ more) l

-- what stands below as many
rest_within : (h l more at : ℕ) → (h * 2 ^ (more + at) + l) % 2 ^ at ≡ l % 2 ^ at
rest_within h l more at = ap (λ (n : ℕ). (n + l) % 2 ^ at) (over at more h) ∙ mul-add-mod_self_right (h * 2 ^ more) (2 ^ at) l

-- a field in the upper part
pub field_above : (h l k at width : ℕ) → l < 2 ^ k → field_of (h * 2 ^ k + l) (k + at) width ≡ field_of h at width
unfolding field_of
field_above h l k at width s = ap (λ (n : ℕ). n % 2 ^ width) (above h l k at s)

-- a field in the lower part, with more bits of it above the field
pub field_within : (h l more at width : ℕ) → field_of (h * 2 ^ (more + width + at) + l) at width ≡ field_of l at width
unfolding field_of
field_within h l more at width =
    ap (λ (n : ℕ). n % 2 ^ width) (within h l (more + width) at) ∙ rest_within h (l / 2 ^ at) more width

-- a field replaced in the upper part
pub over_above : (h l k at width value : ℕ) → l < 2 ^ k → over_field (h * 2 ^ k + l) (k + at) width value ≡ over_field h at width value * 2 ^ k + l
unfolding over_field
over_above h l k at width value s =
    let n = h * 2 ^ k + l in
    let a : k + at + width ≡ k + (at + width) = omega arith in
    let b : k + at ≡ at + k = omega arith in
    let up : n / 2 ^ (k + at + width) ≡ h / 2 ^ (at + width) = ap (λ (m : ℕ). n / 2 ^ m) a ∙ above h l k (at + width) s in
    let down : n % 2 ^ (k + at) ≡ h % 2 ^ at * 2 ^ k + l =
    ap (λ (m : ℕ). n % 2 ^ m) b ∙ mod-pow-add n at k ∙ ap₂ (λ (x y : ℕ). x % 2 ^ at * 2 ^ k + y) (high h k s) (low h k s) in
    rw (up, down, pow-add 2 k at) (together (h / 2 ^ (at + width) * 2 ^ width + value % 2 ^ width) (2 ^ k) (2 ^ at) (h % 2 ^ at) l)
  where
    together : (x p q m l : ℕ) → x * (p * q) + (m * p + l) ≡ (x * q + m) * p + l
    together x p q m l = omega arith

-- a field replaced in the lower part, with more bits of it above the field
pub over_within :
    (h l more at width value : ℕ)
    → over_field (h * 2 ^ (more + width + at) + l) at width value ≡ h * 2 ^ (more + width + at) + over_field l at width value
unfolding over_field
over_within h l more at width value =
    let a : more + width + at ≡ more + (at + width) = omega arith in
    let up : (h * 2 ^ (more + width + at) + l) / 2 ^ (at + width) ≡ h * 2 ^ more + l / 2 ^ (at + width) =
    ap (λ (m : ℕ). (h * 2 ^ m + l) / 2 ^ (at + width)) a ∙ within h l more (at + width) in
    let p : 2 ^ (more + width + at) ≡ 2 ^ more * 2 ^ width * 2 ^ at = pow-add 2 (more + width) at ∙ ap (λ (m : ℕ). m * 2 ^ at) (pow-add 2 more width) in
    rw (up, rest_within h l (more + width) at, p)
    (together h (2 ^ more) (l / 2 ^ (at + width)) (2 ^ width) (value % 2 ^ width) (2 ^ at) (l % 2 ^ at))
  where
    together : (h m u w v t d : ℕ) → ((h * m + u) * w + v) * t + d ≡ h * (m * w * t) + ((u * w + v) * t + d)
    together h m u w v t d = omega arith

-- what stands above a field that was replaced, and the field
pub over_high : (n at width value : ℕ) → over_field n at width value / 2 ^ at ≡ n / 2 ^ (at + width) * 2 ^ width + value % 2 ^ width
unfolding over_field
over_high n at width value = high (n / 2 ^ (at + width) * 2 ^ width + value % 2 ^ width) at (mod-lt n (pow_pos at))

-- a number keeps its bits
pub over_below : (more n at width value : ℕ) → n < 2 ^ (more + width + at) → over_field n at width value < 2 ^ (more + width + at)
unfolding over_field
over_below more n at width value s =
    let a : more + width + at ≡ more + (at + width) = omega arith in
    let t : n / 2 ^ (at + width) < 2 ^ more = shr_lt more (at + width) (subst (λ (m : ℕ). n < 2 ^ m) a s) in
    grown (more + width) at _ _ (grown more width _ _ t (mod-lt value (pow_pos width))) (mod-lt n (pow_pos at))

-- in a word of which the field and what stands beside it are all, the parts put below one another are the word with the field replaced
pub over_word_lem : (more word after width value : ℕ) → word < 2 ^ (more + width + after) → more + width + after ≤ 64 → over_word word after width value ≡ over_field word after width value
unfolding over_word over_field
over_word_lem more word after width value s fits =
    let a : more + width + after ≡ more + (after + width) = omega arith in
    let t : word / 2 ^ (after + width) < 2 ^ more = shr_lt more (after + width) (subst (λ (m : ℕ). word < 2 ^ m) a s) in
    let w : word < 2 ^ 64 = lt_of_lt_of_le s (pow_mono fits) in
    let first : put_of (field_of word (after + width) 64) width value ≡ word / 2 ^ (after + width) * 2 ^ width + value % 2 ^ width =
    ap (λ (m : ℕ). put_of m width value) (field_whole word (after + width) 64 w (omega arith)) ∙ put_low more width _ value t (omega arith) in
    ap (λ (m : ℕ). put_of m after word) first
    ∙ put_low (more + width) after _ word (grown more width _ _ t (mod-lt value (pow_pos width))) (omega arith)
