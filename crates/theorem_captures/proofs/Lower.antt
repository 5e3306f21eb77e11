-- A line whose frame is one that P1 writes comes back as it was, in lower case. The theorem has its statement here. Assumes nothing.
use Rattle.std.specs.Prelude.{ℕ, zero, suc, ◌+◌, ◌-◌, ◌*◌, ◌/◌, ◌%◌, ◌<◌, ◌≤◌, ◌≡◌, refl, List, [], ◌∷◌, ◌++◌, Bool, true, false, not, ◌&&◌, length, get_or, drop, eqb, ltb, leb}
use Rattle.std.proofs.Common.{sym, ap, ◌∙◌, subst, append-nil, append_assoc, arith, add-one, zero-add, lt-ltb, le-ltb, ne_eqb, ltb-true, leb-true, leb-false, eqb-true, length-append, take_all}
use Rattle.std.proofs.lemmas.Bool.{lt-leb, not-true, eqb-false}
use borrow.Table.Steps.{cases}
use Rattle.codec_frames.specs.Frames.{frame_bytes}
use Rattle.capture_lines.specs.Lines.{space, line_feed, zero_digit, clock_limit, between, digit_of, is_decimal, is_hex, digits_at, after_digits, decimal_from, decimal, pairs_at, after_pairs, some, begins, is_end, is_time, after_time, is_built, line_of, joined, lines_of}
use Rattle.capture_lines.proofs.Laws.{between_is}
use Rattle.capture_text.specs.Text.{digit_count, last_digits, most_digits, decimal_text, hex_digit, hex_text, line_text}
use Rattle.theorem_captures.proofs.Accepted.{and_both, line_is, pairs_bytes}
use Rattle.theorem_captures.specs.Again.{said_again, lines_again}
use Rattle.theorem_captures.proofs.Again.{capture_again}
use Rattle.theorem_frames.proofs.RoundTrip.{frame_writes_back}
use Rattle.capture_import.specs.Import.{entries_of, import_of}
use Rattle.capture_export.specs.Export.{export_of}
use Rattle.theorem_captures.specs.Lower.{Decimals, WrittenLine, WrittenLines, lower, lower_case, tens}

-- Hex digits

no_between : (low high b : ℕ) → b < low → between low high b ≡ false
no_between low high b h = rw (lt-leb low b h)

-- a hex digit's value is written as that digit in lower case
digit_again : (b : ℕ) → digit_of b < 16 → hex_digit (digit_of b) ≡ lower b
unfolding digit_of hex_digit
digit_again b h =
    cases (between 48 57 b)
    (λ a.
    let r = between_is 48 57 b a in
    let e : 48 + (b - 48) ≡ b = omega arith in
    rw (a, lt-ltb (b - 48) 10 (omega arith), no_between 65 70 b (omega arith)) e)
    (λ a.
    cases (between 65 70 b)
    (λ c.
    let r = between_is 65 70 b c in
    let e : 87 + (b - 55) ≡ b + 32 = omega arith in
    rw (a, c, le-ltb (b - 55) 10 (omega arith)) e)
    (λ c.
    cases (between 97 102 b)
    (λ d.
    let r = between_is 97 102 b d in
    let e : 87 + (b - 87) ≡ b = omega arith in
    rw (a, c, d, le-ltb (b - 87) 10 (omega arith)) e)
    (λ d. absurd (none (rw (a, c, d) at h)))))
  where
    none : 16 < 16 → ⊥
    none g = omega arith

-- pairs of hex digits are written as they were, in lower case
hex_again : (h : List ℕ) → hex_text (pairs_at h) ++ lower_case (after_pairs h) ≡ lower_case h
unfolding hex_text
hex_again [] = refl
hex_again (a ∷ []) = refl
hex_again (a ∷ b ∷ rest) =
    cases (is_hex a && is_hex b)
    (λ e.
    let both = and_both (is_hex a) (is_hex b) e in
    let high = ltb-true (digit_of a) 16 both.0 in
    let low = ltb-true (digit_of b) 16 both.1 in
    let first : (16 * digit_of a + digit_of b) / 16 ≡ digit_of a = omega arith in
    let second : (16 * digit_of a + digit_of b) % 16 ≡ digit_of b = omega arith in
    rw (e, first, second, digit_again a high, digit_again b low, hex_again rest))
    (λ e. rw e)

-- Decimal digits

digits_decimal : (text : List ℕ) → Decimals (digits_at text)
digits_decimal [] = tt
digits_decimal (b ∷ rest) = cases (is_decimal b) (λ a. rw a (ltb-true (digit_of b) 10 a, digits_decimal rest)) (λ a. rw a tt)

-- a decimal digit is 48 and its value
digit_is : (b : ℕ) → digit_of b < 10 → zero_digit + digit_of b ≡ b
unfolding digit_of
digit_is b h =
    cases (between 48 57 b)
    (λ a. let r = between_is 48 57 b a in rw a (omega arith))
    (λ a.
    cases (between 65 70 b)
    (λ c. let r = between_is 65 70 b c in let g : b - 55 < 10 = rw (a, c) at h in absurd (omega arith))
    (λ c.
    cases (between 97 102 b)
    (λ d. let r = between_is 97 102 b d in let g : b - 87 < 10 = rw (a, c, d) at h in absurd (omega arith))
    (λ d. let g : 16 < 10 = rw (a, c, d) at h in absurd (omega arith))))

-- and no letter
digit_lower : (b : ℕ) → digit_of b < 10 → lower b ≡ b
digit_lower b h =
    let e = digit_is b h in
    rw (no_between 65 70 b (omega arith))

-- a list by its last element
data Ends : List ℕ → Type 0 where
  empty : Ends []
  behind : {l : List ℕ} → Ends l → (b : ℕ) → Ends (l ++ (b ∷ []))

ends_with : {l : List ℕ} → Ends l → (rest : List ℕ) → Ends (l ++ rest)
ends_with {l} e [] = subst Ends (sym (append-nil l)) e
ends_with {l} e (b ∷ rest) = subst Ends (append_assoc l (b ∷ []) rest) (ends_with (behind e b) rest)

ends : (l : List ℕ) → Ends l
ends l = ends_with empty l

pub decimal_behind : (n : ℕ) (l : List ℕ) (b : ℕ) → decimal_from n (l ++ (b ∷ [])) ≡ decimal_from n l * 10 + digit_of b
decimal_behind n [] b = refl
decimal_behind n (x ∷ l) b = decimal_behind (n * 10 + digit_of x) l b

decimals_behind : (l : List ℕ) (b : ℕ) → Decimals (l ++ (b ∷ [])) → Decimals l × (digit_of b < 10)
decimals_behind [] b d = (tt, d.0)
decimals_behind (x ∷ l) b d = let r = decimals_behind l b d.1 in ((d.0, r.0), r.1)

-- as many digits of a number are those that it was made of
last_again : (l : List ℕ) → Ends l → Decimals l → last_digits (length l) (decimal l) ≡ l
unfolding last_digits
last_again l empty d = refl
last_again l (behind {l = m} e b) d =
    let parts = decimals_behind m b d in
    let n = decimal m in
    let size : length (m ++ (b ∷ [])) ≡ suc (length m) = length-append m (b ∷ []) ∙ add-one (length m) in
    let tens : (n * 10 + digit_of b) / 10 ≡ n = omega (arith, parts.1) in
    let ones : (n * 10 + digit_of b) % 10 ≡ digit_of b = omega (arith, parts.1) in
    rw (size, decimal_behind 0 m b, tens, ones, last_again m e parts.0, digit_is b parts.1)

-- How many digits

tens_grow : (k m : ℕ) → tens k ≤ tens (k + m)
tens_grow k zero = let e : k + 0 ≡ k = omega arith in rw e (omega arith)
tens_grow k (suc m) = let e : k + suc m ≡ suc (k + m) = omega arith in let h = tens_grow k m in rw e (omega arith)

-- digits behind a number make it grow
decimal_grows : (l : List ℕ) (n k : ℕ) → tens k ≤ n → tens (k + length l) ≤ decimal_from n l
decimal_grows [] n k h = let e : k + 0 ≡ k = omega arith in rw e h
decimal_grows (b ∷ l) n k h =
    let e : k + suc (length l) ≡ suc k + length l = omega arith in
    rw e (decimal_grows l (n * 10 + digit_of b) (suc k) (omega arith))

-- a number that begins with a digit other than 0 has at most 15 of them below the clock's limit
few_digits : (b : ℕ) (l : List ℕ) → 1 ≤ digit_of b → decimal (b ∷ l) < clock_limit → suc (length l) ≤ most_digits
few_digits b l first below =
    cases (leb 15 (length l))
    (λ a.
    let long = leb-true 15 (length l) a in
    let e : 15 + (length l - 15) ≡ length l = omega arith in
    let grown : tens (length l) ≤ decimal (b ∷ l) = rw (zero-add (length l)) at (decimal_grows l (0 * 10 + digit_of b) 0 (omega arith)) in
    let most : tens 15 ≤ tens (length l) = rw e at (tens_grow 15 (length l - 15)) in
    absurd (omega arith))
    (λ a. omega (arith, leb-false 15 (length l) a))

-- so many digits are counted
count_again : (l : List ℕ) → Ends l → Decimals l → 1 ≤ length l → (2 ≤ length l → 1 ≤ digit_of (get_or l 0 0)) → (most : ℕ) → length l ≤ most → digit_count most (decimal l) ≡ length l
unfolding digit_count
count_again l e d one lead zero few = absurd (omega arith)
count_again l empty d one lead (suc most) few = absurd (omega arith)
count_again l (behind {l = []} e b) d one lead (suc most) few = rw (lt-ltb (0 * 10 + digit_of b) 10 (omega (arith, d.0)))
count_again l (behind {l = x ∷ r} e b) d one lead (suc most) few =
    let m = x ∷ r in
    let n = decimal m in
    let parts = decimals_behind m b d in
    let size : length (m ++ (b ∷ [])) ≡ suc (length m) = length-append m (b ∷ []) ∙ add-one (length m) in
    let first : 1 ≤ digit_of x = lead (omega arith) in
    let least : tens 0 ≤ tens (0 + length r) = tens_grow 0 (length r) in
    let grown : tens (0 + length r) ≤ n = decimal_grows r (0 * 10 + digit_of x) 0 (omega arith) in
    let ten : 10 ≤ n * 10 + digit_of b = omega arith in
    let up : (n * 10 + digit_of b) / 10 ≡ n = omega (arith, parts.1) in
    rw (decimal_behind 0 m b, le-ltb (n * 10 + digit_of b) 10 ten, up, size)
    (ap suc (count_again m e parts.0 (omega arith) (λ h. first) most (omega arith)))

-- a time is written as its digits
time_again : (l : List ℕ) → Decimals l → is_time l ≡ true → decimal_text (decimal l) ≡ l
unfolding decimal_text
time_again [] d h = let z : ◌≡◌ {A = ℕ} 0 1 = cc in absurd (omega arith)
time_again (b ∷ l) d h =
    let zeros = begins zero_digit (b ∷ l) && not (eqb (length (b ∷ l)) 1) in
    let two = and_both (true && not zeros) (ltb (decimal (b ∷ l)) clock_limit) h in
    let below = ltb-true (decimal (b ∷ l)) clock_limit two.1 in
    let plain : zeros ≡ false = not-true zeros two.0 in
    let is = digit_is b d.0 in
    let lead : 2 ≤ suc (length l) → 1 ≤ digit_of b =
    λ long.
    cases (eqb b zero_digit)
    (λ a.
    let one : eqb (suc (length l)) 1 ≡ false = ne_eqb (suc (length l)) 1 (λ e. omega arith) in
    let bad : ◌≡◌ {A = Bool} true false = rw (a, one) at plain in
    let z : ◌≡◌ {A = ℕ} 0 1 = cc in
    absurd (omega arith))
    (λ a. omega (arith, eqb-false b zero_digit a)) in
    let few : suc (length l) ≤ most_digits =
    cases (leb 2 (suc (length l)))
    (λ a. few_digits b l (lead (leb-true 2 (suc (length l)) a)) below)
    (λ a. omega (arith, leb-false 2 (suc (length l)) a)) in
    rw (count_again (b ∷ l) (ends (b ∷ l)) d (omega arith) lead most_digits few) (last_again (b ∷ l) (ends (b ∷ l)) d)

-- A line

digits_lower : (l : List ℕ) → Decimals l → lower_case l ≡ l
digits_lower [] d = refl
digits_lower (b ∷ l) d = rw (digit_lower b d.0, digits_lower l d.1)

lower_append : (a b : List ℕ) → lower_case (a ++ b) ≡ lower_case a ++ lower_case b
lower_append [] b = refl
lower_append (x ∷ a) b = ap (λ (l : List ℕ). lower x ∷ l) (lower_append a b)

digits_split : (text : List ℕ) → digits_at text ++ after_digits text ≡ text
digits_split [] = refl
digits_split (b ∷ rest) = cases (is_decimal b) (λ a. rw a (ap (λ (l : List ℕ). b ∷ l) (digits_split rest))) (λ a. rw a)

begins_is : (a : ℕ) (l : List ℕ) → begins a l ≡ true → l ≡ a ∷ drop 1 l
begins_is a [] h = let z : ◌≡◌ {A = ℕ} 0 1 = cc in absurd (omega arith)
begins_is a (b ∷ l) h = ap (λ (x : ℕ). x ∷ l) (eqb-true b a h)

end_is : (l : List ℕ) → is_end l ≡ true → l ≡ line_feed ∷ []
end_is [] h = let z : ◌≡◌ {A = ℕ} 0 1 = cc in absurd (omega arith)
end_is (b ∷ []) h = ap (λ (x : ℕ). x ∷ []) (eqb-true b line_feed h)
end_is (b ∷ c ∷ l) h = let z : ◌≡◌ {A = ℕ} 0 1 = cc in absurd (omega arith)

-- A line that is built as lines are is, in lower case, the line that is written of its time and of the bytes of its frame
pub built_again : (l : List ℕ) → is_built l ≡ true → line_text (decimal (digits_at l)) (pairs_at (after_time l)) ≡ lower_case l
unfolding is_built line_text
built_again l h =
    let d = digits_at l in
    let r = after_time l in
    let time = is_time d in
    let spaced = begins space (after_digits l) in
    let paired = some (pairs_at r) in
    let four = and_both (time && spaced && paired) (is_end (after_pairs r)) h in
    let two = and_both time spaced (and_both (time && spaced) paired four.0).0 in
    let whole : d ++ (space ∷ r) ≡ l = ap (λ (x : List ℕ). d ++ x) (sym (begins_is space (after_digits l) two.1)) ∙ digits_split l in
    let hex : hex_text (pairs_at r) ++ (line_feed ∷ []) ≡ lower_case r =
    ap (λ (x : List ℕ). hex_text (pairs_at r) ++ lower_case x) (sym (end_is (after_pairs r) four.1)) ∙ hex_again r in
    rw (time_again d (digits_decimal l) two.0, hex)
    (sym (ap lower_case (sym whole) ∙ lower_append d (space ∷ r) ∙ rw (digits_lower d (digits_decimal l))))

-- a line whose frame is an SD1, SD4 or SC of a telegram that P1 writes comes back as it was, in lower case
pub line_again : (l : List ℕ) → WrittenLine l → said_again (line_of l) ≡ lower_case l
line_again l w =
    let f = pairs_at (after_time l) in
    let is = line_is l w.says in
    let bytes : frame_bytes w.telegram ≡ f =
    frame_writes_back f (pairs_bytes (after_time l)) is.2 w.start w.other ∙ take_all (length f) f (omega arith) in
    rw (w.says, w.other, bytes, is.1) (built_again l is.0)

-- lines one behind the other
abbrev together : List (List ℕ) → List ℕ
together [] = []
together (l ∷ ls) = l ++ together ls

joined_together : (b : ℕ) (ls : List (List ℕ)) → together (joined b ls) ≡ b ∷ together ls
joined_together b [] = refl
joined_together b (l ∷ ls) = refl

-- are the text
lines_together : (text : List ℕ) → together (lines_of text) ≡ text
lines_together [] = refl
lines_together (b ∷ rest) =
    cases (eqb b line_feed)
    (λ a. rw a (ap (λ (l : List ℕ). b ∷ l) (lines_together rest)))
    (λ a. rw a (joined_together b (lines_of rest) ∙ ap (λ (l : List ℕ). b ∷ l) (lines_together rest)))

again_together : (ls : List (List ℕ)) → WrittenLines ls → lines_again ls ≡ lower_case (together ls)
again_together [] w = refl
again_together (l ∷ ls) w = rw (line_again l w.0, again_together ls w.1) (sym (lower_append l (together ls)))

-- An export of an accepted capture's entries, where P1 writes each frame of the capture as it stands there, gives with room for it
-- the capture back, in lower case
pub capture_back :
    (text : List ℕ) (room wide : ℕ)
    → (import_of text room).refusal ≡ 0
    → WrittenLines (lines_of text)
    → length (lower_case text) ≤ wide
    → export_of (entries_of (import_of text room).polls) wide ≡ record { text = lower_case text; refusal = 0; entry = 0 }
capture_back text room wide ok w fits =
    let same : lines_again (lines_of text) ≡ lower_case text = again_together (lines_of text) w ∙ ap lower_case (lines_together text) in
    capture_again text room wide ok (rw same fits) ∙ rw same
